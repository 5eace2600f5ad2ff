use Rattle.std.proofs.Common.{IfSome, refl}
use Rattle.wit_names.specs.UsePath.{IsKebabName}
use Rattle.wit_data.specs.declared.interface.Interface.{Interface}
use Rattle.wit_shape.specs.declared.place.ShapePlace.TheVariants as shape
use Rattle.wit_graph_faults.proofs.Carried.{carried_first}
use Rattle.wit_graph_faults.specs.declared.place.GraphPlace.TheVariants as place
use Rattle.wit_graph_faults.proofs.shared.interface_names.Goals as goal

pub returns : goal.returns
returns c = carried_first shape.Interface place.Interface (λ i. refl) (λ _ (interface : Interface). IfSome interface.name IsKebabName) c.args.interfaces.now _ c.in_graph.result c.in_graph.ensures c.interfaces.ensures
