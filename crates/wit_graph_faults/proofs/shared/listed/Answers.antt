use Rattle.std.proofs.Common.{refl}
use Rattle.wit_data.specs.Ownership.{IsListed}
use Rattle.wit_data.specs.declared.types.TypeDef.{TypeDef}
use Rattle.wit_shape.specs.declared.place.ShapePlace.TheVariants as shape
use Rattle.wit_graph_faults.proofs.Carried.{carried_first}
use Rattle.wit_graph_faults.specs.declared.place.GraphPlace.TheVariants as place
use Rattle.wit_graph_faults.proofs.shared.listed.Goals as goal

pub returns : goal.returns
returns c = carried_first shape.Type_ place.Type_ (λ i. refl) (λ i (def : TypeDef). IsListed c.args.interfaces.now c.args.worlds.now i def.name def.owner) c.args.types.now _ c.in_graph.result c.in_graph.ensures c.in_ok-listed.ensures
