use Rattle.std.proofs.Common.{refl}
use Rattle.wit_data.specs.Ownership.{AliasesNamed}
use Rattle.wit_shape.specs.declared.place.ShapePlace.TheVariants as shape
use Rattle.wit_graph_faults.proofs.Carried.{carried_first}
use Rattle.wit_graph_faults.specs.declared.place.GraphPlace.TheVariants as place
use Rattle.wit_graph_faults.proofs.shared.aliases.Goals as goal

pub returns : goal.returns
returns c = carried_first shape.Type_ place.Type_ (λ i. refl) (λ _. AliasesNamed c.args.types.now c.args.interfaces.now) c.args.types.now _ c.in_graph.result c.in_graph.ensures c.aliases.ensures
