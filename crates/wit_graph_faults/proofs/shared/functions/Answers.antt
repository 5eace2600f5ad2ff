use Rattle.std.proofs.Common.{◌≡◌, ℕ, List, refl}
use Rattle.wit_data.specs.declared.function.Function.{Function}
use Rattle.wit_data.specs.declared.interface.Interface.{Interface}
use Rattle.wit_shape.specs.declared.place.ShapePlace.TheVariants as shape
use Rattle.wit_graph_faults.proofs.Carried.{carried_within}
use Rattle.wit_graph_faults.specs.declared.place.GraphPlace.TheVariants as place
use Rattle.wit_graph_faults.proofs.shared.functions.Goals as goal

pub returns : goal.returns
returns c = carried_within shape.Function place.Function (λ i k. refl) (λ _ (interface : Interface) (e : List ℕ × Function). e.1.name ≡ e.0) (λ (interface : Interface). interface.functions) c.args.interfaces.now _ c.in_graph.result c.in_graph.ensures c.functions.ensures
