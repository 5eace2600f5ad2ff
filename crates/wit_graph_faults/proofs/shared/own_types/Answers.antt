use Rattle.std.proofs.Common.{ℕ, List, refl}
use Rattle.wit_data.specs.Ownership.{IsTypeOf}
use Rattle.wit_data.specs.declared.interface.Interface.{Interface}
use Rattle.wit_data.specs.declared.types.TypeOwner.TheVariants as owner
use Rattle.wit_shape.specs.declared.place.ShapePlace.TheVariants as shape
use Rattle.wit_graph_faults.proofs.Carried.{carried_within}
use Rattle.wit_graph_faults.specs.declared.place.GraphPlace.TheVariants as place
use Rattle.wit_graph_faults.proofs.shared.own_types.Goals as goal

pub returns : goal.returns
returns c = carried_within shape.InterfaceType place.InterfaceType (λ i k. refl) (λ f (interface : Interface) (e : List ℕ × ℕ). IsTypeOf c.args.types.now (owner.Interface f) e.0 e.1) (λ (interface : Interface). interface.types) c.args.interfaces.now _ c.in_graph.result c.in_graph.ensures c.own_types.ensures
