use Rattle.std.proofs.Common.{take, refl}
use Rattle.std.specs.Prelude.{Contains}
use Rattle.wit_data.specs.Entries.{StandOnce}
use Rattle.wit_shape.specs.Faults.{unnamed_in_worlds}
use Rattle.wit_shape.specs.declared.place.ShapePlace.TheVariants as shape
use Rattle.wit_graph_faults.proofs.Carried.{carried_id}
use Rattle.wit_graph_faults.specs.declared.place.GraphPlace.TheVariants as place
use Rattle.wit_graph_faults.proofs.shared.once.Goals as goal

pub returns : goal.returns
returns c = carried_id shape.Interface place.Interface (λ i. refl) (StandOnce c.args.interfaces.now c.args.worlds.now) (λ i id. Contains (take i (unnamed_in_worlds c.args.interfaces.now c.args.worlds.now)) id → ⊥) (unnamed_in_worlds c.args.interfaces.now c.args.worlds.now) _ c.in_graph.result c.in_graph.ensures c.in_ok-once.ensures
