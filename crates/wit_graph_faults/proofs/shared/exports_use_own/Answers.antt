use Rattle.std.proofs.Common.{refl}
use Rattle.wit_data.specs.Entries.{Entry, ItemUsesOwn}
use Rattle.wit_data.specs.declared.world.World.{World}
use Rattle.wit_shape.specs.declared.place.ShapePlace.TheVariants as shape
use Rattle.wit_graph_faults.proofs.Carried.{carried_within}
use Rattle.wit_graph_faults.specs.declared.place.GraphPlace.TheVariants as place
use Rattle.wit_graph_faults.proofs.shared.exports_use_own.Goals as goal

pub returns : goal.returns
returns c = carried_within shape.Export place.Export (λ i k. refl) (λ w (world : World) (e : Entry). ItemUsesOwn c.args.types.now w e.1) (λ (world : World). world.exports) c.args.worlds.now _ c.in_graph.result c.in_graph.ensures c.in_ok-exports.ensures
