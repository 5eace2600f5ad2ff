use Rattle.std.proofs.Common.{◌≡◌, length}
use Rattle.wit_elaboration.proofs.AllWorlds.{IsPlacing}
use Rattle.wit_elaboration.proofs.all_worlds.place_lists.Given as goal

abbrev pub invariant-loop-lists : goal.invariant-loop-lists
invariant-loop-lists l = record {
  placing : IsPlacing l.fn.graph l.left l.graph.worlds;
  graph : l.graph ≡ record l.fn.graph { worlds = l.graph.worlds };
}

abbrev pub decreases-loop-lists : goal.decreases-loop-lists
decreases-loop-lists l = length l.left
