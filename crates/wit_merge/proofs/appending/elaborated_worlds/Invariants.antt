use Rattle.std.proofs.Common.{◌≡◌, ◌++◌, map}
use Rattle.std.specs.Vec.Iter.{into_iter_items}
use Rattle.wit_elaboration.specs.Elaboration.{elaborated_world, graph_uses}
use Rattle.wit_merge.specs.steps.Behind.{AreClear}
use Rattle.wit_merge.proofs.appending.elaborated_worlds.Given as goal

-- those so far are elaborated, and none of them is in conflict
abbrev pub invariant-loop-world : goal.invariant-loop-world
invariant-loop-world l = record {
  made : l.elaborated ≡ map (elaborated_world l.graph) l.yielded;
  clear : AreClear l.graph l.yielded;
  left : l.yielded ++ into_iter_items l.world-iterator ≡ l.fn.worlds;
  same : l.elaborator ≡ graph_uses l.graph;
}
