use Rattle.std.proofs.Common.{◌≡◌, take}
use Rattle.witgraph_dot.specs.Shown.{entries_of_picked}
use Rattle.witgraph_dot.proofs.shown.entries_of_picked.Given as goal

-- those of the worlds so far
abbrev pub invariant-loop-world : goal.invariant-loop-world
invariant-loop-world l = l.entries.items ≡ entries_of_picked l.resolve.graph.packages l.picked (take l.world-index l.resolve.graph.worlds)
