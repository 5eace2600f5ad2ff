use Rattle.std.proofs.Common.{◌≡◌, ◌++◌, drop}
use Rattle.witgraph_dot.specs.Shown.{indices_from, is_world_shown}
use Rattle.witgraph_dot.proofs.shown.shown_worlds.Given as goal

-- those so far, and those among the worlds that are left
abbrev pub invariant-loop-index : goal.invariant-loop-index
invariant-loop-index l =
    l.shown.items ++ indices_from (λ w. is_world_shown l.choice l.resolve.graph.packages) l.index (drop l.index l.resolve.graph.worlds)
    ≡ indices_from (λ w. is_world_shown l.choice l.resolve.graph.packages) 0 l.resolve.graph.worlds
