use Rattle.std.proofs.Common.{◌≡◌, ◌++◌, take}
use Rattle.witgraph_dot.proofs.scene.add_worlds.Given as goal
use Rattle.witgraph_dot.specs.steps.Parts.{included_arrows}

-- the arrows so far
abbrev pub invariant-loop-world : goal.invariant-loop-world
invariant-loop-world l = l.arrows.items ≡ l.fn.arrows.items ++ included_arrows (take l.world-index l.worlds)
