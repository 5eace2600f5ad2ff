use Rattle.std.proofs.Common.{◌≡◌, filter, not, take}
use Rattle.witgraph_dot.proofs.scene.outermost.Given as goal
use Rattle.witgraph_dot.specs.Scene.{is_included_by_any}

-- those of the worlds so far
abbrev pub invariant-loop-world : goal.invariant-loop-world
invariant-loop-world l = l.left.items ≡ filter (λ w. not (is_included_by_any l.listing.includes l.worlds w)) (take l.world-index l.worlds)
