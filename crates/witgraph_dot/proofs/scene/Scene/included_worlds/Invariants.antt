use Rattle.std.proofs.Common.{◌≡◌, filter, take}
use Rattle.witgraph_dot.specs.Scene.{is_included}
use Rattle.witgraph_dot.proofs.scene.Scene.included_worlds.Given as goal
use Rattle.witgraph_dot.specs.steps.Parts.{view_of}

-- those of the worlds so far
abbrev pub invariant-loop-other : goal.invariant-loop-other
invariant-loop-other l = l.included.items ≡ filter (is_included (view_of l.self) l.world) (take l.other-index l.other-items)
