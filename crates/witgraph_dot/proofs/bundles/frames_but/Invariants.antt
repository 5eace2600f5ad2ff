use Rattle.std.proofs.Common.{◌≡◌, take}
use Rattle.witgraph_dot.proofs.bundles.frames_but.Given as goal
use Rattle.witgraph_dot.specs.Bundles.{frames_but}

-- those of the frames so far
abbrev pub invariant-loop-frame : goal.invariant-loop-frame
invariant-loop-frame l = l.left ≡ frames_but l.others (take l.frame-index l.frames)
