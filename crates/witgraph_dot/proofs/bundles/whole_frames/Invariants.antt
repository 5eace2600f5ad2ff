use Rattle.std.proofs.Common.{◌≡◌, take}
use Rattle.witgraph_dot.specs.Bundles.{whole_frames}
use Rattle.witgraph_dot.proofs.bundles.whole_frames.Given as goal

-- those of the frames so far
abbrev pub invariant-loop-frame : goal.invariant-loop-frame
invariant-loop-frame l = l.interfaces.items ≡ whole_frames (take l.frame-index l.frames) l.targets
