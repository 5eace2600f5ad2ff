use Rattle.std.proofs.Common.{◌≡◌, map, take}
use Rattle.wit_transform.specs.declared.round.Frame.{Frame}
use Rattle.wit_transform.proofs.round.nodes_of.Given as goal

abbrev pub invariant-loop-frame : goal.invariant-loop-frame
invariant-loop-frame l = l.nodes ≡ map (λ (frame : Frame). frame.node) (take l.frame-index l.way)
