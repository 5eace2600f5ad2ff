use Rattle.std.proofs.Common.{◌≡◌, ◌++◌, drop, string_bytes}
use Rattle.witgraph_dot.specs.Frames.{frame_texts}
use Rattle.witgraph_dot.proofs.picture.write_frames.Given as goal
use Rattle.witgraph_dot.specs.steps.Parts.{view_of}

-- with the frames that are left it has all
abbrev pub invariant-loop-index : goal.invariant-loop-index
invariant-loop-index l =
    string_bytes l.text ++ frame_texts (view_of l.scene) l.index (drop l.index l.scene.resolve.now.graph.packages)
    ≡ string_bytes l.fn.text ++ frame_texts (view_of l.scene) 0 l.scene.resolve.now.graph.packages
