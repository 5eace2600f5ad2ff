use Rattle.std.proofs.Common.{◌≡◌, ◌++◌, string_bytes, take}
use Rattle.std.specs.List.{flat_map}
use Rattle.witgraph_dot.specs.Lines.{uses_lines, world_lines}
use Rattle.witgraph_dot.proofs.drawing.write_arrows.Given as goal
use Rattle.witgraph_dot.specs.steps.Parts.{view_of}

-- those from the interfaces so far
abbrev pub invariant-loop-user : goal.invariant-loop-user
invariant-loop-user l = string_bytes l.text ≡ string_bytes l.fn.text ++ flat_map (uses_lines (view_of l.scene)) (take l.user-index l.user-items)

-- those from all interfaces and from the worlds so far
abbrev pub invariant-loop-world : goal.invariant-loop-world
invariant-loop-world l =
    string_bytes l.text ≡ string_bytes l.fn.text ++ (flat_map (uses_lines (view_of l.scene)) l.scene.interfaces.items ++ flat_map (world_lines (view_of l.scene)) (take l.world-index l.world-items))
