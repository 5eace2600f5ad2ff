use Rattle.std.proofs.Common.{◌≡◌, ◌++◌, string_bytes, take}
use Rattle.std.specs.List.{flat_map}
use Rattle.witgraph_dot.specs.Lines.{arrow_line}
use Rattle.witgraph_dot.proofs.drawing.write_each.Given as goal
use Rattle.witgraph_dot.specs.steps.Parts.{view_of}

-- the arrows so far
abbrev pub invariant-loop-arrow : goal.invariant-loop-arrow
invariant-loop-arrow l = string_bytes l.text ≡ string_bytes l.fn.text ++ flat_map (arrow_line (view_of l.scene) l.letter l.from) (take l.arrow-index l.arrows)
