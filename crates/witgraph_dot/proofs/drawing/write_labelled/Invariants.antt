use Rattle.std.proofs.Common.{◌≡◌, ◌++◌, string_bytes, take}
use Rattle.std.specs.List.{flat_map}
use Rattle.witgraph_dot.specs.Lines.{labelled_lines}
use Rattle.witgraph_dot.proofs.drawing.write_labelled.Given as goal

-- those to the interfaces so far
abbrev pub invariant-loop-id : goal.invariant-loop-id
invariant-loop-id l = string_bytes l.text ≡ string_bytes l.fn.text ++ flat_map (labelled_lines l.kind l.world l.entries) (take l.id-index l.id-items)
