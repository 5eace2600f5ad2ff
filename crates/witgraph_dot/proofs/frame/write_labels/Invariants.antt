use Rattle.std.proofs.Common.{◌≡◌, ◌++◌, string_bytes}
use Rattle.std.specs.List.{flat_map}
use Rattle.witgraph_dot.specs.Boxes.{box_line}
use Rattle.witgraph_dot.proofs.frame.write_labels.Given as goal

-- with those of the entries that are left it has all
abbrev pub invariant-loop-key : goal.invariant-loop-key
invariant-loop-key l = string_bytes l.text ++ flat_map (box_line l.word) l.key-iterator ≡ string_bytes l.fn.text ++ flat_map (box_line l.word) l.entries
