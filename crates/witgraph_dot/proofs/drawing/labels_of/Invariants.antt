use Rattle.std.proofs.Common.{◌≡◌, filter_map, fold, string_bytes}
use Rattle.witgraph_dot.specs.Lines.{label_for, label_lines, and_label}
use Rattle.witgraph_dot.proofs.drawing.labels_of.Given as goal

-- with the labels of the entries that are left it has all
abbrev pub invariant-loop-key : goal.invariant-loop-key
invariant-loop-key l = fold and_label (string_bytes l.labels) (filter_map (label_for l.id) l.key-iterator) ≡ label_lines (filter_map (label_for l.id) l.entries)
