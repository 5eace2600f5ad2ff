use Rattle.std.proofs.Common.{◌≡◌, ◌≤◌, ◌+◌}
use Rattle.wit_sources.specs.Lines.{column, line_number}
use Rattle.wit_json_reading.proofs.places.place_at.Given as goal

-- the line and the column so far
abbrev pub invariant-loop-index : goal.invariant-loop-index
invariant-loop-index l = record {
  line : l.line ≡ line_number l.fn.text l.index;
  column : l.column ≡ column l.fn.text l.index;
  few_lines : l.line ≤ l.index + 1;
  few_columns : l.column ≤ l.index + 1;
}
