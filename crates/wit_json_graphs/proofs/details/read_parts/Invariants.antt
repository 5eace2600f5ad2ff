use Rattle.std.proofs.Common.{◌≡◌}
use Rattle.wit_json_graphs.specs.steps.Parts.{with_parts}
use Rattle.wit_json_graphs.proofs.Rows.{UpTo}
use Rattle.wit_json_graphs.proofs.details.read_parts.Given as goal

-- those before the index are completed
abbrev pub invariant-loop-index : goal.invariant-loop-index
invariant-loop-index g l = record {
  many : l.many ≡ g.R.Row.many l.row;
  first : l.many ≡ g.R.Row.many l.initial.row;
  up_to : UpTo g.R.Row.with_part l.many l.index l.row l.parts (with_parts g.R.Row.with_part (g.R.Row.many l.initial.row) 0 l.initial.row l.parts);
}
