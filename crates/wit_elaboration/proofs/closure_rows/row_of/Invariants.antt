use Rattle.std.proofs.Common.{◌≡◌, ◌+◌, take}
use Rattle.wit_elaboration.proofs.ReachedColumns.{HasReached}
use Rattle.wit_elaboration.proofs.closure_rows.row_of.Given as goal

abbrev pub invariant-loop-used : goal.invariant-loop-used
invariant-loop-used l = record {
  reached : HasReached l.uses l.row.items l.node (take l.used-index l.used-items);
  joins : l.joins ≡ l.fn.joins + l.used-index;
}
