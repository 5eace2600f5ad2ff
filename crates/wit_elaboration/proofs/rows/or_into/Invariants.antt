use Rattle.std.proofs.Common.{◌*◌}
use Rattle.wit_elaboration.proofs.JoinedRows.{IsJoined}
use Rattle.wit_elaboration.proofs.rows.or_into.Given as goal

abbrev pub invariant-loop-i : goal.invariant-loop-i
invariant-loop-i l = IsJoined l.fn.into l.from (l.i * 4) l.into

abbrev pub invariant-loop-i-2 : goal.invariant-loop-i-2
invariant-loop-i-2 l = IsJoined l.fn.into l.from l.i l.into
