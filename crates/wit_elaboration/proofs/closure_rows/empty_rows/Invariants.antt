use Rattle.std.proofs.Common.{◌≡◌, length}
use Rattle.wit_elaboration.proofs.closure_rows.empty_rows.Given as goal

abbrev pub invariant-loop : goal.invariant-loop
invariant-loop l = length l.rows ≡ l.counter
