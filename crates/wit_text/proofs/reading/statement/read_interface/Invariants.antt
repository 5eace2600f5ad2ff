use Rattle.std.proofs.Common.{◌≤◌, length}
use Rattle.wit_text.proofs.reading.statement.read_interface.Given as goal

-- no more is left than at first
abbrev pub invariant-statements : goal.invariant-statements
invariant-statements l = length l.cursor.rest.now ≤ length l.fn.cursor.rest.now

abbrev pub decreases-statements : goal.decreases-statements
decreases-statements l = length l.cursor.rest.now
