use Rattle.std.proofs.Common.{◌≤◌, length}
use Rattle.wit_text.proofs.reading.function.read_members.Given as goal

-- no more is left than at first
abbrev pub invariant-loop-form : goal.invariant-loop-form
invariant-loop-form l = length l.cursor.rest.now ≤ length l.fn.cursor.rest.now

abbrev pub decreases-loop-form : goal.decreases-loop-form
decreases-loop-form l = length l.cursor.rest.now
