use Rattle.std.proofs.Common.{◌≤◌, length}
use Rattle.wit_text.proofs.reading.function.read_resource.Given as goal

-- no more is left than at first
abbrev pub invariant-functions : goal.invariant-functions
invariant-functions l = length l.cursor.rest.now ≤ length l.fn.cursor.rest.now

abbrev pub decreases-functions : goal.decreases-functions
decreases-functions l = length l.cursor.rest.now
