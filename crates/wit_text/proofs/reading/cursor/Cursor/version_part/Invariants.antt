use Rattle.std.proofs.Common.{◌≤◌, length}
use Rattle.wit_text.proofs.reading.cursor.Cursor.version_part.Given as goal

-- no more is left than at first
abbrev pub invariant-loop-token : goal.invariant-loop-token
invariant-loop-token l = length l.self.rest.now ≤ length l.fn.self.rest.now

abbrev pub decreases-loop-token : goal.decreases-loop-token
decreases-loop-token l = length l.self.rest.now
