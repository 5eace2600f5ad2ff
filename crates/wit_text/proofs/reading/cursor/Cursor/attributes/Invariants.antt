use Rattle.std.proofs.Common.{◌≤◌, length}
use Rattle.wit_text.proofs.reading.cursor.Cursor.attributes.Given as goal

-- no more is left than at first
abbrev pub invariant-loop-self : goal.invariant-loop-self
invariant-loop-self l = length l.self.rest.now ≤ length l.fn.self.rest.now

abbrev pub decreases-loop-self : goal.decreases-loop-self
decreases-loop-self l = length l.self.rest.now
