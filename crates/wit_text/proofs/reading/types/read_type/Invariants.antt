use Rattle.std.proofs.Common.{◌<◌, length}
use Rattle.wit_text.proofs.reading.types.read_type.Given as goal

-- less is left than at first
abbrev pub invariant-loop-read : goal.invariant-loop-read
invariant-loop-read l = length l.cursor.rest.now < length l.fn.cursor.rest.now

abbrev pub decreases-loop-read : goal.decreases-loop-read
decreases-loop-read l = length l.cursor.rest.now
