use Rattle.std.proofs.Common.{◌<◌, length}
use Rattle.wit_text.proofs.reading.file.read_package.Given as goal

-- less is left than at first
abbrev pub invariant-items : goal.invariant-items
invariant-items l = length l.cursor.rest.now < length l.fn.cursor.rest.now

abbrev pub decreases-items : goal.decreases-items
decreases-items l = length l.cursor.rest.now
