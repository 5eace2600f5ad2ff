use Rattle.std.proofs.Common.{length}
use Rattle.wit_text.proofs.reading.file.read_file.Given as goal

abbrev pub decreases-items : goal.decreases-items
decreases-items l = length l.cursor.rest.now
