use Rattle.std.proofs.Common.{length}
use denote.Text.{Utf8}
use denote.Shadow.{shadow}
use Rattle.wit_text.proofs.reading.lexeme.read_lexemes.Given as goal

abbrev pub invariant-loop-read : goal.invariant-loop-read
invariant-loop-read l = shadow (Utf8 l.rest)

abbrev pub decreases-loop-read : goal.decreases-loop-read
decreases-loop-read l = length l.rest
