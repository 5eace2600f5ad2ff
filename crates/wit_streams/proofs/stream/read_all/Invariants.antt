use Rattle.std.proofs.Common.{◌≡◌}
use Rattle.std.specs.Io.KnownBytes.{Consumes}
use Rattle.wit_streams.proofs.stream.read_all.Given as goal

-- what was read so far, and the reader hasn't told its end
abbrev pub invariant-loop-turn : goal.invariant-loop-turn
invariant-loop-turn g l = Consumes (g.R.Read.remaining l.initial.reader.inner) (g.R.Read.remaining l.reader.inner) l.bytes.items × (l.reader.ended ≡ l.initial.reader.ended)
