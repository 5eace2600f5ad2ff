use Rattle.std.proofs.Common.{arith, length, ◌<◌}
use Rattle.wit_streams.proofs.Known.{at-end}
use Rattle.wit_streams.proofs.stream.read_all.Goals as goal

pub returns-in-Ok-eq0-clause-ok : goal.returns-in-Ok-eq0-clause-ok
returns-in-Ok-eq0-clause-ok g c =
    let some : 0 < length c.read.new.buf = omega arith in
    at-end _ _ _ _ c.read.new.buf _ c.loop-turn.invariant.0 c.in-Ok-eq0.ensures.bytes c.in-Ok-eq0.field-0-test some
