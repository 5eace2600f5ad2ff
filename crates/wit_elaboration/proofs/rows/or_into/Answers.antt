use Rattle.std.proofs.Common.{◌≡◌, ◌+◌, ◌*◌, arith}
use Rattle.wit_elaboration.proofs.JoinedRows.{IsJoined-more}
use Rattle.wit_elaboration.proofs.rows.or_into.Goals as goal

pub loop-i-preserved : goal.loop-i-preserved
loop-i-preserved c =
    let more = IsJoined-more c.args.into.now c.args.from.now (c.loop-i.i * 4) 4 c.loop-i.into c.loop-i.invariant (omega (arith, c.loop-i.invariant.same_length)) (omega (arith, c.loop-i.invariant.same_length)) in
    let place : (c.loop-i.i + 1) * 4 ≡ c.loop-i.i * 4 + 4 = omega arith in
    rw (c.or_lanes.ensures, place) more
