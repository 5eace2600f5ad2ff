use Rattle.std.proofs.Common.{◌<◌, length, arith}
use Rattle.wit_labels.proofs.PlacingSteps.{getters-all, getters-next, some_at}
use Rattle.wit_labels.proofs.placing.getters_of.Goals as goal

pub loop-index-preserved : goal.loop-index-preserved
loop-index-preserved c =
    let within : c.loop-index.index < length c.args.entries.now = omega (arith, c.loop-index-test.true) in
    let e = some_at c.args.entries.now c.loop-index.index within in
    getters-next c.args.entries.now c.loop-index.index e.0 c.loop-index.getters c.push.new.self c.in_ok-later_getter.field-0 e.1 c.loop-index.invariant (c.in_ok-later_getter.ensures e.0 e.1) c.in_ok-push.ensures.ok

pub returns : goal.returns
returns c = getters-all c.args.entries.now c.loop-index.index c.loop-index.getters (omega (arith, c.loop-index-test.false)) c.loop-index.invariant
