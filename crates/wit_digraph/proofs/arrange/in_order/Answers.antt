use Rattle.std.proofs.Common.{None, arith}
use Rattle.wit_digraph.proofs.Arranging.{arranging-all, arranging-next, arranging-none, arranging-slot}
use Rattle.wit_digraph.proofs.arrange.in_order.Goals as goal

pub loop-place-init : goal.loop-place-init
loop-place-init g c = rw (c.in_ok-slots.ensures, c.new-arranged.ensures) (arranging-none c.args.items c.args.order.now)

pub loop-place-preserved : goal.loop-place-preserved
loop-place-preserved g c =
    rw (c.in-Some.ensures.new, c.in_ok-push-in-Some.ensures.ok)
    (arranging-next c.args.items c.args.order.now c.loop-place.place-index c.loop-place.slots c.loop-place.arranged c.in-Some.item c.loop-place.invariant c.requires.once c.requires.in_range
    (omega (arith, c.loop-place-test.true)) c.in-Some.ensures.old)

pub returns : goal.returns
returns g c = arranging-all c.args.items c.args.order.now c.loop-place.place-index c.loop-place.slots c.loop-place.arranged c.loop-place.invariant (omega (arith, c.loop-place-test.false))

pub unreachable-requires : goal.unreachable-requires
unreachable-requires g c =
    let slot =
    arranging-slot c.args.items c.args.order.now c.loop-place.place-index c.loop-place.slots c.loop-place.arranged None c.loop-place.invariant c.requires.once c.requires.in_range
    (omega (arith, c.loop-place-test.true)) c.in-None.ensures.old in
    cc (slot.1)
