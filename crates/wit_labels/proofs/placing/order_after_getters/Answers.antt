use Rattle.std.proofs.Common.{◌≡◌, ◌<◌, ◌≤◌, ℕ, List, Some, arith, length, rules, slice_get, subst}
use Rattle.wit_labels.specs.steps.Placing.{order_after_getters}
use Rattle.wit_labels.proofs.OrderSteps.{IsListing, listing-all, listing-next, listing-within}
use Rattle.wit_labels.proofs.placing.order_after_getters.Goals as goal

pub at-index-requires-in-loop : goal.at-index-requires-in-loop
at-index-requires-in-loop c =
    let getters = c.args.getters.now in
    let same : c.next.inside.inner.items ≡ c.in_ok-next.next = search rules in
    listing-within getters c.in_ok-next.next c.loop.order c.loop.index c.loop.counter
    (subst (λ (next : List ℕ). IsListing next (order_after_getters getters) c.loop.order c.loop.index c.loop.counter (length getters)) same c.loop.invariant) c.in_ok-next.ensures

pub loop-preserved : goal.loop-preserved
loop-preserved c =
    let getters = c.args.getters.now in
    let same : c.in_ok-next.next ≡ c.next.inside.inner.items = search rules in
    let at : slice_get c.next.inside.inner.items c.loop.index ≡ Some c.at-index-in-loop.result.now =
    subst (λ (next : List ℕ). slice_get next c.loop.index ≡ Some c.at-index-in-loop.result.now) same c.at-index-in-loop.ensures in
    let more : c.loop.counter < length getters = omega (arith, c.loop-test.true, c.len-end.ensures) in
    listing-next getters c.next.inside.inner.items c.loop.order c.push.new.self c.loop.index c.at-index-in-loop.result.now c.loop.counter c.loop.invariant c.in_ok-push.ensures.ok more at

pub returns : goal.returns
returns c =
    let getters = c.args.getters.now in
    let reached : length getters ≤ c.loop.counter = omega (arith, c.loop-test.false, c.len-end.ensures) in
    listing-all getters c.next.inside.inner.items c.loop.order c.loop.index c.loop.counter c.loop.invariant reached
