use Rattle.std.proofs.Common.{length}
use Rattle.wit_labels.specs.steps.Placing.{order_after_getters}
use Rattle.wit_labels.proofs.OrderSteps.{IsListing}
use Rattle.wit_labels.proofs.placing.order_after_getters.Given as goal

abbrev pub invariant-loop : goal.invariant-loop
invariant-loop l =
    IsListing l.next-inside.inner.items (order_after_getters l.getters) l.order l.index l.counter
    (length l.getters)
