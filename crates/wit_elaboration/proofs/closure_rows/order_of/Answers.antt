use Rattle.std.proofs.Common.{◌≡◌, subst}
use Rattle.std.specs.List.{flat_map}
use Rattle.wit_digraph.specs.PostOrder.{post_order, first_of_each}
use Rattle.wit_elaboration.proofs.Closing.{order_is_order, order_is_distinct}
use Rattle.wit_elaboration.proofs.closure_rows.order_of.Goals as goal

pub returns-clause-order : goal.returns-clause-order
returns-clause-order c =
    order_is_order c.args.uses.now c.requires c.in_ok-all.all c.in_ok-order.order c.in_ok-all.ensures.long c.in_ok-all.ensures.each
    (subst (λ all. c.in_ok-order.order ≡ first_of_each (flat_map (post_order c.args.uses.now) all)) c.as_slice.ensures c.in_ok-order.ensures)

pub returns-clause-once : goal.returns-clause-once
returns-clause-once c =
    order_is_distinct c.args.uses.now c.requires c.in_ok-all.all c.in_ok-order.order c.in_ok-all.ensures.long c.in_ok-all.ensures.each
    (subst (λ all. c.in_ok-order.order ≡ first_of_each (flat_map (post_order c.args.uses.now) all)) c.as_slice.ensures c.in_ok-order.ensures)
