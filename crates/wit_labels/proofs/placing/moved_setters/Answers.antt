use Rattle.std.proofs.Common.{refl}
use Rattle.wit_labels.proofs.PlacingSteps.{getters-later, placing-below, placing-differ, placing-of, placing-once, placing-setters_placed}
use Rattle.wit_labels.proofs.placing.moved_setters.Goals as goal

pub order_after_getters-requires : goal.order_after_getters-requires
order_after_getters-requires c = rw c.in_ok-getters.ensures (getters-later c.args.entries)

pub in_order-requires-clause-once : goal.in_order-requires-clause-once
in_order-requires-clause-once c =
    placing-once c.args.entries c.in_ok-items_of.field-0 c.as_slice.result.now
    (placing-of c.args.entries c.args.entries c.in_ok-items_of.field-0 c.in_ok-getters.getters c.in_ok-order.order c.as_slice.result.now
    refl c.in_ok-getters.ensures c.in_ok-order.ensures c.in_ok-items_of.ensures c.as_slice.ensures)

pub in_order-requires-clause-in_range : goal.in_order-requires-clause-in_range
in_order-requires-clause-in_range c =
    placing-below c.args.entries c.in_ok-items_of.field-0 c.as_slice.result.now
    (placing-of c.args.entries c.args.entries c.in_ok-items_of.field-0 c.in_ok-getters.getters c.in_ok-order.order c.as_slice.result.now
    refl c.in_ok-getters.ensures c.in_ok-order.ensures c.in_ok-items_of.ensures c.as_slice.ensures)

pub table_of-requires : goal.table_of-requires
table_of-requires c =
    placing-differ c.args.entries c.in_ok-items_of.field-0 c.in_ok-items.items c.as_slice.result.now
    (placing-of c.args.entries c.args.entries c.in_ok-items_of.field-0 c.in_ok-getters.getters c.in_ok-order.order c.as_slice.result.now
    refl c.in_ok-getters.ensures c.in_ok-order.ensures c.in_ok-items_of.ensures c.as_slice.ensures)
    c.keys_differ.ensures.test c.in_ok-items.ensures

pub returns : goal.returns
returns c =
    let same =
    placing-setters_placed c.args.entries c.in_ok-items_of.field-0 c.in_ok-items.items c.as_slice.result.now
    (placing-of c.args.entries c.args.entries c.in_ok-items_of.field-0 c.in_ok-getters.getters c.in_ok-order.order c.as_slice.result.now
    refl c.in_ok-getters.ensures c.in_ok-order.ensures c.in_ok-items_of.ensures c.as_slice.ensures)
    c.keys_differ.ensures.test c.in_ok-items.ensures in
    rw same at c.table_of.ensures
