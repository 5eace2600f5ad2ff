use Rattle.std.proofs.Common.{◌≡◌, List, [], ◌∷◌, ℕ, subst, slice_get, Some}
use Rattle.std.specs.List.{AllZip}
use Rattle.wit_link.specs.GroupOrder.{Unresolved}
use Rattle.wit_link.proofs.Alone.{alone-ordered, alone-sorted}
use Rattle.wit_link.proofs.Orders.{order-below, order-once}
use Rattle.wit_link.proofs.Refusals.{no-cause}
use Rattle.wit_link.proofs.sort.sort_groups.Goals as goal

pub in_order-requires-clause-once : goal.in_order-requires-clause-once
in_order-requires-clause-once c = rw c.as_slice.ensures (order-once c.args.unresolved c.in_ok-order.order c.in_ok-order.ensures.ok.is)

pub in_order-requires-clause-in_range : goal.in_order-requires-clause-in_range
in_order-requires-clause-in_range c = rw c.as_slice.ensures (order-below c.args.unresolved c.in_ok-order.order c.in_ok-order.ensures.ok.acyclic c.in_ok-order.ensures.ok.is)

pub returns-clause-ok : goal.returns-clause-ok
returns-clause-ok c = (
  c.in_ok-order.order,
  record {
    is_order = c.in_ok-order.ensures.ok.is;
    are = subst (λ (order : List ℕ). AllZip (λ i (p : Unresolved). slice_get c.args.unresolved i ≡ Some p) order c.in_ok-in_order.field-0) c.as_slice.ensures c.in_ok-in_order.ensures;
  },
)

pub returns-clause-refuses : goal.returns-clause-refuses
returns-clause-refuses c = λ kind cause. no-cause c.args.unresolved c.in_ok-order.order kind c.in_ok-order.ensures.ok cause

pub returns-then-is_alone-clause-ok : goal.returns-then-is_alone-clause-ok
returns-then-is_alone-clause-ok c = (0 ∷ [], alone-sorted c.args.unresolved (c.is_alone.ensures c.if-is_alone.true))

pub returns-then-is_alone-clause-refuses : goal.returns-then-is_alone-clause-refuses
returns-then-is_alone-clause-refuses c = λ kind cause. no-cause c.args.unresolved (0 ∷ []) kind (alone-ordered c.args.unresolved (c.is_alone.ensures c.if-is_alone.true)) cause
