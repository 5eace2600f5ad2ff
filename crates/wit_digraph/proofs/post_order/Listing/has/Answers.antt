use Rattle.std.proofs.Common.{◌≡◌, List, ℕ, ap, subst}
use Rattle.std.specs.Prelude.{Contains}
use Rattle.wit_digraph.specs.steps.Rows.{HasBit}
use Rattle.wit_digraph.specs.steps.PostOrder.{Listed}
use Rattle.wit_digraph.proofs.post_order.Listing.has.Goals as goal

pub returns : goal.returns
returns c =
    let order : c.self.inside.order ≡ c.args.self.now.order = ap (λ (a : Listed). a.order) c.self.view_is in
    let bits : c.deref.result.now ≡ c.self.inside.marks.items = c.deref.ensures.value in
    let tell = c.self.invariant.each c.args.node in (
      λ on. subst (λ (xs : List ℕ). Contains xs c.args.node) order (tell.0 (subst (λ (row : List ℕ). HasBit row c.args.node) bits (c.has_bit.ensures.0 on))),
      λ has. c.has_bit.ensures.1 (rw bits (tell.1 (rw order has))),
    )
