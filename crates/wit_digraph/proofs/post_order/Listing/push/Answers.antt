use Rattle.std.proofs.Common.{◌≡◌, ◌≢◌, ◌∙◌, List, ℕ, ap, arith, drop, length}
use Rattle.std.proofs.lemmas.List.{take_at}
use Rattle.wit_digraph.specs.steps.Rows.{bit_of}
use Rattle.wit_digraph.specs.steps.PostOrder.{Listed}
use Rattle.wit_digraph.proofs.Marks.{AreMarksOf-listed}
use Rattle.wit_digraph.proofs.post_order.Listing.push.Goals as goal

pub invariant_of-self-2 : goal.invariant_of-self-2
invariant_of-self-2 c =
    let row = c.set_bit.new.row in
    let whole = take_at row (drop (length row) c.self.inside.marks.items) c.self.inside.marks.len (omega arith) in
    let others : (k : ℕ) → k ≢ c.args.node → bit_of row k ≡ bit_of c.self.inside.marks.items k =
    λ k apart. c.set_bit.ensures.others k apart ∙ ap (λ (r : List ℕ). bit_of r k) c.deref_mut.ensures.value in
    rw (whole, c.in_ok-push.ensures.ok)
    (AreMarksOf-listed c.self.inside.nodes c.self.inside.marks.items row c.self.inside.order c.args.node c.self.invariant
    (omega (arith, c.requires.in_range, ap (λ (a : Listed). a.nodes) c.self.view_is)) (omega arith) c.set_bit.ensures.set others)
