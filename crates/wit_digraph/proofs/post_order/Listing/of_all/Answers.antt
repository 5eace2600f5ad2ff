use Rattle.std.proofs.Common.{◌≡◌, ℕ, ◌<◌, ◌+◌, ◌++◌, ◌⊎◌, inl, inr, List, ap, subst, sym, arith}
use Rattle.std.specs.Prelude.{Contains}
use Rattle.std.proofs.lemmas.List.Elements.{Contains-append_left}
use Rattle.wit_digraph.specs.facts.FreshFacts.{fresh_all}
use Rattle.wit_digraph.specs.facts.PostOrderFacts.{Contains-post_order_end}
use Rattle.wit_digraph.specs.PostOrder.{fresh, post_order}
use Rattle.wit_digraph.specs.steps.PostOrder.{Listed}
use Rattle.wit_digraph.proofs.post_order.Listing.of_all.Goals as goal

below_or_last : (i n : ℕ) → i < n + 1 → (i < n) ⊎ (n ≡ i)
below_or_last i n within = grind arith

pub loop-root-preserved : goal.loop-root-preserved
loop-root-preserved c =
    let uses = c.args.uses.now in
    let before = c.loop-root.listing.order in
    let more = fresh before (post_order uses c.loop-root.root) in
    let after : c.list_post_order.new.self.order ≡ before ++ more = ap (λ (l : Listed). l.order) c.in_ok-list_post_order.ensures.ok in
    let last : Contains (before ++ more) c.loop-root.root = fresh_all before (post_order uses c.loop-root.root) c.loop-root.root (Contains-post_order_end uses c.requires c.loop-root.root c.loop-root-test.true) in
    record {
      nodes = omega (arith, c.in_ok-list_post_order.ensures.nodes);
      all = λ i within. subst (λ (order : List ℕ). Contains order i) (sym after)
          (elim (below_or_last i c.loop-root.root within) [
            | inl earlier ↦ Contains-append_left before more i (c.loop-root.invariant.all i earlier)
            | inr same ↦ subst (λ (j : ℕ). Contains (before ++ more) j) same last
          ]);
      uses_first = c.in_ok-list_post_order.ensures.uses_first;
    }
