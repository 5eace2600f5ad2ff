use Rattle.std.proofs.Common.{◌≡◌, ◌∙◌, ℕ, true, [], ◌∷◌, sym, ap}
use Rattle.std.proofs.lemmas.Option.{IfSome_then}
use Rattle.std.proofs.lemmas.Result.{IfOk-weaker}
use Rattle.std.specs.Prelude.{string_bytes}
use Rattle.wit_data.specs.Entries.{item_interface}
use Rattle.wit_merge_spec.specs.Cause.{same_sort}
use Rattle.wit_merge_match.specs.steps.Differing.{merging_of}
use Rattle.wit_merge_match.proofs.Steps.{if_none, interfaces_alike, interfaces_differ, sorts_differ}
use Rattle.wit_merge_match.proofs.matched_graphs.MatchedGraphs.item_mismatch.Goals as goal

pub returns-then-not-are_of_one_sort-clause-some : goal.returns-then-not-are_of_one_sort-clause-some
returns-then-not-are_of_one_sort-clause-some c =
    sorts_differ (merging_of c.args.self.now) c.args.from.now c.args.into.now (sym c.are_of_one_sort.ensures ∙ c.if-not-are_of_one_sort.true) _ c.in_ok-from_str.ensures.ok

pub returns-clause-some : goal.returns-clause-some
returns-clause-some c =
    let from_is : item_interface c.args.from.now ≡ c.index.result ∷ [] = sym c.in-Some.ensures ∙ ap (λ (i : ℕ). i ∷ []) (sym c.index.ensures) in
    let into_is : item_interface c.args.into.now ≡ c.index-2.result ∷ [] = sym c.in-Some-item_interface.ensures ∙ ap (λ (i : ℕ). i ∷ []) (sym c.index-2.ensures) in
    IfOk-weaker c.held_mismatch.result _ _
    (λ found some. IfSome_then found some (λ text held. interfaces_differ (merging_of c.args.self.now) c.args.from.now c.args.into.now c.index.result c.index-2.result from_is into_is (string_bytes text) held))
    c.held_mismatch.ensures.some

pub returns-clause-none : goal.returns-clause-none
returns-clause-none c =
    let from_is : item_interface c.args.from.now ≡ c.index.result ∷ [] = sym c.in-Some.ensures ∙ ap (λ (i : ℕ). i ∷ []) (sym c.index.ensures) in
    let into_is : item_interface c.args.into.now ≡ c.index-2.result ∷ [] = sym c.in-Some-item_interface.ensures ∙ ap (λ (i : ℕ). i ∷ []) (sym c.index-2.ensures) in
    let one : same_sort c.args.from.now c.args.into.now ≡ true = sym c.are_of_one_sort.ensures ∙ c.if-not-are_of_one_sort.false in
    IfOk-weaker c.held_mismatch.result _ _
    (λ found. if_none (interfaces_alike (merging_of c.args.self.now) c.args.from.now c.args.into.now c.index.result c.index-2.result from_is into_is one) found)
    c.held_mismatch.ensures.none
