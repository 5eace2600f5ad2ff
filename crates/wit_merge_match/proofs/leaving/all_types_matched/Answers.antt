use Rattle.std.proofs.Common.{◌∙◌, ℕ, Bool, List, ap, filter, sym}
use Rattle.std.proofs.lemmas.Map.Iter.{rest_all, rest_more}
use Rattle.wit_elaboration.specs.facts.Filters.{filter-fail}
use Rattle.wit_values.specs.Names.{deref_named}
use Rattle.wit_merge_match.specs.steps.Matched.{moves}
use Rattle.wit_merge_match.proofs.leaving.all_types_matched.Goals as goal

pub loop-id-init : goal.loop-id-init
loop-id-init c = ap (filter (λ (e : List ℕ × ℕ). moves c.args.found.now e.1)) (sym (c.into_iter-id-iterator.ensures.into_iter_gives ∙ c.iter-id-items.ensures.rest))

pub loop-id-preserved : goal.loop-id-preserved
loop-id-preserved c =
    let test : List ℕ × ℕ → Bool = λ e. moves c.args.found.now e.1 in
    let first = rest_more deref_named _ _ _ _ c.in-Some.is c.next.ensures.steps in
    c.loop-id.invariant ∙ ap (filter test) first ∙ filter-fail test _ _ (ap (moves c.args.found.now) (sym c.index.ensures) ∙ sym c.moves.ensures ∙ c.if-moves.false)

pub returns : goal.returns
returns c = λ _. c.loop-id.invariant ∙ ap (filter (λ (e : List ℕ × ℕ). moves c.args.found.now e.1)) (rest_all deref_named _ _ _ c.in-None.is c.next.ensures.steps)
