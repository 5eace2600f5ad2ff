use Rattle.std.proofs.Common.{◌≡◌, ◌∙◌, ◌<◌, ℕ, List, Some, length, slice_get, ap, refl, sym, subst, arith, below_more, Contains}
use Rattle.std.specs.Borrow.{Bor}
use Rattle.std.proofs.lemmas.Option.{slice_get-get_or, slice_get_within}
use Rattle.wit_data.specs.declared.function.Function.{Function}
use Rattle.wit_graph_theory.specs.facts.ListFacts.{Contains-map, Contains-map_cases, contained_at, place_of, same_at}
use Rattle.wit_merge_spec.specs.Matches.{GraphMerge}
use Rattle.wit_merge_spec.specs.Merged.{moved_functions}
use Rattle.wit_link_resources.specs.steps.Active.{seen}
use Rattle.wit_merge.specs.steps.MergeSteps.{ReturnsFree, merging_of}
use Rattle.wit_merge.proofs.results.check_results.Goals as goal

pub check_result-requires-clause-moved : goal.check_result-requires-clause-moved
check_result-requires-clause-moved c =
    let m : GraphMerge = merging_of c.args.plan.now in
    let items : List (Bor Function) = c.deref-function-items.result.now in
    let i : ℕ = c.loop-function.function-index in
    let at : slice_get items i ≡ Some c.function-item.result = slice_get-get_or items i c.function-item.result c.loop-function-test.true ∙ ap Some (sym c.function-item.is) in
    let are : seen items ≡ moved_functions m = ap seen c.deref-function-items.ensures.value ∙ c.in_ok-functions.ensures in
    subst (λ (fs : List Function). Contains fs c.function-item.result.now) are (Contains-map (λ (f : Bor Function). f.now) items c.function-item.result (contained_at items i c.function-item.result at))

pub loop-function-preserved : goal.loop-function-preserved
loop-function-preserved c =
    let m : GraphMerge = merging_of c.args.plan.now in
    let items : List (Bor Function) = c.deref-function-items.result.now in
    let i : ℕ = c.loop-function.function-index in
    let at : slice_get items i ≡ Some c.function-item.result = slice_get-get_or items i c.function-item.result c.loop-function-test.true ∙ ap Some (sym c.function-item.is) in
    record {
      none = below_more _ _ c.loop-function.invariant.none (λ f there. subst (λ (g : Bor Function). ReturnsFree m g.now) (same_at items i i c.function-item.result f refl at there) c.in_ok-check_result.ensures.none);
      free = c.in_ok-check_result.ensures.free;
    }

pub returns-clause-none : goal.returns-clause-none
returns-clause-none c = λ message is.
    let m : GraphMerge = merging_of c.args.plan.now in
    let items : List (Bor Function) = c.deref-function-items.result.now in
    let are : seen items ≡ moved_functions m = ap seen c.deref-function-items.ensures.value ∙ c.in_ok-functions.ensures in
    let from = Contains-map_cases (λ (f : Bor Function). f.now) items is.f (subst (λ (fs : List Function). Contains fs is.f) (sym are) is.moved) in
    let place = place_of items from.0 from.1 in
    let within : place.0 < length items = slice_get_within items place.0 from.0 place.1 in
    let below : place.0 < c.loop-function.function-index = let past = c.loop-function-test.false in omega arith in
    let its : ReturnsFree m is.f = subst (ReturnsFree m) from.2 (c.loop-function.invariant.none place.0 below from.0 place.1) in
    its.none is.t' is.result_is is.holds
