use Rattle.std.proofs.Common.{◌≡◌, ◌∙◌, ◌<◌, ◌⊎◌, ◌∷◌, [], ℕ, inl, inr, List, Some, length, slice_get, ap, refl, sym, subst, arith, below_more, Contains}
use Rattle.std.specs.Borrow.{Bor}
use Rattle.std.proofs.lemmas.Option.{slice_get-get_or, slice_get_within}
use Rattle.wit_digraph.specs.facts.MemberFacts.{Contains-here}
use Rattle.wit_data.specs.declared.function.Function.{Function}
use Rattle.wit_graph_data.specs.facts.ResultFacts.{residual_error}
use Rattle.wit_graph_data.specs.declared.error_kind.ResolveErrorKind.{ResolveErrorKind}
use Rattle.wit_graph_data.specs.declared.error_kind.ResolveErrorKind.TheVariants.{OutOfMemory}
use Rattle.wit_graph_theory.specs.facts.ListFacts.{Contains-map, Contains-map_cases, contained_at, place_of, same_at}
use Rattle.wit_link_resources.specs.steps.Active.{seen}
use Rattle.wit_merge.specs.steps.Behind.{ReturnNoBorrow, ReturnsBorrow, functions_of}
use Rattle.wit_merge.proofs.Returned.{one_returned, told_of_all}
use Rattle.wit_merge.proofs.results.check_returned.Goals as goal

pub check_returns-requires-clause-returned : goal.check_returns-requires-clause-returned
check_returns-requires-clause-returned c =
    let items : List (Bor Function) = c.deref-function-items.result.now in
    let i : ℕ = c.loop-function.function-index in
    let at : slice_get items i ≡ Some c.function-item.result = slice_get-get_or items i c.function-item.result c.loop-function-test.true ∙ ap Some (sym c.function-item.is) in
    let are : seen items ≡ functions_of c.args.interfaces.now c.args.worlds.now = ap seen c.deref-function-items.ensures.value ∙ c.in_ok-functions.ensures in
    one_returned c.args.types.now (functions_of c.args.interfaces.now c.args.worlds.now) c.function-item.result.now c.requires.returned
    (subst (λ (fs : List Function). Contains fs c.function-item.result.now) are (Contains-map (λ (f : Bor Function). f.now) items c.function-item.result (contained_at items i c.function-item.result at)))

pub returns-in_err-check_returns-clause-cause : goal.returns-in_err-check_returns-clause-cause
returns-in_err-check_returns-clause-cause c =
    let items : List (Bor Function) = c.deref-function-items.result.now in
    let i : ℕ = c.loop-function.function-index in
    let at : slice_get items i ≡ Some c.function-item.result = slice_get-get_or items i c.function-item.result c.loop-function-test.true ∙ ap Some (sym c.function-item.is) in
    let are : seen items ≡ functions_of c.args.interfaces.now c.args.worlds.now = ap seen c.deref-function-items.ensures.value ∙ c.in_ok-functions.ensures in
    let has = subst (λ (fs : List Function). Contains fs c.function-item.result.now) are (Contains-map (λ (f : Bor Function). f.now) items c.function-item.result (contained_at items i c.function-item.result at)) in
    residual_error c.from_residual-in_err-check_returns.result c.from_residual-in_err-check_returns.ensures.1
    (λ e is.
    let same : e ≡ c.in_err-check_returns.field-0.0 = is in
    subst (λ (x : ResolveErrorKind). (x ≡ OutOfMemory) ⊎ ReturnsBorrow c.args.types.now (functions_of c.args.interfaces.now c.args.worlds.now) x) (sym same)
    (elim c.in_err-check_returns.ensures.cause [
      | inl memory ↦ inl memory
      | inr told ↦ inr (told_of_all c.args.types.now (functions_of c.args.interfaces.now c.args.worlds.now) c.function-item.result.now c.in_err-check_returns.field-0.0 has told)
    ]))

pub loop-function-preserved : goal.loop-function-preserved
loop-function-preserved c =
    let items : List (Bor Function) = c.deref-function-items.result.now in
    let i : ℕ = c.loop-function.function-index in
    let at : slice_get items i ≡ Some c.function-item.result = slice_get-get_or items i c.function-item.result c.loop-function-test.true ∙ ap Some (sym c.function-item.is) in
    record {
      none = below_more _ _ c.loop-function.invariant.none (λ f there. subst (λ (g : Bor Function). ReturnNoBorrow c.args.types.now (g.now ∷ [])) (same_at items i i c.function-item.result f refl at there) c.in_ok-check_returns.ensures.none);
      free = c.in_ok-check_returns.ensures.free;
    }

pub returns-clause-none : goal.returns-clause-none
returns-clause-none c = λ g t has names holds.
    let items : List (Bor Function) = c.deref-function-items.result.now in
    let are : seen items ≡ functions_of c.args.interfaces.now c.args.worlds.now = ap seen c.deref-function-items.ensures.value ∙ c.in_ok-functions.ensures in
    let from = Contains-map_cases (λ (f : Bor Function). f.now) items g (subst (λ (fs : List Function). Contains fs g) (sym are) has) in
    let place = place_of items from.0 from.1 in
    let within : place.0 < length items = slice_get_within items place.0 from.0 place.1 in
    let below : place.0 < c.loop-function.function-index = let past = c.loop-function-test.false in omega arith in
    let its : Contains (from.0.now ∷ []) g = subst (λ (x : Function). Contains (from.0.now ∷ []) x) from.2 (Contains-here from.0.now []) in
    c.loop-function.invariant.none place.0 below from.0 place.1 g t its names holds
