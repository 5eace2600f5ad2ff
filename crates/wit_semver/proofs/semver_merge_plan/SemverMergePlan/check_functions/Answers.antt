use Rattle.std.proofs.Common.{◌≡◌, ◌∙◌, ◌+◌, ◌<◌, ◌⊎◌, inl, inr, ℕ, Bool, true, List, None, Some, nat_eq, slice_get, subst, sym, ap, arith, if◌then◌else◌}
use Rattle.std.specs.Map.{lookup}
use Rattle.std.proofs.lemmas.Bool.{cases_order, eqb-true}
use Rattle.std.proofs.lemmas.Map.Entries.{place_from_lookup}
use Rattle.std.proofs.lemmas.Option.{slice_get_within}
use Rattle.wit_graph_data.specs.facts.ResultFacts.{residual_error}
use Rattle.wit_graph_data.specs.declared.cause.Cause.TheVariants as cause
use Rattle.wit_graph_data.specs.declared.error_kind.ResolveErrorKind.{ResolveErrorKind}
use Rattle.wit_graph_data.specs.declared.error_kind.ResolveErrorKind.TheVariants.{OutOfMemory, Semantic}
use Rattle.wit_semver.specs.SemverMerged.{Disagrees, SemverMerge, is_replaced, newest}
use Rattle.wit_semver.specs.steps.Replacing.{AreReplacements, semver_merge_of}
use Rattle.wit_semver.proofs.semver_merge_plan.SemverMergePlan.check_functions.Goals as goal

abbrev CauseOf : SemverMerge → ResolveErrorKind → Type 0
CauseOf u e = (e ≡ OutOfMemory) ⊎ ((f : ℕ) × (message : List ℕ) × Disagrees u f message × (e ≡ Semantic None message cause.UpgradeMismatch))

widened : (u : SemverMerge) (f : ℕ) (e : ResolveErrorKind) → (e ≡ OutOfMemory) ⊎ ((message : List ℕ) × Disagrees u f message × (e ≡ Semantic None message cause.UpgradeMismatch)) → CauseOf u e
widened u f e (inl memory) = inl memory
widened u f e (inr told) = inr (f, told.0, told.1, told.2)

pub returns-in_err-check_interface-clause-cause : goal.returns-in_err-check_interface-clause-cause
returns-in_err-check_interface-clause-cause c =
    let u = semver_merge_of c.args.self.now in
    residual_error c.from_residual.result c.from_residual.ensures.1
    (λ e is. let same : e ≡ c.in_err-check_interface.field-0.0 = is in subst (CauseOf u) (sym same) (widened u c.entry_at.result.0.now c.in_err-check_interface.field-0.0 c.in_err-check_interface.ensures.cause))

same_pair : (a b : ℕ × ℕ) → Some a ≡ Some b → a ≡ b
same_pair a b same = cc

pub loop-index-preserved : goal.loop-index-preserved
loop-index-preserved c k e below at message differ = elim (cases_order k c.loop-index.index) [
  | inl same ↦
      let read : e ≡ (c.entry_at.result.0.now, c.entry_at.result.1.now) = same_pair _ _ (sym at ∙ ap (slice_get c.args.self.now.replaced) same ∙ c.entry_at.ensures) in
      c.in_ok-check_interface.ensures.agree message (subst (λ (i : ℕ). Disagrees (semver_merge_of c.args.self.now) i message) (ap (λ (p : ℕ × ℕ). p.0) read) differ)
  | inr order ↦ elim order [
    | inl less ↦ c.loop-index.invariant k e less at message differ
    | inr more ↦ absurd (apart k c.loop-index.index below more)
  ]
]
  where
    apart : (k index : ℕ) → k < index + 1 → index < k → ⊥
    apart k index below more = omega (arith, below, more)

-- what is replaced is told at some place
told_at : (u : SemverMerge) (found : List (ℕ × ℕ)) → AreReplacements u found → (f : ℕ) → is_replaced u f ≡ true → (k : ℕ) × (e : ℕ × ℕ) × (slice_get found k ≡ Some e) × (f ≡ e.0)
told_at u found are f is =
    let told : lookup (nat_eq f) found ≡ Some (newest u f) = are f ∙ ap (λ (b : Bool). if b then Some (newest u f) else None) is in
    let place = place_from_lookup (nat_eq f) found (newest u f) told in
    (place.0, (place.1, newest u f), place.2, eqb-true f place.1 place.3)

pub returns-clause-agree : goal.returns-clause-agree
returns-clause-agree c f message differ =
    let u = semver_merge_of c.args.self.now in
    let found = c.args.self.now.replaced in
    let told = told_at u found c.requires.ready f differ.replaced in
    let within = slice_get_within found told.0 told.1 told.2 in
    let less : told.0 < c.loop-index.index = omega (arith, within, c.loop-index-test.false, c.len-index-end.ensures.len) in
    c.loop-index.invariant told.0 told.1 less told.2 message (subst (λ (i : ℕ). Disagrees u i message) told.3 differ)
