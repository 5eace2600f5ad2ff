-- What is noted of types that were met stays right.
use Rattle.std.proofs.Common.{◌≡◌, ◌∙◌, ◌≤◌, ◌<◌, ℕ, Bool, List, [], ◌∷◌, ◌++◌, length, take, drop, refl, ap, inl, inr, sym, subst, Contains, arith}
use Rattle.std.proofs.lemmas.List.{take_at, take_all, take-take}
use Rattle.std.proofs.lemmas.List.Elements.{Contains-push_cases}
use Rattle.wit_digraph.specs.facts.MemberFacts.{Contains-nil}
use Rattle.wit_digraph.specs.Relation.{IsAcyclic}
use Rattle.wit_data.specs.Kind.{type_references}
use Rattle.wit_data.specs.declared.types.TypeDef.{TypeDef}
use Rattle.wit_data.specs.Uses.{alias_rows}
use Rattle.wit_remap_spec.specs.Resources.{leads_to_resource}
use Rattle.wit_link_resources.specs.steps.Leading.{AreRight}
use Rattle.wit_link_resources.specs.facts.Leads.{leads_stays}
use Rattle.wit_graph_theory.specs.facts.AliasFacts.{alias_acyclic}

-- where nothing was met
pub right-begun : (types : List TypeDef) (met : List (ℕ × Bool)) → met ≡ [] → AreRight types met
right-begun types met is t leads has = absurd (Contains-nil (subst (λ (es : List (ℕ × Bool)). Contains es (t, leads)) is has))

-- and with one type more
pub right-more : (types : List TypeDef) (old new : List (ℕ × Bool)) (t : ℕ) (leads : Bool) → new ≡ old ++ (t, leads) ∷ [] → t < length types → leads ≡ leads_to_resource types t → AreRight types old → AreRight types new
right-more types old new t leads is there told right u answer has =
    elim (Contains-push_cases old (t, leads) (u, answer) (subst (λ (es : List (ℕ × Bool)). Contains es (u, answer)) is has)) [
      | inl earlier ↦ right u answer earlier
      | inr same ↦
          let place : t ≡ u = ap (λ (e : ℕ × Bool). e.0) same in
          let flag : leads ≡ answer = ap (λ (e : ℕ × Bool). e.1) same in
          (subst (λ (k : ℕ). k < length types) place there, sym (ap (leads_to_resource types) place) ∙ (sym told ∙ flag))
    ]

-- ---- what is noted comes behind what was

pub begins_same : {X : Type 0} (old : List X) → take (length old) old ≡ old
begins_same old = take_all (length old) old (omega arith)

-- a beginning is no longer than the whole
pub begins_long : {X : Type 0} (old new : List X) → take (length old) new ≡ old → length old ≤ length new
begins_long [] new h = omega arith
begins_long (x ∷ xs) [] h = cc
begins_long (x ∷ xs) (y ∷ ys) h = let rest : take (length xs) ys ≡ xs = cc in omega (arith, begins_long xs ys rest)

pub begins_then : {X : Type 0} (old mid new : List X) → take (length old) mid ≡ old → take (length mid) new ≡ mid → take (length old) new ≡ old
begins_then old mid new h k = sym (take-take (length old) (length mid) new (begins_long old mid h)) ∙ ap (take (length old)) k ∙ h

pub begins_more : {X : Type 0} (old mid new : List X) (x : X) → take (length old) mid ≡ old → new ≡ mid ++ x ∷ [] → take (length old) new ≡ old
begins_more {X} old mid new x h is = begins_then old mid new h (subst (λ (xs : List X). take (length mid) xs ≡ mid) (sym is) (take_at mid (x ∷ []) (length mid) refl))

pub begins_rest : {X : Type 0} (old new : List X) → take (length old) new ≡ old → old ++ drop (length old) new ≡ new
begins_rest [] new h = refl
begins_rest (x ∷ xs) [] h = cc
begins_rest {X} (x ∷ xs) (y ∷ ys) h =
    let first : y ≡ x = cc in
    let rest : take (length xs) ys ≡ xs = cc in
    ap (λ (l : List X). x ∷ l) (begins_rest xs ys rest) ∙ ap (λ (z : X). z ∷ ys) (sym first)

-- what is known of the types of a graph stays right when types come behind them
pub right_stays : (old new : List TypeDef) (met : List (ℕ × Bool)) → IsAcyclic (type_references old) → IsAcyclic (type_references new) → take (length old) new ≡ old → AreRight old met → AreRight new met
right_stays old new met old_acyclic acyclic begins right t leads has =
    let known = right t leads has in
    let more : List TypeDef = drop (length old) new in
    let whole : old ++ more ≡ new = begins_rest old new begins in
    let rows : IsAcyclic (alias_rows (old ++ more)) = subst (λ (types : List TypeDef). IsAcyclic (alias_rows types)) (sym whole) (alias_acyclic new acyclic) in
    let long = begins_long old new begins in (
      omega (arith, long, known.0),
      ap (λ (types : List TypeDef). leads_to_resource types t) (sym whole) ∙ leads_stays old more (alias_acyclic old old_acyclic) rows t known.0 ∙ known.1,
    )
