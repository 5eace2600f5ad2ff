-- What a pass over an order has marked so far.
use Rattle.std.proofs.Common.{◌≡◌, ◌≢◌, ℕ, ◌+◌, ◌<◌, ◌≤◌, ◌⊎◌, inl, inr, List, [], ◌∷◌, take, get_or, length, refl, sym, subst, ◌∙◌, arith, Contains}
use Rattle.std.proofs.lemmas.Bool.{cases_eq}
use Rattle.std.proofs.lemmas.List.{take_more, take_all}
use Rattle.std.proofs.lemmas.List.Elements.{Contains-append_cases}
use Rattle.wit_digraph.specs.facts.MemberFacts.{Contains-nil, Contains-cons_cases}
use Rattle.wit_digraph.specs.Relation.{IsPath}
use Rattle.wit_digraph.specs.steps.PostOrder.{UsesFirst}
use Rattle.wit_digraph.specs.steps.Rows.{HasBit, bit_of}
use Rattle.wit_elaboration.specs.steps.Closures.{HasUse, ReachesTarget, IsMarkRow}
use Rattle.wit_elaboration.proofs.Marking.{UsesFirst-at}

-- none is marked before the first
pub marked_none : (uses : List (List ℕ)) (Target : ℕ → Type 0) (order marks : List ℕ) → ((k : ℕ) → bit_of marks k ≡ 0) → IsMarkRow uses (take 0 order) Target marks
marked_none uses Target order marks zeros = record {
  sound = λ i on. let off = zeros i in absurd (omega (arith, on, off));
  complete = λ i has found. absurd (omega (arith, has.1));
}

pub marked_all : (uses : List (List ℕ)) (Target : ℕ → Type 0) (order marks : List ℕ) (at : ℕ) → length order ≤ at → IsMarkRow uses (take at order) Target marks → IsMarkRow uses order Target marks
marked_all uses Target order marks at all are = subst (λ xs. IsMarkRow uses xs Target marks) (take_all at order all) are

module _ (uses : List (List ℕ)) (Target : ℕ → Type 0) (order : List ℕ) (first : UsesFirst uses [] order) (at : ℕ) (below : at < length order) where
  abbrev node : ℕ
  node = get_or order at 0

  last_or : (i : ℕ) → Contains (take (at + 1) order) i → Contains (take at order) i ⊎ (node ≡ i)
  last_or i has =
      elim (Contains-append_cases (take at order) (node ∷ []) i (subst (λ xs. Contains xs i) (take_more order at 0 below) has))
      [ inl before ↦ inl before | inr last ↦ elim (Contains-cons_cases node i [] last) [ inl same ↦ inr same | inr none ↦ absurd (Contains-nil none) ] ]

  -- a node that is a target, or has a use that is marked, is marked
  pub marked_more : (marks marks' : List ℕ) → IsMarkRow uses (take at order) Target marks → Target node ⊎ HasUse uses (HasBit marks) node → HasBit marks' node → ((k : ℕ) → k ≢ node → bit_of marks' k ≡ bit_of marks k) → IsMarkRow uses (take (at + 1) order) Target marks'
  marked_more marks marks' are reaches set others = record {
    sound = λ i has. elim (cases_eq i node) [
      | inl same ↦ subst (λ m. ReachesTarget uses Target m) (sym same) (reached reaches)
      | inr apart ↦ are.sound i (sym (others i apart) ∙ has)
    ];
    complete = λ i has target. elim (cases_eq i node) [
      | inl same ↦ subst (λ m. HasBit marks' m) (sym same) set
      | inr apart ↦ elim (last_or i has) [ inl before ↦ others i apart ∙ are.complete i before target | inr same ↦ absurd (apart (sym same)) ]
    ];
  }
    where
      reached : Target node ⊎ HasUse uses (HasBit marks) node → ReachesTarget uses Target node
      reached (inl target) = (node, ([], refl), target)
      reached (inr used) = let more = are.sound used.0 used.2 in (more.0, (used.0 ∷ more.1.0, (used.1, more.1.1)), more.2)

  -- any other is not
  pub marked_same : (marks : List ℕ) → IsMarkRow uses (take at order) Target marks → (Target node → ⊥) → (HasUse uses (HasBit marks) node → ⊥) → IsMarkRow uses (take (at + 1) order) Target marks
  marked_same marks are no_target no_use = record {
    sound = are.sound;
    complete = λ i has target. elim (last_or i has) [ inl before ↦ are.complete i before target | inr same ↦ absurd (apart (subst (λ m. ReachesTarget uses Target m) (sym same) target)) ];
  }
    where
      along : (t : ℕ) (path : List ℕ) → IsPath uses node path t → Target t → ⊥
      along t [] same target = no_target (subst Target (sym same) target)
      along t (k ∷ path) leads target =
          no_use (k, leads.0, are.complete k (UsesFirst-at uses order at [] first below k leads.0) (t, (path, leads.1), target))

      apart : ReachesTarget uses Target node → ⊥
      apart found = along found.0 found.1.0 found.1.1 found.2
