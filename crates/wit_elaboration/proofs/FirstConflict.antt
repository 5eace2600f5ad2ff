-- The first export that is in conflict.
use Rattle.std.proofs.Common.{◌≡◌, ℕ, ◌↔◌, inl, inr, List, [], ◌∷◌, take, Some, slice_get, sym, ap, ◌∙◌, subst, Contains}
use Rattle.wit_digraph.specs.facts.MemberFacts.{Contains-nil, Contains-here, Contains-cons_cases}
use Rattle.wit_digraph.specs.Relation.{direct}
use Rattle.wit_elaboration.specs.steps.Elaborating.{HasMarkedUse, IsFirstConflict}
use Rattle.wit_elaboration.specs.Entries.{Entry, item_interface}
use Rattle.wit_elaboration.specs.Imported.{IsEntryInConflict}
use Rattle.wit_elaboration.proofs.Marking.{contains_at}
use Rattle.wit_elaboration.specs.steps.Parts.{LeadsToConflict}

-- a use that is marked, of the uses that were read
pub marked_use : (uses : List (List ℕ)) (leading row : List ℕ) (i k : ℕ) → row ≡ direct uses k → k ≡ i → (j : ℕ) × Contains row j × Contains leading j → HasMarkedUse uses leading i
marked_use uses leading row i k row_is same found = (found.0, subst (λ xs. Contains xs found.0) (row_is ∙ ap (λ m. direct uses m) same) found.1, found.2)

pub use_marked : (uses : List (List ℕ)) (leading row : List ℕ) (i k : ℕ) → row ≡ direct uses k → k ≡ i → HasMarkedUse uses leading i → (j : ℕ) × Contains row j × Contains leading j
use_marked uses leading row i k row_is same found = (found.0, subst (λ xs. Contains xs found.0) (sym (row_is ∙ ap (λ m. direct uses m) same)) found.1, found.2)

module _ (uses : List (List ℕ)) (exports : List Entry) (leading : List ℕ)
    (marked : (e : Entry) → (i : ℕ) → Contains exports e → Contains (item_interface e.1) i → HasMarkedUse uses leading i ↔ LeadsToConflict uses exports i)
    (at : ℕ) (e : Entry) (is : slice_get exports at ≡ Some e) where
  pub conflict_here : (i : ℕ) → i ∷ [] ≡ item_interface e.1 → HasMarkedUse uses leading i → ((f : Entry) → Contains (take at exports) f → IsEntryInConflict uses exports f → ⊥) → IsFirstConflict uses exports (Some at)
  conflict_here i gives found none =
      let here : Contains (item_interface e.1) i = subst (λ xs. Contains xs i) gives (Contains-here i []) in
      (e, is, (i, here, (marked e i (contains_at exports at e is) here).0 found), none)

  pub conflict_passed : (i : ℕ) → i ∷ [] ≡ item_interface e.1 → (HasMarkedUse uses leading i → ⊥) → IsEntryInConflict uses exports e → ⊥
  conflict_passed i gives lacks conflict =
      elim (Contains-cons_cases i conflict.0 [] (subst (λ xs. Contains xs conflict.0) (sym gives) conflict.1)) [
        | inl same ↦ lacks (subst (λ m. HasMarkedUse uses leading m) (sym same) ((marked e conflict.0 (contains_at exports at e is) conflict.1).1 conflict.2))
        | inr none ↦ Contains-nil none
      ]

  pub no_interface : [] ≡ item_interface e.1 → IsEntryInConflict uses exports e → ⊥
  no_interface gives conflict = Contains-nil (subst (λ xs. Contains xs conflict.0) (sym gives) conflict.1)
