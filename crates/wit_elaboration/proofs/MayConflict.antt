-- What columns tell of a conflict.
use Rattle.std.proofs.Common.{◌≡◌, ◌<◌, ℕ, inl, inr, List, [], ◌∷◌, length, refl, sym, subst, Contains}
use Rattle.std.proofs.lemmas.List.Elements.{All-contains}
use Rattle.wit_digraph.specs.facts.MemberFacts.{Contains-nil, Contains-cons_cases, Contains-flat_map_cases}
use Rattle.wit_digraph.specs.Relation.{direct, IsAcyclic}
use Rattle.wit_elaboration.specs.steps.Closures.{AreRowsOfAll, HasColumnsOf, MayNeed, column}
use Rattle.wit_elaboration.specs.steps.Elaborating.{IsExportedList}
use Rattle.wit_elaboration.specs.Entries.{Entry, item_interface}
use Rattle.wit_elaboration.specs.Imported.{HasTransitiveConflict}

-- the interface of this entry may need what is exported
abbrev pub EntryMayNeed : List (List ℕ) → List (List ℕ) → List ℕ → List ℕ → Entry → Type 0
EntryMayNeed uses rows exported columns e =
    (i : ℕ) × Contains (item_interface e.1) i × MayNeed uses rows exported columns i

module _ (uses rows : List (List ℕ)) (exported columns : List ℕ) (e : Entry) where
  pub need_passed : (i : ℕ) → i ∷ [] ≡ item_interface e.1 → (MayNeed uses rows exported columns i → ⊥) → EntryMayNeed uses rows exported columns e → ⊥
  need_passed i gives lacks need =
      elim (Contains-cons_cases i need.0 [] (subst (λ xs. Contains xs need.0) (sym gives) need.1)) [
        | inl same ↦ lacks (subst (λ m. MayNeed uses rows exported columns m) (sym same) need.2)
        | inr none ↦ Contains-nil none
      ]

  pub need_none : [] ≡ item_interface e.1 → EntryMayNeed uses rows exported columns e → ⊥
  need_none gives need = Contains-nil (subst (λ xs. Contains xs need.0) (sym gives) need.1)

-- of those that are left, one of which it isn't so is passed
left_passed : {X : Type 0} (P : X → Type 0) (xs : List X) {left others : List X} (x : X) → left ≡ x ∷ others → ((y : X) → Contains xs y → P y → Contains left y) → (P x → ⊥) → (y : X) → Contains xs y → P y → Contains others y
left_passed P xs {left} {others} x first so_far not_here y has holds =
    elim (Contains-cons_cases x y others (subst (λ ys. Contains ys y) first (so_far y has holds))) [ inl same ↦ absurd (not_here (subst P (sym same) holds)) | inr there ↦ there ]

-- some entries are left, of which this one is the first
module _ (uses rows : List (List ℕ)) (exported columns : List ℕ) {left others : List Entry} {e : Entry} (first : left ≡ e ∷ others) (xs : List Entry) (so_far : (f : Entry) → Contains xs f → EntryMayNeed uses rows exported columns f → Contains left f) where
  pub given_passed : (i : ℕ) → i ∷ [] ≡ item_interface e.1 → (MayNeed uses rows exported columns i → ⊥) → (f : Entry) → Contains xs f → EntryMayNeed uses rows exported columns f → Contains others f
  given_passed i gives lacks = left_passed (EntryMayNeed uses rows exported columns) xs e first so_far (need_passed uses rows exported columns e i gives lacks)

  pub nothing_passed : [] ≡ item_interface e.1 → (f : Entry) → Contains xs f → EntryMayNeed uses rows exported columns f → Contains others f
  nothing_passed gives = left_passed (EntryMayNeed uses rows exported columns) xs e first so_far (need_none uses rows exported columns e gives)

-- none are left, so it is so of none
pub left_none : {X : Type 0} (P : X → Type 0) (xs : List X) {left : List X} → left ≡ [] → ((y : X) → Contains xs y → P y → Contains left y) → (y : X) → Contains xs y → P y → ⊥
left_none P xs none so_far y has holds = Contains-nil (subst (λ ys. Contains ys y) none (so_far y has holds))

-- where no entry may need any, there is no conflict
pub none_needed : (uses rows : List (List ℕ)) → IsAcyclic uses → (exports : List Entry) (exported columns : List ℕ) → AreRowsOfAll uses rows → IsExportedList exported exports → HasColumnsOf exported columns →
    ((e : Entry) → Contains exports e → EntryMayNeed uses rows exported columns e → ⊥) → HasTransitiveConflict uses exports → ⊥
none_needed uses rows acyclic exports exported columns told tells has none conflict =
    let part = Contains-flat_map_cases (λ (f : Entry). item_interface f.1) exports conflict.0 conflict.2 in
    let d = conflict.1 in
    let between = conflict.4 in
    let below : d < length uses = All-contains (λ z. z < length uses) (direct uses conflict.0) d (acyclic.in_range conflict.0) conflict.3 in
    let c = column between.1 in
    none part.0 part.1.0 (
      conflict.0,
      part.1.1,
      (
        d,
        conflict.3,
        (
          (λ key. between.0 ((tells d).0 key)),
          (
            c,
            ((told.each d below).exact c).1 (between.1, between.2, refl),
            (has c).1 (between.1, (tells between.1).1 between.3, refl),
          ),
        ),
      ),
    )
