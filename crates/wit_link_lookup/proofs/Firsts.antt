-- The first thing of a list that names an id, where each id is named once.
use Rattle.std.proofs.Common.{◌≡◌, ◌∙◌, ℕ, Bool, true, false, List, [], ◌∷◌, ◌++◌, inl, inr, cond, nat_eq, Option, None, Some, refl, sym, ap, subst, eq-eqb, Contains}
use Rattle.std.specs.List.{IsDistinct, find, flat_map, list_any}
use Rattle.std.specs.Option.{option_or}
use Rattle.std.proofs.lemmas.Bool.{false≢true}
use Rattle.std.proofs.lemmas.List.Elements.{Contains-append_right}
use Rattle.std.proofs.lemmas.List.Folds.{find-append}
use Rattle.std.proofs.lemmas.Map.Keys.{IsDistinct-head, IsDistinct-tail}
use Rattle.wit_values.specs.facts.Lists.{AllByRecursion-at}
use Rattle.wit_digraph.specs.facts.FreshFacts.{any_from_contains, contains_from_any, no_any_from}
use Rattle.wit_digraph.specs.facts.MemberFacts.{Contains-cons_cases, Contains-flat_map, Contains-here, Contains-nil}
use Rattle.wit_graph_theory.specs.facts.ListFacts.{place_of}

-- what stands in one part of a list of different numbers stands in no other
apart : (xs ys : List ℕ) (k : ℕ) → IsDistinct nat_eq (xs ++ ys) → Contains xs k → Contains ys k → ⊥
apart [] ys k differ first second = Contains-nil first
apart (x ∷ xs) ys k differ first second = elim (Contains-cons_cases x k xs first) [
  | inl same ↦
      let at = place_of (xs ++ ys) k (Contains-append_right xs ys k second) in
      let other : nat_eq x k ≡ false = AllByRecursion-at (λ (y : ℕ). nat_eq x y ≡ false) (xs ++ ys) at.0 k (IsDistinct-head nat_eq x (xs ++ ys) differ) at.1 in
      false≢true (sym other ∙ eq-eqb x k same)
  | inr there ↦ apart xs ys k (IsDistinct-tail nat_eq x (xs ++ ys) differ) there second
]

rest_differs : (xs ys : List ℕ) → IsDistinct nat_eq (xs ++ ys) → IsDistinct nat_eq ys
rest_differs [] ys differ = differ
rest_differs (x ∷ xs) ys differ = rest_differs xs ys (IsDistinct-tail nat_eq x (xs ++ ys) differ)

module _ {X : Type 0} (ids : X → List ℕ) where
  -- does a thing name an id?
  abbrev pub names : ℕ → X → Bool
  names id x = list_any (nat_eq id) (ids x)

  -- none before a thing names its id
  pub none_before : (xs ys : List X) (x : X) (id : ℕ) → IsDistinct nat_eq (flat_map ids (xs ++ x ∷ ys)) → ids x ≡ id ∷ [] → find (names id) xs ≡ None
  none_before [] ys x id differ is = refl
  none_before (z ∷ zs) ys x id differ is =
      let whole = flat_map ids (zs ++ x ∷ ys) in
      let rest = none_before zs ys x id (rest_differs (ids z) whole differ) is in
      let later : Contains whole id =
      Contains-flat_map ids (zs ++ x ∷ ys) x id (Contains-append_right zs (x ∷ ys) x (Contains-here x ys)) (subst (λ (l : List ℕ). Contains l id) (sym is) (Contains-here id [])) in
      by (names id z) refl rest (λ h. apart (ids z) whole id differ (contains_from_any id (ids z) h) later)
    where
      by : (b : Bool) → names id z ≡ b → find (names id) zs ≡ None → (names id z ≡ true → ⊥) → cond b (Some z) (find (names id) zs) ≡ None
      by true is rest never = absurd (never is)
      by false is rest never = rest

  -- a thing at the end is the first that names its id
  pub first_at_end : (xs : List X) (x : X) (id : ℕ) → find (names id) xs ≡ None → ids x ≡ id ∷ [] → find (names id) (xs ++ x ∷ []) ≡ Some x
  first_at_end xs x id none is =
      let passes : names id x ≡ true = any_from_contains id (ids x) (subst (λ (l : List ℕ). Contains l id) (sym is) (Contains-here id [])) in
      find-append (names id) xs (x ∷ []) ∙ ap (λ (o : Option X). option_or o (find (names id) (x ∷ []))) none ∙ ap (λ (b : Bool). cond b (Some x) None) passes

  -- and hides no other
  pub first_as_before : (xs : List X) (x : X) (id : ℕ) → (Contains (ids x) id → ⊥) → find (names id) (xs ++ x ∷ []) ≡ find (names id) xs
  first_as_before xs x id other =
      let fails : names id x ≡ false = no_any_from id (ids x) other in
      find-append (names id) xs (x ∷ []) ∙ ap (λ (b : Bool). option_or (find (names id) xs) (cond b (Some x) None)) fails ∙ or_none (find (names id) xs)
    where
      or_none : (o : Option X) → option_or o None ≡ o
      or_none None = refl
      or_none (Some y) = refl
