-- What stands where in lists, and what rows and mapped lists contain.
use Rattle.std.proofs.Common.{◌≡◌, ◌∙◌, ℕ, zero, suc, ◌+◌, ◌<◌, List, [], ◌∷◌, ◌++◌, ◌⊎◌, inl, inr, map, length, Option, None, Some, option_map, slice_get, refl, sym, ap, subst, arith, Contains, IsSomeAnd}
use Rattle.std.specs.List.{flat_map}
use Rattle.std.proofs.lemmas.List.{map-append}
use Rattle.std.proofs.lemmas.Option.{slice_get-map, slice_get_within, slice_get-get_or, get_or_from_slice_get}
use Rattle.wit_values.specs.facts.Lists.{slice_get-append}
use Rattle.wit_data.specs.Each.{Each, SomeAt}
use Rattle.wit_digraph.specs.Relation.{direct}
use Rattle.wit_graph_theory.specs.facts.OptionFacts.{some_same}

-- ---- places

module _ {X : Type 0} where
  -- a place of the second list
  pub at_new : (xs ys : List X) (i k : ℕ) (y : X) → k ≡ length xs + i → slice_get ys i ≡ Some y → slice_get (xs ++ ys) k ≡ Some y
  at_new [] ys i k y place at = let same : k ≡ i = omega arith in subst (λ (j : ℕ). slice_get ys j ≡ Some y) (sym same) at
  at_new (x ∷ xs) ys i zero y place at = absurd (omega arith)
  at_new (x ∷ xs) ys i (suc k) y place at = at_new xs ys i k y (omega arith) at

  -- a place is of the first list or of the second
  pub old_or_new : (xs ys : List X) (k : ℕ) (z : X) → slice_get (xs ++ ys) k ≡ Some z
      → (slice_get xs k ≡ Some z) ⊎ ((i : ℕ) × (k ≡ length xs + i) × (slice_get ys i ≡ Some z))
  old_or_new [] ys k z at = inr (k, omega arith, at)
  old_or_new (x ∷ xs) ys zero z at = inl at
  old_or_new (x ∷ xs) ys (suc k) z at =
      elim (old_or_new xs ys k z at) [
        | inl old ↦ inl old
        | inr new ↦ let place = new.1 in inr (new.0, omega arith, new.2)
      ]

  -- a place within the first list
  pub at_below : (xs ys : List X) (k : ℕ) (z : X) → k < length xs → slice_get (xs ++ ys) k ≡ Some z → slice_get xs k ≡ Some z
  at_below xs ys k z within at =
      elim (old_or_new xs ys k z at) [
        | inl old ↦ old
        | inr new ↦ let place = new.1 in absurd (omega arith)
      ]

  -- what a list contains stands at a place of it
  pub place_of : (xs : List X) (x : X) → Contains xs x → (k : ℕ) × (slice_get xs k ≡ Some x)
  place_of xs x has = (has.0, slice_get-get_or xs has.0 x has.1 ∙ ap Some has.2)

  -- and what stands at a place is contained
  pub contained_at : (xs : List X) (k : ℕ) (x : X) → slice_get xs k ≡ Some x → Contains xs x
  contained_at xs k x at = (k, slice_get_within xs k x at, get_or_from_slice_get xs k x x at)

  -- there is something at the place
  pub found_at : (P : X → Type 0) (xs : List X) (k : ℕ) → SomeAt xs k P → (x : X) × (slice_get xs k ≡ Some x) × P x
  found_at P xs k = by (slice_get xs k) refl
    where
      by : (o : Option X) → slice_get xs k ≡ o → IsSomeAnd o P → (x : X) × (slice_get xs k ≡ Some x) × P x
      by None at h = absurd h
      by (Some x) at h = (x, at, h)

  pub some_at : (P : X → Type 0) (xs : List X) (k : ℕ) (x : X) → slice_get xs k ≡ Some x → P x → SomeAt xs k P
  some_at P xs k x at here = subst (λ (o : Option X). IsSomeAnd o P) (sym at) here

  -- what stands at a place stays there
  pub SomeAt-old : (P Q : X → Type 0) (xs ys : List X) (k : ℕ) → ((x : X) → P x → Q x) → SomeAt xs k P → SomeAt (xs ++ ys) k Q
  SomeAt-old P Q xs ys k weaker h =
      let found = found_at P xs k h in
      some_at Q (xs ++ ys) k found.0 (slice_get-append xs ys k found.0 found.1) (weaker found.0 found.2)

module _ {X Y : Type 0} (f : Y → X) where
  -- a place of a list, after a function
  pub at_map : (ys : List Y) (i : ℕ) (y : Y) → slice_get ys i ≡ Some y → slice_get (map f ys) i ≡ Some (f y)
  at_map ys i y at = slice_get-map f ys i ∙ ap (option_map f) at

  pub from_map : (ys : List Y) (i : ℕ) (x : X) → slice_get (map f ys) i ≡ Some x → (y : Y) × (slice_get ys i ≡ Some y) × (f y ≡ x)
  from_map [] i x at = cc
  from_map (y ∷ ys) zero x at = let same : f y ≡ x = cc in (y, refl, same)
  from_map (y ∷ ys) (suc i) x at = from_map ys i x at

  pub Contains-map : (ys : List Y) (y : Y) → Contains ys y → Contains (map f ys) (f y)
  Contains-map ys y has = let place = place_of ys y has in contained_at (map f ys) place.0 (f y) (at_map ys place.0 y place.1)

  pub Contains-map_cases : (ys : List Y) (x : X) → Contains (map f ys) x → (y : Y) × Contains ys y × (f y ≡ x)
  Contains-map_cases ys x has =
      let place = place_of (map f ys) x has in
      let from = from_map ys place.0 x place.1 in
      (from.0, contained_at ys place.0 from.0 from.1, from.2)

  -- what holds of each thing after the function
  pub Each-map : (P : X → Type 0) (ys : List Y) → ((i : ℕ) (y : Y) → slice_get ys i ≡ Some y → P (f y)) → Each P (map f ys)
  Each-map P ys each i x at = let from = from_map ys i x at in subst P from.2 (each i from.0 from.1)

-- ---- rows

module _ {X : Type 0} (row : X → List ℕ) where
  -- what stands in a row is what the thing there gives
  pub from_row : (xs : List X) (i k : ℕ) → Contains (direct (map row xs) i) k → (x : X) × (slice_get xs i ≡ Some x) × Contains (row x) k
  from_row [] i k has = absurd (omega (arith, has.1))
  from_row (x ∷ xs) zero k has = (x, refl, has)
  from_row (x ∷ xs) (suc i) k has = from_row xs i k has

  pub in_row : (xs : List X) (i : ℕ) (x : X) (k : ℕ) → slice_get xs i ≡ Some x → Contains (row x) k → Contains (direct (map row xs) i) k
  in_row xs i x k at has =
      let here : direct (map row xs) i ≡ row x = get_or_from_slice_get (map row xs) i (row x) [] (at_map row xs i x at) in
      subst (λ (ids : List ℕ). Contains ids k) (sym here) has

-- ---- what lists give

-- two functions that give what is at its place give so of whole lists
pub flat_map-placed : {X Y A B : Type 0} (f : X → Y) (g : Y → List B) (h : X → List A) (m : A → B) → ((x : X) → g (f x) ≡ map m (h x)) → (xs : List X)
    → flat_map g (map f xs) ≡ map m (flat_map h xs)
flat_map-placed f g h m each [] = refl
flat_map-placed f g h m each (x ∷ xs) =
    rw (each x, flat_map-placed f g h m each xs, map-append m (h x) (flat_map h xs)) refl

-- ---- what is there

-- a place within a list has something
pub get_at : {X : Type 0} (xs : List X) (i : ℕ) → i < length xs → (x : X) × (slice_get xs i ≡ Some x)
get_at [] i within = absurd (omega arith)
get_at (x ∷ xs) zero within = (x, refl)
get_at (x ∷ xs) (suc i) within = get_at xs i (omega arith)

-- below one number more is below it or the same
pub below_or_same : (i n : ℕ) → i < n + 1 → (i < n) ⊎ (i ≡ n)
below_or_same i n within = grind arith

-- one place has one thing
pub same_at : {X : Type 0} (xs : List X) (i j : ℕ) (x y : X) → i ≡ j → slice_get xs i ≡ Some x → slice_get xs j ≡ Some y → x ≡ y
same_at xs i j x y same first second = some_same x y (sym first ∙ ap (slice_get xs) same ∙ second)
