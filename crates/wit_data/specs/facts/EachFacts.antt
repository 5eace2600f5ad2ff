-- Facts on what holds of the first elements of a list, each at its place: the steps of a loop that tests
-- them, for the proofs of this crate and of the crates above. They say nothing about this crate's code.
use Rattle.std.proofs.Common.{◌≡◌, ℕ, zero, suc, ◌+◌, ◌<◌, ◌≤◌, ◌++◌, ◌∷◌, [], ◌⊎◌, inl, inr, List, Bool, true, false, length, take, flat_map, refl, Option, None, Some, slice_get, subst, sym, arith}
use Rattle.std.proofs.lemmas.Grind.{flat_map-append}
use Rattle.std.proofs.lemmas.List.{append-nil}
use Rattle.wit_values.specs.facts.Lists.{take-next_at}
use Rattle.std.specs.Prelude.{◌↔◌, IsTrue, IsSomeAnd}
use Rattle.std.proofs.lemmas.Option.{slice_get_within}
use Rattle.wit_data.specs.Each.{EachAt, SomeAt}

-- P holds of each of the first n elements and its place
pub record EachBelow {X : Type 0} (n : ℕ) (P : ℕ → X → Type 0) (xs : List X) : Type 0 where
  pub each : (i : ℕ) (x : X) → i < n → slice_get xs i ≡ Some x → P i x

below_or_same : (i n : ℕ) → i < n + 1 → (i < n) ⊎ (i ≡ n)
below_or_same i n within = grind arith

module _ {X : Type 0} {P : ℕ → X → Type 0} {xs : List X} {n : ℕ} where
  -- one more, of which P holds whatever it is
  pub one_skip : EachBelow n P xs → ((x : X) → slice_get xs n ≡ Some x → P n x) → EachBelow (n + 1) P xs
  one_skip below here = record {
    each = λ i y within there. elim (below_or_same i n within) [
      | inl earlier ↦ below.each i y earlier there
      | inr same ↦ subst (λ (k : ℕ). P k y) (sym same) (here y (subst (λ (k : ℕ). slice_get xs k ≡ Some y) same there))
    ];
  }

  -- one more, of which P holds
  pub one_more : EachBelow n P xs → (x : X) → slice_get xs n ≡ Some x → P n x → EachBelow (n + 1) P xs
  one_more below x at here = one_skip below (λ y there. let same : x ≡ y = inside (sym at) there in subst (P n) same here)
    where
      inside : {y : X} → Some x ≡ slice_get xs n → slice_get xs n ≡ Some y → x ≡ y
      inside {y} first second = cc

module _ {X : Type 0} where
  -- one more, of which a test says that P holds
  pub more : {P : ℕ → X → Type 0} {xs : List X} {n : ℕ} {b : Bool} → EachBelow n P xs → (x : X) → slice_get xs n ≡ Some x → IsTrue b ↔ P n x → b ≡ true
      → EachBelow (n + 1) P xs
  more below x at test passed = one_more below x at (test.0 passed)

  -- lists that are written out
  pub EachAt-nil : (P : ℕ → X → Type 0) → EachAt P []
  EachAt-nil P i x at = cc

  pub EachAt-cons : (P : ℕ → X → Type 0) (x : X) (xs : List X) → P 0 x → EachAt (λ i. P (suc i)) xs → EachAt P (x ∷ xs)
  EachAt-cons P x xs here others zero y at = let same : x ≡ y = cc in subst (P 0) same here
  EachAt-cons P x xs here others (suc i) y at = others i y at

  pub EachAt-one : (P : ℕ → X → Type 0) (x : X) → P 0 x → EachAt P (x ∷ [])
  EachAt-one P x here = EachAt-cons P x [] here (EachAt-nil (λ i. P (suc i)))

  pub EachAt-two : (P : ℕ → X → Type 0) (x y : X) → P 0 x → P 1 y → EachAt P (x ∷ y ∷ [])
  EachAt-two P x y first second = EachAt-cons P x (y ∷ []) first (EachAt-one (λ i. P (suc i)) y second)

  pub EachAt-three : (P : ℕ → X → Type 0) (x y z : X) → P 0 x → P 1 y → P 2 z → EachAt P (x ∷ y ∷ z ∷ [])
  EachAt-three P x y z first second third = EachAt-cons P x (y ∷ z ∷ []) first (EachAt-two (λ i. P (suc i)) y z second third)

  -- all
  pub all : {P : ℕ → X → Type 0} {xs : List X} {n : ℕ} → EachBelow n P xs → length xs ≤ n → (true ≡ true) ↔ EachAt P xs
  all {P} {xs} {n} below reached = (λ _. λ i x at. let within : i < length xs = slice_get_within xs i x at in below.each i x (omega arith) at, λ _. refl)

  pub all_of : {P : ℕ → X → Type 0} {xs : List X} {n : ℕ} → EachBelow n P xs → length xs ≤ n → EachAt P xs
  all_of below reached = (all below reached).0 refl

  -- not all, since a test says that P doesn't hold of this one
  pub fails : {P : ℕ → X → Type 0} {xs : List X} {n : ℕ} {b : Bool} → EachBelow n P xs → (x : X) → slice_get xs n ≡ Some x → IsTrue b ↔ P n x → b ≡ false
      → (false ≡ true) ↔ EachAt P xs
  fails {P} {xs} {n} {b} below x at test failed = (λ h. cc, λ each. let passed : b ≡ true = test.1 (each n x at) in cc)

  -- of the first elements and one more, what each gives
  pub flat_map-next : {Y : Type 0} (f : X → List Y) (xs : List X) (i : ℕ) (x : X) → slice_get xs i ≡ Some x → flat_map f (take (i + 1) xs) ≡ flat_map f (take i xs) ++ f x
  flat_map-next f xs i x at = rw (take-next_at xs i x at, flat_map-append f (take i xs) (x ∷ []), append-nil) refl

  -- a list of no elements
  pub nil_from_length : (xs : List X) → length xs ≡ 0 → xs ≡ []
  nil_from_length [] none = refl
  nil_from_length (x ∷ xs) none = absurd (omega arith)

  -- what stands at a place, of which P holds
  at_some : (P : X → Type 0) (o : Option X) → IsSomeAnd o P → (x : X) × (o ≡ Some x) × P x
  at_some P None holds = absurd holds
  at_some P (Some x) holds = (x, refl, holds)

  pub SomeAt-is : (P : X → Type 0) (xs : List X) (i : ℕ) → SomeAt xs i P → (x : X) × (slice_get xs i ≡ Some x) × P x
  SomeAt-is P xs i holds = at_some P (slice_get xs i) holds

  pub SomeAt-of : (P : X → Type 0) (xs : List X) (i : ℕ) (x : X) → slice_get xs i ≡ Some x → P x → SomeAt xs i P
  SomeAt-of P xs i x at holds = subst (λ (o : Option X). IsSomeAnd o P) (sym at) holds
