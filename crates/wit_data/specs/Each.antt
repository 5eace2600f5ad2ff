-- What holds of the elements of a list, each at its place.
use Rattle.std.specs.Prelude.{◌≡◌, ℕ, List, ◌∷◌, ◌++◌, Contains, Some, slice_get, IsSomeAnd}

-- P holds of each element and its place
abbrev pub EachAt : {X : Type 0} → (ℕ → X → Type 0) → List X → Type 0
EachAt {X} P xs = (i : ℕ) (x : X) → slice_get xs i ≡ Some x → P i x

-- P holds of each element
abbrev pub Each : {X : Type 0} → (X → Type 0) → List X → Type 0
Each P xs = EachAt (λ _ x. P x) xs

-- there is an element at the place, and P holds of it
abbrev pub SomeAt : {X : Type 0} → List X → ℕ → (X → Type 0) → Type 0
SomeAt xs i P = IsSomeAnd (slice_get xs i) P

-- x is the first element of which P holds
pub record First {X : Type 0} (P : X → Type 0) (xs : List X) (x : X) : Type 0 where
  pub before : List X
  pub after : List X
  pub are : xs ≡ before ++ x ∷ after
  pub earlier : (y : X) → Contains before y → P y → ⊥
  pub is : P x
