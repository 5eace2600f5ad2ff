-- Where in lists something first doesn't hold, and what a search for it finds.
use Rattle.std.specs.Prelude.{◌≡◌, ℕ, ◌<◌, List, Option, None, Some, slice_get}
use Rattle.wit_data.specs.Each.{Each, EachAt, SomeAt}

-- P doesn't hold of the element at place i, and holds of each before it
pub record IsFirstWithout {X : Type 0} (P : ℕ → X → Type 0) (xs : List X) (i : ℕ) : Type 0 where
  pub lacks : SomeAt xs i (λ x. P i x → ⊥)
  pub earlier : (j : ℕ) (x : X) → j < i → slice_get xs j ≡ Some x → P j x

-- the place is that of the first element of which P doesn't hold
abbrev pub AtFirst : {X A : Type 0} → (ℕ → A) → (ℕ → X → Type 0) → List X → A → Type 0
AtFirst place P xs at = (i : ℕ) × (IsFirstWithout P xs i × (at ≡ place i))

-- Q is of what the elements of a list list in turn; the place is that of the first of which it doesn't hold
abbrev pub WithinFirst : {X Y A : Type 0}
    → (ℕ → ℕ → A) → (ℕ → X → Y → Type 0) → (X → List Y) → List X → A → Type 0
WithinFirst place Q list xs at =
    (i k : ℕ) × (IsFirstWithout (λ j x. Each (Q j x) (list x)) xs i
    × SomeAt xs i (λ x. IsFirstWithout (λ _. Q i x) (list x) k) × (at ≡ place i k))

-- the place is that of the thing which the first id names of which P doesn't hold
abbrev pub AtFirstId : {A : Type 0} → (ℕ → A) → (ℕ → ℕ → Type 0) → List ℕ → A → Type 0
AtFirstId place P ids at =
    (i id : ℕ) × (IsFirstWithout P ids i × (slice_get ids i ≡ Some id) × (at ≡ place id))

-- ---- what a search finds

-- nothing where this holds, else what breaks it
abbrev pub Finds : {A : Type 0} → Type 0 → (A → Type 0) → Option A → Type 0
Finds holds breaks None = holds
Finds holds breaks (Some at) = breaks at

-- nothing where P holds of each element, else the place of the first of which it doesn't
abbrev pub FindsFirst : {X A : Type 0} → (ℕ → A) → (ℕ → X → Type 0) → List X → Option A → Type 0
FindsFirst place P xs = Finds (EachAt P xs) (AtFirst place P xs)

-- the same of what the elements list in turn
abbrev pub FindsWithin : {X Y A : Type 0}
    → (ℕ → ℕ → A) → (ℕ → X → Y → Type 0) → (X → List Y) → List X → Option A → Type 0
FindsWithin place Q list xs =
    Finds (EachAt (λ i x. Each (Q i x) (list x)) xs) (WithinFirst place Q list xs)

-- nothing where this holds, else the one place that can break it
abbrev pub FindsAt : {A : Type 0} → A → Type 0 → Option A → Type 0
FindsAt place holds = Finds holds (λ at. (holds → ⊥) × (at ≡ place))
