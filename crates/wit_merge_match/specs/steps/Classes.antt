-- Classes of things that are the same: each thing has another one of its class, with a smaller number, or is the one by
-- which the class is told.
use Rattle.std.specs.Prelude.{◌≡◌, ◌≤◌, ℕ, List, Some, slice_get}
use Rattle.wit_merge_spec.specs.Structure.{Feature}

-- what each thing has is no larger
abbrev pub IsDescending : List ℕ → Type 0
IsDescending leaders = (i j : ℕ) → slice_get leaders i ≡ Some j → j ≤ i

-- and is the same
abbrev pub AreSame : (ℕ → List Feature) → List ℕ → Type 0
AreSame f leaders = (i j : ℕ) → slice_get leaders i ≡ Some j → f i ≡ f j
