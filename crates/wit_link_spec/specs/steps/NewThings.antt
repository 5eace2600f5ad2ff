-- What of a list is remapped to an id that isn't there yet.
use Rattle.std.specs.Prelude.{ℕ, Bool, false, List, Option, None, Some, nat_le, slice_get}

-- an id that isn't below the first one
abbrev pub is_from : ℕ → Option (Option ℕ) → Bool
is_from first None = false
is_from first (Some None) = false
is_from first (Some (Some id)) = nat_le first id

-- what stands at an index is remapped to an id that isn't there yet
abbrev pub is_new : ℕ → List (Option ℕ) → ℕ → Bool
is_new first ids i = is_from first (slice_get ids i)
