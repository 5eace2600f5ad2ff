-- Which renaming of an include is the first of a word.
use Rattle.std.specs.Prelude.{◌≡◌, ℕ, Bool, List, Option, None, Some, slice_get, find, bytes_eq}
use Rattle.std.specs.Map.{lookup}
use Rattle.wit_data.specs.declared.world.IncludeName.{IncludeName}

-- is the renaming of this word?
abbrev pub is_of : List ℕ → IncludeName → Bool
is_of word name = bytes_eq word name.name

-- the index at which a renaming stands, none where there is no renaming
abbrev pub IsIndexOf : List IncludeName → Option ℕ → Option IncludeName → Type 0
IsIndexOf names None found = found ≡ None
IsIndexOf names (Some place) found =
    (name : IncludeName) × (slice_get names place ≡ Some name) × (found ≡ Some name)

-- a table has under each word the index of the first renaming of it, and no word more
abbrev pub AreFirstIndices : List IncludeName → List (List ℕ × ℕ) → Type 0
AreFirstIndices names table =
    (word : List ℕ) → IsIndexOf names (lookup (bytes_eq word) table) (find (is_of word) names)
