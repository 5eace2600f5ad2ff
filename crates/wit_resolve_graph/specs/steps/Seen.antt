-- How all names are gone through. What they come to is `each_once` (specs/SourceNames).
use Rattle.std.specs.Prelude.{ℕ, List, [], ◌∷◌, ◌++◌, fold, if◌then◌else◌, bytes_eq}
use Rattle.std.specs.List.{list_any}

-- the names with one more, where it isn't among them
abbrev pub with_name : List (List ℕ) → List ℕ → List (List ℕ)
with_name seen name = if list_any (bytes_eq name) seen then seen else seen ++ name ∷ []

-- the names with others, one after another
abbrev pub with_all : List (List ℕ) → List (List ℕ) → List (List ℕ)
with_all seen names = fold with_name seen names
