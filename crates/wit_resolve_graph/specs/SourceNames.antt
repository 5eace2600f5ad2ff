-- The names of sources: of each source map, and of the source map of each package.
use Rattle.std.specs.Prelude.{◌<◌, ℕ, not, List, [], ◌∷◌, filter, map, Option, option_and_then, slice_get, nat_eq, flat_map, bytes_eq}
use Rattle.std.specs.List.{AllByRecursion}
use Rattle.std.specs.Map.{lookup}
use Rattle.wit_sources.specs.SourceMap.{Sources, paths_of}

-- the names of each source map, and the place of each package's source map, by the packages' ids in order
pub record NamesOf : Type 0 where
  pub sources : List (List (List ℕ))
  pub places : List (ℕ × ℕ)

-- the names of source maps
abbrev pub names_of : List Sources → List (List (List ℕ))
names_of maps = map (λ (source_map : Sources). paths_of source_map.files) maps

-- each name once, where it comes first
abbrev pub each_once : List (List ℕ) → List (List ℕ)
each_once [] = []
each_once (name ∷ names) = name ∷ filter (λ other. not (bytes_eq name other)) (each_once names)

-- all names, each once
abbrev pub all_names : NamesOf → List (List ℕ)
all_names sources = each_once (flat_map (λ names. names) sources.sources)

-- the names of a package's source map, None where the package isn't listed
abbrev pub package_names : NamesOf → ℕ → Option (List (List ℕ))
package_names sources id =
    option_and_then (λ place. slice_get sources.sources place) (lookup (nat_eq id) sources.places)

-- each listed package's source map is there
abbrev pub ArePlaced : List (ℕ × ℕ) → ℕ → Type 0
ArePlaced places count = AllByRecursion (λ (e : ℕ × ℕ). e.1 < count) places
