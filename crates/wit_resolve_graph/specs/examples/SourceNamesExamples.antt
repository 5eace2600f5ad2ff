-- Names of the sources of two packages: of files a and b, and of files b and c.
use Rattle.std.specs.Prelude.{◌≡◌, ◌≢◌, [], ◌∷◌, None, Some}
use Rattle.wit_resolve_graph.specs.SourceNames.{NamesOf, all_names, package_names}

abbrev pub two_packages : NamesOf
two_packages =
    record {
      sources = ((97 ∷ []) ∷ (98 ∷ []) ∷ []) ∷ ((98 ∷ []) ∷ (99 ∷ []) ∷ []) ∷ [];
      places = (0, 0) ∷ (1, 1) ∷ [];
    }

pub record ExamplesOfNames : Type 0 where
  pub all : all_names two_packages ≡ (97 ∷ []) ∷ (98 ∷ []) ∷ (99 ∷ []) ∷ []
  pub of_a_package : package_names two_packages 1 ≡ Some ((98 ∷ []) ∷ (99 ∷ []) ∷ [])
  pub of_no_package : package_names two_packages 2 ≡ None
  -- near misses: a name twice, the names of another package
  pub not_twice : all_names two_packages ≢ (97 ∷ []) ∷ (98 ∷ []) ∷ (98 ∷ []) ∷ (99 ∷ []) ∷ []
  pub not_of_another : package_names two_packages 1 ≢ Some ((97 ∷ []) ∷ (98 ∷ []) ∷ [])
