-- A package that is defined twice, told with both places.
use Rattle.std.specs.Prelude.{◌≡◌, ◌≢◌, ℕ, List, [], ◌∷◌, ◌++◌, Option, Some, None, codes}
use Rattle.wit_sources.specs.declared.source_map.SourceFile.{SourceFile}
use Rattle.wit_graph_data.specs.ErrorText.{rendered_text, text_with_locations}
use Rattle.wit_graph_data.specs.examples.Samples.{foo_bar}
use Rattle.wit_graph_data.specs.declared.error_kind.ResolveErrorKind.TheVariants.{DuplicatePackage, PackageCycle}

-- two files that say the same, of 16 bytes
abbrev pub two_files : List SourceFile
two_files =
    record { path = codes "m.wit"; contents = codes "package foo:bar;"; start = 0 }
    ∷ record { path = codes "n.wit"; contents = codes "package foo:bar;"; start = 17 } ∷ []

-- what is told of foo:bar, with these places
abbrev pub told : Option (ℕ × ℕ) → Option (ℕ × ℕ) → List ℕ
told first second = rendered_text two_files (DuplicatePackage foo_bar first second)

-- the text with these places
abbrev pub with_places : List ℕ → List ℕ → List ℕ
with_places first second =
    text_with_locations (codes "package `foo:bar` is defined in two different locations") first
    second

pub record ExamplesOfTwoPlaces : Type 0 where
  -- the text, and each place on a line of its own, in the order in which they are given
  pub text : text_with_locations (codes "twice") (codes "m.wit:1:9") (codes "n.wit:2:1")
      ≡ codes "twice:\n  * m.wit:1:9\n  * n.wit:2:1"
  pub not_transformed : text_with_locations (codes "twice") (codes "m.wit:1:9") (codes "n.wit:2:1")
      ≢ codes "twice:\n  * n.wit:2:1\n  * m.wit:1:9"
  pub not_first_alone : text_with_locations (codes "twice") (codes "m.wit:1:9") (codes "n.wit:2:1")
      ≢ codes "twice:\n  * m.wit:1:9"
  pub not_on_one_line : text_with_locations (codes "twice") (codes "m.wit:1:9") (codes "n.wit:2:1")
      ≢ codes "twice: m.wit:1:9, n.wit:2:1"
  pub not_ended : text_with_locations (codes "twice") (codes "m.wit:1:9") (codes "n.wit:2:1")
      ≢ codes "twice:\n  * m.wit:1:9\n  * n.wit:2:1\n"
  -- so a package is told that is defined in two files
  pub both : told (Some (8, 15)) (Some (25, 32))
      ≡ codes
      "package `foo:bar` is defined in two different locations:\n  * m.wit:1:9\n  * n.wit:1:9"
  pub not_both_first : told (Some (8, 15)) (Some (25, 32))
      ≢ with_places (codes "m.wit:1:9") (codes "m.wit:1:9")
  pub not_second_first : told (Some (8, 15)) (Some (25, 32))
      ≢ with_places (codes "n.wit:1:9") (codes "m.wit:1:9")
  pub not_text_alone : told (Some (8, 15)) (Some (25, 32))
      ≢ codes "package `foo:bar` is defined in two different locations"
  -- a place that isn't known is told as such, and the other one as ever
  pub first_unknown : told None (Some (25, 32))
      ≡ with_places (codes "<unknown>") (codes "n.wit:1:9")
  pub not_left_out : told None (Some (25, 32))
      ≢ codes "package `foo:bar` is defined in two different locations:\n  * n.wit:1:9"
  -- another error has its one place above its line, not so
  pub one_place : rendered_text two_files (PackageCycle (Some (8, 15)) foo_bar)
      ≡ codes "package `foo:bar` creates a dependency cycle\n     --> m.wit:1:9\n"
      ++ codes "      |\n    1 | package foo:bar;\n      |         ^------"
  pub not_listed : rendered_text two_files (PackageCycle (Some (8, 15)) foo_bar)
      ≢ codes "package `foo:bar` creates a dependency cycle:\n  * m.wit:1:9"
