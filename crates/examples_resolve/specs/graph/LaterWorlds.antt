-- Which world of a package is told of, and what is told of a package without an image.
use Rattle.std.specs.Prelude.{ℕ, List, [], ◌∷◌, Some, None, codes}
use Rattle.wit_data.specs.Entries.{Entry}
use Rattle.wit_data.specs.declared.interface.Interface.{Interface}
use Rattle.wit_data.specs.declared.world.World.{World}
use Rattle.wit_data.specs.declared.world.WorldInclude.{WorldInclude}
use Rattle.wit_data.specs.declared.stability.Stability.TheVariants.{Unknown}
use Rattle.wit_elaboration.specs.examples.Examples.{empty_graph}
use Rattle.wit_graph_data.specs.examples.Samples.{sample}
use Rattle.wit_graph_data.specs.declared.cause.Cause.TheVariants as cause
use Rattle.wit_graph_data.specs.declared.error_kind.ResolveErrorKind.{ResolveErrorKind}
use Rattle.wit_graph_data.specs.declared.error_kind.ResolveErrorKind.TheVariants.{Semantic, StabilityMismatch}
use Rattle.wit_labels.specs.examples.Examples.{function_entry}
use Rattle.wit_link_spec.specs.Addition.{Addition}
use Rattle.wit_link_spec.specs.Cause.{IsAdditionCause}
use Rattle.wit_link_spec.specs.Gates.{OptionalSpan}
use Rattle.examples_resolve.specs.graph.Packages.{adding, all_features, gate_f, gate_g, gated_entry, including_lists, loose_interface, loose_world, no_features, since_one, with_lists}
use Rattle.examples_resolve.specs.graph.Worked.{package_of}

-- an include of world w of the package
abbrev pub include_of : ℕ → WorldInclude
include_of w = record { stability = Unknown; id = w; names = []; span = Some (50, 60) }

-- worlds b1 and b2, which import a under two gates, and d, which includes both
abbrev pub two_gates : Addition
two_gates =
    adding all_features empty_graph (package_of []
    (loose_interface (codes "a") [] Unknown ∷ [])
    (loose_world (codes "b1") (gated_entry gate_f ∷ []) [] []
    ∷ loose_world (codes "b2") (gated_entry gate_g ∷ []) [] []
    ∷ loose_world (codes "d") [] [] (include_of 0 ∷ include_of 1 ∷ []) ∷ []))

-- labels that are not strongly unique
abbrev pub alike_entries : List Entry
alike_entries = function_entry (codes "ab") ∷ function_entry (codes "AB") ∷ []

-- world w with them
abbrev pub w_of_alike : World
w_of_alike = loose_world (codes "w") alike_entries [] []

-- a world v of these imports, and w
abbrev pub before_alike : List Entry → Addition
before_alike imports =
    adding no_features empty_graph
    (package_of [] [] (loose_world (codes "v") imports [] [] ∷ w_of_alike ∷ []))

-- the error that tells of w
abbrev pub w_is_alike : ResolveErrorKind
w_is_alike =
    Semantic None
    (codes "import `AB` in world `w` conflicts with import `ab` (names must be strongly unique)")
    cause.NotStronglyUnique

-- the same world in a package without a version, beside an interface under `@since`
abbrev pub alike_unversioned : Addition
alike_unversioned =
    adding no_features empty_graph (record (with_lists alike_entries [])
    { interfaces = loose_interface (codes "i") [] since_one ∷ [] })

-- such a package whose world includes another, of foo:bar
abbrev pub including_unversioned : Addition
including_unversioned =
    adding no_features (sample [] [])
    (record (including_lists alike_entries []) {
      interfaces = loose_interface (codes "a") []
          Unknown ∷ loose_interface (codes "i") [] since_one ∷ [];
    })

-- worlds b and d with a function f each, of which d includes b, which brings f again, and w, beside these interfaces
abbrev pub shadowing_first : List Interface → Addition
shadowing_first interfaces = adding no_features empty_graph (package_of [] interfaces
    (loose_world (codes "b") (function_entry (codes "f") ∷ []) [] []
    ∷ loose_world (codes "d") (function_entry (codes "f") ∷ []) [] (include_of 0 ∷ [])
    ∷ w_of_alike ∷ []))

-- worlds one after another, and packages without an image
pub record ExamplesOfLaterWorlds : Type 0 where
  -- 8: at the second include of the third world
  pub second_include : IsAdditionCause two_gates (StabilityMismatch (Some (50, 60)) gate_g gate_f)
  -- 17: of w, where nothing is wrong with v; not where v is refused itself
  pub second_world : IsAdditionCause (before_alike []) w_is_alike
  pub first_told : (span : OptionalSpan) (message : List ℕ)
      → IsAdditionCause (before_alike (function_entry (codes "[set]p") ∷ []))
      (Semantic span message cause.NotStronglyUnique) → ⊥
  -- 17 without an image: of a world that includes nothing, and not of one that does
  pub unversioned : IsAdditionCause alike_unversioned w_is_alike
  pub including : (span : OptionalSpan) (message : List ℕ)
      → IsAdditionCause including_unversioned (Semantic span message cause.NotStronglyUnique) → ⊥
  -- nor is it asked then what worlds before it include; where there is an image, 7 is told of d, and 17 of none
  pub behind_unmade : IsAdditionCause
      (shadowing_first (loose_interface (codes "i") [] since_one ∷ [])) w_is_alike
  pub behind_shadowing : (span : OptionalSpan) (message : List ℕ)
      → IsAdditionCause (shadowing_first []) (Semantic span message cause.NotStronglyUnique) → ⊥
