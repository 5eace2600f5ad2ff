-- Small packages that are refused for a world of theirs, and packages that just lack the reason, whatever is told.
use Rattle.std.specs.Prelude.{ℕ, List, [], ◌∷◌, ◌++◌, Some, None, codes}
use Rattle.wit_data.specs.Entries.{Entry}
use Rattle.wit_data.specs.declared.stability.Stability.{Stability}
use Rattle.wit_elaboration.specs.examples.Examples.{empty_graph}
use Rattle.wit_graph_data.specs.examples.Samples.{sample}
use Rattle.wit_graph_data.specs.declared.cause.Cause.TheVariants as cause
use Rattle.wit_graph_data.specs.declared.error_kind.ResolveErrorKind.TheVariants.{InvalidTransitiveDependency, ItemShadowing, Semantic, StabilityMismatch}
use Rattle.wit_labels.specs.examples.Examples.{function_entry, named_as}
use Rattle.wit_link_spec.specs.Addition.{Addition}
use Rattle.wit_link_spec.specs.Cause.{IsAdditionCause}
use Rattle.wit_link_spec.specs.Gates.{OptionalSpan}
use Rattle.examples_resolve.specs.graph.Packages.{adding, all_features, exporting_c, exporting_with, gate_f, gate_g, gated_entry, including_lists, including_package, no_features, since_one, since_package, three, three_exporting, with_lists, with_world}

-- a package whose world has these imports, and the empty graph
abbrev pub importing : List Entry → Addition
importing entries = adding no_features empty_graph (with_lists entries [])

-- worlds alone, and what an include brings
pub record ExamplesOfWorldCauses : Type 0 where
  -- 4: c uses b, which isn't exported and uses a, which is; b uses a alone
  pub conflict : IsAdditionCause (adding no_features three (exporting_with (codes "c")))
      (InvalidTransitiveDependency None (codes "foo:bar/c"))
  pub closed : (span : OptionalSpan) (name : List ℕ)
      → IsAdditionCause (adding no_features three (exporting_with (codes "b")))
      (InvalidTransitiveDependency span name) → ⊥
  -- 7: w brings f, which is there; or h, which isn't, and then 8 holds
  pub shadows : IsAdditionCause
      (adding all_features (with_world gate_g (codes "f")) (including_package []))
      (ItemShadowing (Some (50, 60)) (codes "import") (codes "f"))
  pub other_label : (span : OptionalSpan) (word name : List ℕ)
      → IsAdditionCause (adding all_features (with_world gate_g (codes "h")) (including_package []))
      (ItemShadowing span word name) → ⊥
  pub other_gate : IsAdditionCause
      (adding all_features (with_world gate_g (codes "h")) (including_package []))
      (StabilityMismatch (Some (50, 60)) gate_g gate_f)
  -- nor where the package has no image
  pub no_shadow : (span : OptionalSpan) (word name : List ℕ)
      → IsAdditionCause (adding all_features (with_world gate_g (codes "f")) since_package)
      (ItemShadowing span word name) → ⊥
  -- 8: from the included entry into the one that was there; not where a comes under the gate that
  -- it has, and then 7 holds
  pub mismatch : IsAdditionCause
      (adding all_features (with_world gate_g (codes "f")) (including_package []))
      (StabilityMismatch (Some (50, 60)) gate_g gate_f)
  pub same_gate : (span : OptionalSpan) (brings has : Stability)
      → IsAdditionCause (adding all_features (with_world gate_f (codes "f")) (including_package []))
      (StabilityMismatch span brings has) → ⊥
  pub same_label : IsAdditionCause
      (adding all_features (with_world gate_f (codes "f")) (including_package []))
      (ItemShadowing (Some (50, 60)) (codes "import") (codes "f"))
  -- 16: a renaming of no label; not where it is of one, and then 8 holds
  pub unmatched : IsAdditionCause (adding all_features (with_world gate_g (codes "f"))
      (including_package (named_as (codes "x") (codes "y") ∷ [])))
      (Semantic (Some (50, 60))
      (codes "no import or export kebab-name `x`. Note that an ID does not support renaming")
      cause.RenameUnmatched)
  pub renames : (span : OptionalSpan) (message : List ℕ)
      → IsAdditionCause (adding all_features (with_world gate_g (codes "f"))
      (including_package (named_as (codes "f") (codes "y") ∷ [])))
      (Semantic span message cause.RenameUnmatched) → ⊥
  pub renamed_gate : IsAdditionCause (adding all_features (with_world gate_g (codes "f"))
      (including_package (named_as (codes "f") (codes "y") ∷ [])))
      (StabilityMismatch (Some (50, 60)) gate_g gate_f)
  -- 17: labels that differ in case alone, and in more
  pub alike : IsAdditionCause
      (importing (function_entry (codes "ab") ∷ function_entry (codes "AB") ∷ []))
      (Semantic None (codes "import `AB` in world `w` conflicts with "
      ++ codes "import `ab` (names must be strongly unique)") cause.NotStronglyUnique)
  pub not_alike : (span : OptionalSpan) (message : List ℕ)
      → IsAdditionCause (importing (function_entry (codes "ab") ∷ function_entry (codes "ac") ∷ []))
      (Semantic span message cause.NotStronglyUnique) → ⊥
  -- 18: a setter alone, and one behind its getter
  pub no_getter : IsAdditionCause (importing (function_entry (codes "[set]p") ∷ []))
      (Semantic None (codes "import `[set]p` in world `w` has no corresponding getter `[get]p`")
      cause.NoGetter)
  pub has_getter : (span : OptionalSpan) (message : List ℕ)
      → IsAdditionCause
      (importing (function_entry (codes "[get]p") ∷ function_entry (codes "[set]p") ∷ []))
      (Semantic span message cause.NoGetter) → ⊥

-- ---- what holds of exports, and of what an include has brought

-- foo:bar, whose world w has the one imports, and a package whose world d has the others and includes w
abbrev pub both_import : List Entry → List Entry → Addition
both_import old new = adding no_features (sample old []) (including_lists new [])

-- the same of exports
abbrev pub both_export : List Entry → List Entry → Addition
both_export old new = adding all_features (sample [] old) (including_lists [] new)

-- reasons among exports, and reasons that an include brings
pub record ExamplesOfIncludedCauses : Type 0 where
  -- 4: w exports a, and d exports c, which uses b, which uses a; not where w exports b
  pub conflict : IsAdditionCause (adding no_features (three_exporting 0) exporting_c)
      (InvalidTransitiveDependency None (codes "foo:bar/c"))
  pub closed : (span : OptionalSpan) (name : List ℕ)
      → IsAdditionCause (adding no_features (three_exporting 1) exporting_c)
      (InvalidTransitiveDependency span name) → ⊥
  -- 7: both export f; not where one imports it
  pub shadows : IsAdditionCause
      (both_export (function_entry (codes "f") ∷ []) (function_entry (codes "f") ∷ []))
      (ItemShadowing (Some (50, 60)) (codes "export") (codes "f"))
  pub imported : (span : OptionalSpan) (word name : List ℕ)
      → IsAdditionCause (adding no_features (sample [] (function_entry (codes "f") ∷ []))
      (including_lists (function_entry (codes "f") ∷ []) []))
      (ItemShadowing span word name) → ⊥
  -- 8: both export a, under two gates; not where w is of another package and has it under `@since`
  pub mismatch : IsAdditionCause (both_export (gated_entry gate_g ∷ []) (gated_entry gate_f ∷ []))
      (StabilityMismatch (Some (50, 60)) gate_g gate_f)
  pub since : (span : OptionalSpan) (brings has : Stability)
      → IsAdditionCause (both_export (gated_entry since_one ∷ []) (gated_entry gate_f ∷ []))
      (StabilityMismatch span brings has) → ⊥
  -- 17: what comes is too like what is there, among imports and among exports
  pub alike : IsAdditionCause
      (both_import (function_entry (codes "ab") ∷ []) (function_entry (codes "AB") ∷ []))
      (Semantic None (codes "import `ab` in world `d` conflicts with "
      ++ codes "import `AB` (names must be strongly unique)") cause.NotStronglyUnique)
  pub alike_exports : IsAdditionCause
      (both_export (function_entry (codes "ab") ∷ []) (function_entry (codes "AB") ∷ []))
      (Semantic None (codes "export `ab` in world `d` conflicts with "
      ++ codes "export `AB` (names must be strongly unique)") cause.NotStronglyUnique)
  pub not_alike : (span : OptionalSpan) (message : List ℕ)
      → IsAdditionCause
      (both_import (function_entry (codes "ab") ∷ []) (function_entry (codes "ac") ∷ []))
      (Semantic span message cause.NotStronglyUnique) → ⊥
  -- 18: the getter doesn't come, or it does
  pub no_getter : IsAdditionCause
      (both_import (function_entry (codes "f") ∷ []) (function_entry (codes "[set]p") ∷ []))
      (Semantic None (codes "import `[set]p` in world `d` has no corresponding getter `[get]p`")
      cause.NoGetter)
  pub getter_comes : (span : OptionalSpan) (message : List ℕ)
      → IsAdditionCause (both_import (function_entry (codes "[get]p") ∷ [])
      (function_entry (codes "[set]p") ∷ [])) (Semantic span message cause.NoGetter) → ⊥
