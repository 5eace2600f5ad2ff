-- How far the reasons reach for which turns are refused: a name is taken in the world's own package alone, and of a
-- conflict nothing is told where a type would be exported.
use Rattle.std.specs.Prelude.{◌≡◌, ◌≢◌, ℕ, Bool, true, false, List, [], ◌∷◌, ◌++◌, None, Some, codes}
use Rattle.wit_sources.specs.Span.{OptionalSpan}
use Rattle.wit_names.specs.declared.package_name.PackageName.{PackageName}
use Rattle.wit_data.specs.declared.world.World.{World}
use Rattle.wit_data.specs.declared.types.TypeDefKind.TheVariants as kind
use Rattle.wit_data.specs.declared.types.TypeOwner.TheVariants as owner
use Rattle.wit_data.specs.declared.types.Type_.TheVariants as type
use Rattle.wit_data.specs.declared.world.WorldItem.TheVariants as item
use Rattle.wit_data.specs.declared.world.WorldKey.TheVariants as key
use Rattle.wit_elaboration.specs.Entries.{Entry}
use Rattle.wit_graph_data.specs.Error.{NoCause}
use Rattle.wit_graph_data.specs.examples.Samples.{entry_of, foo_bar, foo_bar_of, sample, type_of, world_of}
use Rattle.wit_graph_data.specs.declared.cause.Cause.TheVariants.{NameTaken, TypeExported}
use Rattle.wit_graph_data.specs.declared.graph.Graph.{Graph}
use Rattle.wit_graph_data.specs.declared.error_kind.ResolveErrorKind.{ResolveErrorKind}
use Rattle.wit_graph_data.specs.declared.error_kind.ResolveErrorKind.TheVariants.{InvalidTransitiveDependency, Semantic}
use Rattle.wit_transform.specs.Transformed.{IsExportizeCause, IsImportizeCause, exportized, importized, transformed}
use Rattle.wit_transform.specs.examples.TransformExamples.{a, b, chain}
use Rattle.wit_transform.specs.steps.Parts.{type_exported_text}

-- ---- names that are taken

-- the name foo:baz
abbrev pub foo_baz : PackageName
foo_baz = record foo_bar { name = codes "baz" }

-- foo:bar with interfaces a and b, a first world and another one, u; and foo:baz with world v; both with these tables
-- of worlds
abbrev pub two_packages : World → List (List ℕ × ℕ) → List (List ℕ × ℕ) → Graph
two_packages world first second = record (sample [] []) {
  worlds =
      world ∷ world_of (codes "u") [] []
      ∷ record (world_of (codes "v") [] []) { «package» = Some 1 } ∷ [];
  packages =
      foo_bar_of ((codes "a", 0) ∷ (codes "b", 1) ∷ []) first
      ∷ record (foo_bar_of [] second) { name = foo_baz } ∷ [];
  package_names = (foo_bar, 0) ∷ (foo_baz, 1) ∷ [];
}

-- the first world is w and imports a
abbrev pub w_imports_a : World
w_imports_a = world_of (codes "w") (a ∷ []) []

abbrev pub of_w : Graph
of_w = two_packages w_imports_a ((codes "w", 0) ∷ (codes "u", 1) ∷ []) ((codes "v", 2) ∷ [])

-- it is v then, with these imports and exports, last in the table of its package
abbrev pub of_another_v : List Entry → List Entry → Graph
of_another_v imports exports =
    two_packages (world_of (codes "v") imports exports) ((codes "u", 1) ∷ (codes "v", 0) ∷ [])
    ((codes "v", 2) ∷ [])

pub record ExamplesOfNamesInUse : Type 0 where
  -- the name of a world of another package is free, for either turn: whatever is told, there is no reason
  pub free_to_importize : NoCause (IsImportizeCause of_w 0 (Some (codes "v")))
  pub free_to_exportize : NoCause (IsExportizeCause of_w 0 (true ∷ []) (Some (codes "v")))
  -- also the other way round
  pub free_in_the_second : NoCause (IsImportizeCause of_w 2 (Some (codes "w")))
  -- and two worlds have it then, each in its package
  pub importized_to_it : transformed of_w 0 (importized (Some (codes "v"))) ≡ of_another_v [] []
  pub exportized_to_it : transformed of_w 0 (exportized (true ∷ []) (Some (codes "v")))
      ≡ of_another_v [] (a ∷ [])
  -- not: the graph as it was, the other package's v gone from its table
  pub not_left : transformed of_w 0 (importized (Some (codes "v"))) ≢ of_w
  pub not_in_its_place : transformed of_w 0 (importized (Some (codes "v")))
      ≢ two_packages (world_of (codes "v") [] []) ((codes "u", 1) ∷ (codes "v", 0) ∷ []) []
  -- that of another world of the package is taken, which that package's name tells
  pub taken : IsImportizeCause of_w 0 (Some (codes "u"))
      (Semantic None (codes "world `u` is already defined in package `foo:bar`") NameTaken)
  pub taken_to_exportize : IsExportizeCause of_w 0 (true ∷ []) (Some (codes "u"))
      (Semantic None (codes "world `u` is already defined in package `foo:bar`") NameTaken)
  pub not_in_the_other : IsImportizeCause of_w 0 (Some (codes "u"))
      (Semantic None (codes "world `u` is already defined in package `foo:baz`") NameTaken) → ⊥

-- ---- a conflict beside a type

-- interface c uses b, which uses a, and world w imports them and a type k of its own
abbrev pub k : Entry
k = (key.Name (codes "k"), item.Type_ 3 None)

abbrev pub chain_with_k : Graph
chain_with_k = record {
  types = chain.types ++ type_of (Some (codes "k")) (kind.Type_ type.U32) (owner.World 0) ∷ [];
  interfaces = chain.interfaces;
  worlds = world_of (codes "w") (a ∷ b ∷ entry_of 2 ∷ k ∷ []) [] ∷ world_of (codes "v") [] [] ∷ [];
  packages = chain.packages;
  package_names = chain.package_names;
}

-- a and c are exported, which are in conflict, and so is the type or isn't
abbrev pub ends_and : Bool → List Bool
ends_and with_k = true ∷ false ∷ true ∷ with_k ∷ []

-- w is refused as x with this error
abbrev pub IsRefusedAsX : List Bool → ResolveErrorKind → Type 0
IsRefusedAsX answers error = IsExportizeCause chain_with_k 0 answers (Some (codes "x")) error

pub record ExamplesOfConflictsBesideTypes : Type 0 where
  -- where the type stays the conflict is told, and no type
  pub conflict : IsRefusedAsX (ends_and false)
      (InvalidTransitiveDependency None (codes "foo:bar/c"))
  pub no_type : (label : List ℕ)
      → IsRefusedAsX (ends_and false) (Semantic None (type_exported_text label) TypeExported) → ⊥
  -- where it would be exported the type is told, and no conflict, of whatever name
  pub type_exported : IsRefusedAsX (ends_and true)
      (Semantic None (codes "type import `k` cannot be exported") TypeExported)
  pub type_before : (span : OptionalSpan) (name : List ℕ)
      → IsRefusedAsX (ends_and true) (InvalidTransitiveDependency span name) → ⊥
