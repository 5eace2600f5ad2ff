-- Worked turns, and what they aren't. Interface b uses a; worlds stand in package foo:bar.
use Rattle.std.specs.Prelude.{ℕ, ◌≡◌, Bool, true, false, List, [], ◌∷◌, None, Some, codes}
use Rattle.wit_data.specs.declared.types.TypeDefKind.TheVariants as kind
use Rattle.wit_data.specs.declared.types.TypeOwner.TheVariants as owner
use Rattle.wit_data.specs.declared.types.Type_.TheVariants as type
use Rattle.wit_data.specs.declared.world.WorldItem.TheVariants as item
use Rattle.wit_data.specs.declared.world.WorldKey.TheVariants as key
use Rattle.wit_graph_data.specs.Error.{NoCause}
use Rattle.wit_graph_data.specs.declared.cause.Cause.TheVariants.{LabelClash, NameTaken, TypeExported}
use Rattle.wit_graph_data.specs.declared.error_kind.ResolveErrorKind.TheVariants.{InvalidTransitiveDependency, Semantic}
use Rattle.wit_graph_data.specs.declared.graph.Graph.{Graph}
use Rattle.wit_elaboration.specs.Entries.{Entry}
use Rattle.wit_graph_data.specs.examples.Samples.{entry_of, foo_bar_of, function_of, sample, type_in, type_of, interface_of, world_of}
use Rattle.wit_transform.specs.Transformed.{IsExportizeCause, IsImportizeCause, exportized, importized, transformed}

-- the sample with its world under another name
abbrev pub named : List ℕ → List Entry → List Entry → Graph
named name imports exports = record (sample imports exports) {
  worlds = world_of name imports exports ∷ [];
  packages = foo_bar_of ((codes "a", 0) ∷ (codes "b", 1) ∷ []) ((name, 0) ∷ []) ∷ [];
}

abbrev pub a : Entry
a = entry_of 0

abbrev pub b : Entry
b = entry_of 1

-- with a second world v, which has nothing
abbrev pub two : List Entry → Graph
two imports = record (sample imports []) {
  worlds = world_of (codes "w") imports [] ∷ world_of (codes "v") [] [] ∷ [];
  packages =
      foo_bar_of ((codes "a", 0) ∷ (codes "b", 1) ∷ []) ((codes "w", 0) ∷ (codes "v", 1) ∷ []) ∷ [];
}

-- the same after world w went last under its own name
abbrev pub two_transformed : Graph
two_transformed =
    record (two []) {
      packages = foo_bar_of ((codes "a", 0) ∷ (codes "b", 1) ∷ [])
          ((codes "v", 1) ∷ (codes "w", 0) ∷ []) ∷ [];
    }

-- a world with a type t, and a function t among the exports
abbrev pub type_t : Entry
type_t = (key.Name (codes "t"), item.Type_ 0 None)

abbrev pub function_t : Entry
function_t = (key.Name (codes "t"), item.Function (function_of (codes "t") [] None))

abbrev pub clashing : List Entry → Graph
clashing exports = record {
  types = type_of (Some (codes "t")) (kind.Type_ type.U32) (owner.World 0) ∷ [];
  interfaces = [];
  worlds = world_of (codes "w") (type_t ∷ []) exports ∷ [];
  packages = foo_bar_of [] ((codes "w", 0) ∷ []) ∷ [];
  package_names = (sample [] []).package_names;
}

-- interface c uses b, which uses a, and world w imports them
abbrev pub chain : Graph
chain = record {
  types =
      type_in 0 (codes "t") (kind.Type_ type.U32) ∷ type_in 1 (codes "t") (kind.Type_ (type.Id 0))
      ∷ type_in 2 (codes "t") (kind.Type_ (type.Id 1)) ∷ [];
  interfaces =
      interface_of (Some (codes "a")) ((codes "t", 0) ∷ [])
      ∷ interface_of (Some (codes "b")) ((codes "t", 1) ∷ [])
      ∷ interface_of (Some (codes "c")) ((codes "t", 2) ∷ []) ∷ [];
  worlds = world_of (codes "w") (a ∷ b ∷ entry_of 2 ∷ []) [] ∷ world_of (codes "v") [] [] ∷ [];
  packages =
      foo_bar_of ((codes "a", 0) ∷ (codes "b", 1) ∷ (codes "c", 2) ∷ [])
      ((codes "w", 0) ∷ (codes "v", 1) ∷ []) ∷ [];
  package_names = (sample [] []).package_names;
}

-- a and c of it are exported
abbrev pub first_and_last : List Bool
first_and_last = true ∷ false ∷ true ∷ []

pub record ExamplesOfTransformations : Type 0 where
  -- exports become imports, and stand by class behind what they use
  pub exports_transformed : transformed (sample (a ∷ []) (b ∷ [])) 0 (importized None)
      ≡ named (codes "w-importized") (a ∷ b ∷ []) []
  -- all imports become exports
  pub imports_transformed : transformed (sample (a ∷ b ∷ []) []) 0
      (exportized (true ∷ true ∷ []) None) ≡ named (codes "w-exportized") [] (a ∷ b ∷ [])
  -- or those that the filter said
  pub b_transformed : transformed (sample (a ∷ b ∷ []) []) 0
      (exportized (false ∷ true ∷ []) (Some (codes "x"))) ≡ named (codes "x") (a ∷ []) (b ∷ [])
  -- what an import needs is imported again where it is exported
  pub a_transformed : transformed (sample (a ∷ b ∷ []) []) 0
      (exportized (true ∷ false ∷ []) (Some (codes "x")))
      ≡ named (codes "x") (a ∷ b ∷ []) (a ∷ [])
  -- the former exports are dropped, and an imported interface may be exported
  pub exports_dropped : transformed (sample (a ∷ []) (b ∷ [])) 0
      (exportized (true ∷ []) (Some (codes "x"))) ≡ named (codes "x") [] (a ∷ [])
  -- the empty name is a name
  pub no_letters : transformed (sample [] []) 0 (importized (Some [])) ≡ named [] [] []
  -- under its own name a world goes last
  pub own_name : transformed (two []) 0 (importized (Some (codes "w"))) ≡ two_transformed
  -- where there is no world nothing is transformed
  pub nowhere : transformed (sample [] []) 1 (importized None) ≡ sample [] []
  -- the old name doesn't stay, nor does the world's place in the table
  pub not_both : transformed (sample [] []) 0 (importized (Some (codes "x")))
      ≡ record (named (codes "x") [] []) {
        packages = foo_bar_of ((codes "a", 0) ∷ (codes "b", 1) ∷ [])
            ((codes "w", 0) ∷ (codes "x", 0) ∷ []) ∷ [];
      } → ⊥
  pub not_first : transformed (two []) 0 (importized (Some (codes "w"))) ≡ two [] → ⊥
  -- a filter isn't ignored
  pub not_all : transformed (sample (a ∷ b ∷ []) []) 0
      (exportized (false ∷ true ∷ []) (Some (codes "x"))) ≡ named (codes "x") [] (a ∷ b ∷ [])
      → ⊥
  -- and the lists are elaborated
  pub not_listed : transformed (sample (a ∷ b ∷ []) []) 0
      (exportized (true ∷ false ∷ []) (Some (codes "x")))
      ≡ named (codes "x") (b ∷ []) (a ∷ []) → ⊥

pub record ExamplesOfRefusedTransformations : Type 0 where
  pub clash : IsImportizeCause (clashing (function_t ∷ [])) 0 None
      (Semantic None (codes "world export `t` conflicts with import of same name") LabelClash)
  -- without the export there is no reason
  pub no_clash : NoCause (IsImportizeCause (clashing []) 0 None)
  pub taken : IsImportizeCause (two []) 0 (Some (codes "v"))
      (Semantic None (codes "world `v` is already defined in package `foo:bar`") NameTaken)
  -- the own name is free
  pub own_name : NoCause (IsImportizeCause (two []) 0 (Some (codes "w")))
  pub type_exported : IsExportizeCause (clashing []) 0 (true ∷ []) None
      (Semantic None (codes "type import `t` cannot be exported") TypeExported)
  -- a type that stays is no reason
  pub type_stays : NoCause (IsExportizeCause (clashing []) 0 (false ∷ []) None)
  -- c would need b from outside, which needs a, which is exported
  pub conflict : IsExportizeCause chain 0 first_and_last (Some (codes "x"))
      (InvalidTransitiveDependency None (codes "foo:bar/c"))
  -- where the name is taken this is no reason
  pub taken_before : (name : List ℕ)
      → IsExportizeCause chain 0 first_and_last (Some (codes "v"))
      (InvalidTransitiveDependency None name) → ⊥
  pub taken_is : IsExportizeCause chain 0 first_and_last (Some (codes "v"))
      (Semantic None (codes "world `v` is already defined in package `foo:bar`") NameTaken)
