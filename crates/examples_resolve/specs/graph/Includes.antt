-- What an include makes of the parts of a world: stabilities, labels, lists, and what is copied.
use Rattle.std.specs.Prelude.{◌≡◌, ℕ, true, false, List, [], ◌∷◌, Some, None, codes}
use Rattle.wit_data.specs.Entries.{Entry}
use Rattle.wit_data.specs.declared.stability.Stability.TheVariants.{Unknown}
use Rattle.wit_data.specs.declared.world.IncludeName.{IncludeName}
use Rattle.wit_data.specs.declared.types.TypeDef.{TypeDef}
use Rattle.wit_data.specs.declared.world.World.{World}
use Rattle.wit_data.specs.declared.types.TypeDefKind.TheVariants as kind
use Rattle.wit_data.specs.declared.types.TypeOwner.TheVariants as owner
use Rattle.wit_data.specs.declared.types.Type_.TheVariants as type
use Rattle.wit_data.specs.declared.world.WorldItem.TheVariants as item
use Rattle.wit_data.specs.declared.world.WorldKey.TheVariants as key
use Rattle.wit_graph_data.specs.examples.Samples.{entry_of, foo_bar, foo_bar_of, function_of, sample, type_of, unnamed, world_of}
use Rattle.wit_graph_data.specs.declared.graph.Graph.{Graph}
use Rattle.wit_labels.specs.examples.Examples.{function_entry, named_as}
use Rattle.wit_link_spec.specs.Include.{EntryLists, PartiallyLinked, is_copied, joined_entries}
use Rattle.wit_remap_spec.specs.Joined.{include_stability, joined_stability, Disagree}
use Rattle.wit_link_spec.specs.WorldReasons.{IsRenamed, IsShadowed}
use Rattle.examples_resolve.specs.graph.Packages.{gate_f, gate_g, gated_entry, since_one}
use Rattle.wit_link_spec.specs.steps.Parts.{with_include_of}

-- ---- a world with a type of its own

-- a number of this name of world w
abbrev pub world_type : List ℕ → ℕ → TypeDef
world_type name w = type_of (Some name) (kind.Type_ type.U32) (owner.World w)

-- a function f with a parameter of a type
abbrev pub taking : ℕ → Entry
taking t = (key.Name (codes "f"), item.Function (function_of (codes "f") (type.Id t ∷ []) None))

-- world 0, which imports t and f of it
abbrev pub base_world : World
base_world = world_of (codes "base") ((key.Name (codes "t"), item.Type_ 0 None) ∷ taking 0 ∷ []) []

-- foo:bar with that world and these types
abbrev pub base_graph : List TypeDef → Graph
base_graph types = record {
  types = types;
  interfaces = [];
  worlds = base_world ∷ [];
  packages = foo_bar_of [] ((codes "base", 0) ∷ []) ∷ [];
  package_names = (foo_bar, 0) ∷ [];
}

-- what world 1 imports after it
abbrev pub derived_imports : List Entry
derived_imports = (key.Name (codes "t2"), item.Type_ 1 None) ∷ taking 1 ∷ []

-- the renaming of t
abbrev pub t_to_t2 : List IncludeName
t_to_t2 = named_as (codes "t") (codes "t2") ∷ []

-- lists with these imports and no exports
abbrev pub imports_alone : List Entry → EntryLists
imports_alone imports = record { imports = imports; exports = [] }

-- world 1 of foo:bar, empty so far, with world 0 included
abbrev pub derived : PartiallyLinked
derived =
    with_include_of 0 1 t_to_t2 0
    (record { graph = base_graph (world_type (codes "t") 0 ∷ []); lists = imports_alone [] })

-- the lists of world 1 of a package, with world 0 of package 0 included that imports a under `@since`
abbrev pub since_included : ℕ → List Entry → EntryLists
since_included home imports =
    (with_include_of home 1 [] 0 (record
    { graph = sample (gated_entry since_one ∷ []) []; lists = imports_alone imports })).lists

-- ---- the cases

-- stabilities that are joined, labels that are there, and what is copied
pub record ExamplesOfIncludes : Type 0 where
  -- stabilities
  pub known_replaces : joined_stability gate_f Unknown ≡ gate_f
  pub unknown_keeps : joined_stability Unknown gate_f ≡ gate_f
  pub disagree : Disagree gate_g gate_f
  pub same : Disagree gate_f gate_f → ⊥
  pub unknown : Disagree gate_f Unknown → ⊥
  -- `@since` of a world of another package says nothing; a feature does, and so does `@since` of one's own
  pub dropped : include_stability true since_one gate_f ≡ Unknown
  pub not_dropped : include_stability false since_one Unknown ≡ since_one
  pub feature_kept : include_stability true gate_f Unknown ≡ gate_f
  -- labels
  pub shadows : IsShadowed (function_entry (codes "f") ∷ []) (key.Name (codes "f") ∷ []) (codes "f")
  pub twice : IsShadowed [] (key.Name (codes "f") ∷ key.Name (codes "f") ∷ []) (codes "f")
  pub interfaces_never : (n : List ℕ) → IsShadowed (entry_of 0 ∷ []) (key.Interface 0 ∷ []) n → ⊥
  pub renames : IsRenamed (world_of (codes "w") (function_entry (codes "[method]r.m") ∷ []) [])
      (named_as (codes "r") (codes "r2"))
  pub renames_nothing : IsRenamed (world_of (codes "w") (entry_of 0 ∷ []) [])
      (named_as (codes "x") (codes "y")) → ⊥
  -- lists
  pub joins : joined_entries false (entry_of 0 ∷ []) (entry_of 0 ∷ entry_of 1 ∷ [])
      ≡ entry_of 0 ∷ entry_of 1 ∷ []
  pub joins_gate : joined_entries false (entry_of 0 ∷ []) (gated_entry gate_f ∷ [])
      ≡ gated_entry gate_f ∷ []
  -- copies: of a type of the world and of a list of it; not of a type of an interface, nor of a list of numbers
  pub own_type : is_copied (base_graph (world_type (codes "t") 0 ∷ [])) 0 base_world 0 ≡ true
  pub interface_type : is_copied (sample [] []) 0 (world_of (codes "w") (entry_of 0 ∷ []) []) 0
      ≡ false
  pub own_list : is_copied
      (base_graph (world_type (codes "t") 0 ∷ unnamed (kind.List (type.Id 0)) ∷ [])) 0
      (world_of (codes "base") (taking 1 ∷ []) []) 1 ≡ true
  pub other_list : is_copied (base_graph (unnamed (kind.List type.U32) ∷ [])) 0
      (world_of (codes "base") (taking 0 ∷ []) []) 0 ≡ false

-- a world included, and what isn't that
pub record ExamplesOfIncluded : Type 0 where
  -- world 1 includes world 0 with t under the name t2: it has its own t2, and its f takes that
  pub copied : derived
      ≡ record {
        graph = base_graph (world_type (codes "t") 0 ∷ world_type (codes "t2") 1 ∷ []);
        lists = imports_alone derived_imports;
      }
  -- the included world's own t doesn't do, nor does the old label, nor f of the old t
  pub shared : derived.lists
      ≡ imports_alone ((key.Name (codes "t2"), item.Type_ 0 None) ∷ taking 1 ∷ []) → ⊥
  pub old_label : derived.lists
      ≡ imports_alone ((key.Name (codes "t"), item.Type_ 1 None) ∷ taking 1 ∷ []) → ⊥
  pub old_parameter : derived.lists
      ≡ imports_alone ((key.Name (codes "t2"), item.Type_ 1 None) ∷ taking 0 ∷ []) → ⊥
  -- under `@since` a comes from another package without it, from one's own with it
  pub since_other : since_included 1 [] ≡ imports_alone (entry_of 0 ∷ [])
  pub since_own : since_included 0 [] ≡ imports_alone (gated_entry since_one ∷ [])
  pub since_joins : since_included 1 (gated_entry gate_f ∷ []) ≡ imports_alone (entry_of 0 ∷ [])
  pub since_keeps : since_included 0 (entry_of 0 ∷ []) ≡ imports_alone (gated_entry since_one ∷ [])
