-- What the definitions say of small graphs.
use Rattle.std.specs.Prelude.{◌≡◌, List, [], ◌∷◌, Some, None, codes}
use Rattle.wit_digraph.specs.Relation.{IsAcyclic}
use Rattle.wit_data.specs.Kind.{type_references}
use Rattle.wit_data.specs.Uses.{uses_of}
use Rattle.wit_data.specs.declared.interface.Interface.{Interface}
use Rattle.wit_names.specs.declared.package_name.PackageName.{PackageName}
use Rattle.wit_data.specs.declared.types.TypeDef.{TypeDef}
use Rattle.wit_data.specs.declared.stability.Stability.TheVariants.{Unknown}
use Rattle.wit_data.specs.declared.types.Handle.TheVariants as handle
use Rattle.wit_data.specs.declared.types.TypeDefKind.TheVariants as kind
use Rattle.wit_data.specs.declared.types.Type_.TheVariants as type
use Rattle.wit_data.specs.declared.world.WorldItem.TheVariants as item
use Rattle.wit_data.specs.declared.world.WorldKey.TheVariants as key
use Rattle.wit_graph_data.specs.Queries.{HasAllBitsValid, external_id_value, futures_and_streams, implements_interface, interface_direct_deps, topological_packages, version_suffix_of, package_direct_deps, package_uses}
use Rattle.wit_graph_data.specs.examples.Samples.{entry_of, foo_bar, foo_bar_of, function_of, instance, interface_of, labelled_entry, no_docs, sample, sample_interfaces, sample_types, type_in, unnamed, world_of}
use Rattle.wit_elaboration.specs.Valid.{HasValidNames, HasOwners, HasPackageNames, HasReferences, HasTables, HasWorlds, IsValid}
use Rattle.wit_graph_data.specs.declared.graph.Graph.{Graph}
use Rattle.wit_graph_data.specs.declared.graph.Package.{Package}
use Rattle.wit_graph_data.specs.steps.Parts.{canonical_id_text_in}

-- the graph of nothing
abbrev pub empty_graph : Graph
empty_graph = record { types = []; interfaces = []; worlds = []; packages = []; package_names = [] }

-- ---- valid graphs

-- two types that name each other
abbrev pub circle : List TypeDef
circle =
    type_in 0 (codes "t") (kind.Type_ (type.Id 1)) ∷ type_in 0 (codes "u") (kind.Type_ (type.Id 0))
    ∷ []

-- graphs that are valid and graphs that are not
pub record ExamplesOfValidity : Type 0 where
  pub empty : IsValid empty_graph
  -- a world that imports b imports a before it
  pub small : IsValid (sample (entry_of 0 ∷ entry_of 1 ∷ []) [])
  -- the same world without the import of a, or with it after its user, isn't canonical
  pub not_closed : IsValid (sample (entry_of 1 ∷ []) []) → ⊥
  pub user_first : IsValid (sample (entry_of 1 ∷ entry_of 0 ∷ []) []) → ⊥
  -- an interface that its package doesn't list; a package that lists what isn't there
  pub unlisted : HasTables (foo_bar_of [] [] ∷ []) (interface_of (Some (codes "a")) [] ∷ []) [] → ⊥
  pub listed_only : HasTables (foo_bar_of ((codes "a", 0) ∷ []) [] ∷ []) [] [] → ⊥
  -- an interface without a name needs no place in a table
  pub nameless : HasTables (foo_bar_of [] [] ∷ []) (interface_of None [] ∷ []) []
  -- a package without its name in the list, and one under another name
  pub unnamed_package : HasPackageNames (foo_bar_of [] [] ∷ []) [] → ⊥
  pub other_name : HasPackageNames (foo_bar_of [] [] ∷ [])
      ((record foo_bar { name = codes "baz" }, 0) ∷ []) → ⊥
  -- a type that its owner doesn't list, and an unnamed alias
  pub unlisted_type : HasOwners (type_in 0 (codes "t") (kind.Type_ type.U32) ∷ [])
      (interface_of (Some (codes "a")) [] ∷ []) [] → ⊥
  pub unnamed_alias : HasReferences (unnamed (kind.Type_ type.U32) ∷ []) [] → ⊥
  -- a name that is no kebab name
  pub capital : HasValidNames (foo_bar_of [] [] ∷ []) (interface_of (Some (codes "aB")) [] ∷ []) → ⊥
  -- types that name each other
  pub type_circle : IsAcyclic (type_references circle) → ⊥
  -- one interface without a name in two places
  pub two_places : HasWorlds [] (interface_of None [] ∷ []) (world_of (codes "w")
      (labelled_entry (codes "x") 0 ∷ labelled_entry (codes "y") 0 ∷ []) [] ∷ []) → ⊥

-- ---- relations

-- foo:bar has interface b that uses a of foo:dep, and a world that imports b
abbrev pub dep_interfaces : List Interface
dep_interfaces =
    record (interface_of (Some (codes "a")) ((codes "t", 0) ∷ [])) { «package» = Some 1 }
    ∷ interface_of (Some (codes "b")) ((codes "t", 1) ∷ []) ∷ []

-- the two packages
abbrev pub dep_packages : List Package
dep_packages =
    foo_bar_of ((codes "b", 1) ∷ []) ((codes "w", 0) ∷ [])
    ∷ record {
      name = record foo_bar { name = codes "dep" };
      docs = no_docs;
      interfaces = (codes "a", 0) ∷ [];
      worlds = [];
    } ∷ []

-- what uses, refers to and depends on what
pub record ExamplesOfRelations : Type 0 where
  pub uses : uses_of sample_types sample_interfaces ≡ [] ∷ (0 ∷ []) ∷ []
  pub references : type_references sample_types ≡ [] ∷ (0 ∷ []) ∷ []
  pub own_package : package_direct_deps sample_types sample_interfaces
      (world_of (codes "w") (entry_of 0 ∷ entry_of 1 ∷ []) [] ∷ [])
      (foo_bar_of ((codes "a", 0) ∷ (codes "b", 1) ∷ []) ((codes "w", 0) ∷ []) ∷ []) 0 ≡ []
  pub with_repeats : package_uses sample_types dep_interfaces
      (world_of (codes "w") (entry_of 0 ∷ entry_of 1 ∷ []) [] ∷ []) dep_packages
      ≡ (1 ∷ 1 ∷ []) ∷ [] ∷ []
  pub no_package : package_direct_deps sample_types dep_interfaces [] dep_packages 2 ≡ []

-- ---- questions

-- future<u32>, a future of it, stream<string>, own of type 4, a resource, a record of a number and the own, list<u8>
abbrev pub value_types : List TypeDef
value_types =
    unnamed (kind.Future (Some type.U32)) ∷ unnamed (kind.Future (Some (type.Id 0)))
    ∷ unnamed (kind.Stream (Some type.String)) ∷ unnamed (kind.Handle (handle.Own 4))
    ∷ type_in 0 (codes "r") kind.Resource ∷ unnamed (kind.Tuple (type.U8 ∷ type.Id 3 ∷ []))
    ∷ unnamed (kind.List type.U8) ∷ []

-- foo:x@0.2.1
abbrev pub foo_x : PackageName
foo_x = record { namespace = codes "foo"; name = codes "x"; version = Some (0, 2, 1, [], []) }

-- answers
pub record ExamplesOfQueries : Type 0 where
  pub deps : interface_direct_deps sample_types sample_interfaces 1 ≡ 0 ∷ []
  pub dependency_first : topological_packages sample_types dep_interfaces
      (world_of (codes "w") (entry_of 0 ∷ []) [] ∷ []) dep_packages ≡ 1 ∷ 0 ∷ []
  pub canonical : canonical_id_text_in foo_x (codes "x") ≡ codes "foo:x/x@0.2"
  pub suffix : version_suffix_of
      (record { name = foo_x; docs = no_docs; interfaces = []; worlds = [] } ∷ [])
      (interface_of (Some (codes "x")) [] ∷ []) 0 ≡ Some (codes ".1")
  pub implements : implements_interface sample_interfaces (key.Name (codes "l")) (instance 1)
      ≡ Some 1
  pub own_key : implements_interface sample_interfaces (key.Interface 1) (instance 1) ≡ None
  pub external : external_id_value [] (item.Interface 0 Unknown no_docs None (Some (codes "x")))
      ≡ Some (codes "x")
  pub inner_first : futures_and_streams value_types
      (function_of (codes "f") (type.Id 1 ∷ type.U32 ∷ []) (Some (type.Id 2))) ≡ 0 ∷ 1 ∷ 2 ∷ []
  pub not_through_handles : futures_and_streams value_types
      (function_of (codes "f") (type.Id 3 ∷ []) None) ≡ []
  pub numbers : HasAllBitsValid value_types type.F64
  pub no_bool : HasAllBitsValid value_types type.Bool → ⊥
  pub handles : HasAllBitsValid value_types (type.Id 3)
  pub tuples : HasAllBitsValid value_types (type.Id 5)
  pub no_list : HasAllBitsValid value_types (type.Id 6) → ⊥
