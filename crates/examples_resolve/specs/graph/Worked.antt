-- Worked packages, and the graphs that they make of the empty one.
use Rattle.std.specs.Prelude.{◌≡◌, ℕ, List, [], ◌∷◌, ◌++◌, Some, None, codes}
use Rattle.wit_data.specs.Entries.{Entry}
use Rattle.wit_data.specs.declared.function.FunctionKind.{FunctionKind}
use Rattle.wit_data.specs.declared.interface.Interface.{Interface}
use Rattle.wit_data.specs.declared.types.TypeDef.{TypeDef}
use Rattle.wit_data.specs.declared.unresolved.UnresolvedPackage.{UnresolvedPackage}
use Rattle.wit_data.specs.declared.world.World.{World}
use Rattle.wit_data.specs.declared.function.FunctionKind.TheVariants as function
use Rattle.wit_data.specs.declared.stability.Stability.TheVariants.{Unknown}
use Rattle.wit_data.specs.declared.types.Handle.TheVariants as handle
use Rattle.wit_data.specs.declared.types.TypeDefKind.TheVariants as kind
use Rattle.wit_data.specs.declared.types.TypeOwner.TheVariants as owner
use Rattle.wit_data.specs.declared.types.Type_.TheVariants as type
use Rattle.wit_data.specs.declared.world.WorldItem.TheVariants as item
use Rattle.wit_data.specs.declared.world.WorldKey.TheVariants as key
use Rattle.wit_elaboration.specs.examples.Examples.{empty_graph}
use Rattle.wit_graph_data.specs.examples.Samples.{entry_of, foo_bar, foo_bar_of, function_of, interface_of, type_in, type_of, unnamed, world_of}
use Rattle.wit_graph_data.specs.declared.features.Features.{Features}
use Rattle.wit_graph_data.specs.declared.graph.Graph.{Graph}
use Rattle.wit_labels.specs.examples.Examples.{function_entry, named_as}
use Rattle.wit_link_spec.specs.Added.{added}
use Rattle.examples_resolve.specs.graph.IncludedWorlds.{type_entry}
use Rattle.examples_resolve.specs.graph.Packages.{adding, adding_at, bare, feature_f, gate_f, gated_entry, include_with, loose_interface, loose_world, no_features}
use Rattle.examples_resolve.specs.graph.Values.{field_of}

-- foo:bar with these types, interfaces and worlds, handed in
abbrev pub package_of : List TypeDef → List Interface → List World → UnresolvedPackage
package_of types interfaces worlds =
    record (bare foo_bar) { types = types; interfaces = interfaces; worlds = worlds }

-- the graph of foo:bar alone with these
abbrev pub graph_of : List TypeDef → List Interface → List World → List (List ℕ × ℕ)
    → List (List ℕ × ℕ) → Graph
graph_of types interfaces worlds table world_table = record {
  types = types;
  interfaces = interfaces;
  worlds = worlds;
  packages = foo_bar_of table world_table ∷ [];
  package_names = (foo_bar, 0) ∷ [];
}

-- what adding a package makes of the empty graph
abbrev pub made : Features → UnresolvedPackage → Graph
made features u = added (adding features empty_graph u)

-- ---- a world that exports an interface of its package

-- a has a number t, b another name of it, c another name of it and one of that of b
abbrev pub three_types : List TypeDef
three_types =
    type_in 0 (codes "t") (kind.Type_ type.U32) ∷ type_in 1 (codes "t") (kind.Type_ (type.Id 0))
    ∷ type_in 2 (codes "t") (kind.Type_ (type.Id 0))
    ∷ type_in 2 (codes "t2") (kind.Type_ (type.Id 1)) ∷ []

-- foo:bar with the three, and a world w that exports c
abbrev pub exports_c : UnresolvedPackage
exports_c = package_of three_types
    (loose_interface (codes "a") ((codes "t", 0) ∷ []) Unknown
    ∷ loose_interface (codes "b") ((codes "t", 1) ∷ []) Unknown
    ∷ loose_interface (codes "c") ((codes "t", 2) ∷ (codes "t2", 3) ∷ []) Unknown ∷ [])
    (loose_world (codes "w") [] (entry_of 2 ∷ []) [] ∷ [])

-- the three interfaces as they are in the graph
abbrev pub three_interfaces : List Interface
three_interfaces =
    interface_of (Some (codes "a")) ((codes "t", 0) ∷ [])
    ∷ interface_of (Some (codes "b")) ((codes "t", 1) ∷ [])
    ∷ interface_of (Some (codes "c")) ((codes "t", 2) ∷ (codes "t2", 3) ∷ []) ∷ []

-- ---- a world that includes another of its package, with a resource under a new name

-- a function of a resource r under its label: groups, r, and what follows
abbrev pub member : List ℕ → List ℕ → List ℕ → FunctionKind → Entry
member groups r rest k = (
  key.Name (groups ++ (r ++ rest)),
  item.Function (record (function_of (groups ++ (r ++ rest)) [] None) { kind = k }),
)

-- resource r, which is type t, with a property p, a static property s and a method m
abbrev pub members : List ℕ → ℕ → List Entry
members r t =
    type_entry r t ∷ member (codes "[method][get]") r (codes ".p") (function.MethodGetter t)
    ∷ member (codes "[method][set]") r (codes ".p") (function.MethodSetter t)
    ∷ member (codes "[static][get]") r (codes ".s") (function.StaticGetter t)
    ∷ member (codes "[static][set]") r (codes ".s") (function.StaticSetter t)
    ∷ member (codes "[method]") r (codes ".m") (function.Method t) ∷ []

-- the resource of a world
abbrev pub resource_of_world : List ℕ → ℕ → TypeDef
resource_of_world name w = type_of (Some name) kind.Resource (owner.World w)

-- worlds base and derived, which includes base with r under the name r2
abbrev pub derives : UnresolvedPackage
derives = package_of (resource_of_world (codes "r") 0 ∷ []) []
    (loose_world (codes "base") (members (codes "r") 0) [] []
    ∷ loose_world (codes "derived") [] []
    (include_with (named_as (codes "r") (codes "r2") ∷ []) ∷ []) ∷ [])

-- a world w that includes v under the gate f
abbrev pub includes_f : UnresolvedPackage
includes_f = package_of [] []
    (loose_world (codes "v") (function_entry (codes "f") ∷ []) [] []
    ∷ loose_world (codes "w") [] [] (record (include_with []) { stability = gate_f } ∷ [])
    ∷ [])

-- ---- a package of which a part is active

-- the number t of interface 0 under the gate f
abbrev pub gated_type : TypeDef
gated_type = record (type_in 0 (codes "t") (kind.Type_ type.U32)) { stability = gate_f }

-- the number k of world 0 under the gate f
abbrev pub gated_world_type : TypeDef
gated_world_type =
    record (type_of (Some (codes "k")) (kind.Type_ type.U32) (owner.World 0)) { stability = gate_f }

-- interface i has t and a function f under the gate, u and a function g of it without; world w imports i and its
-- own type k under the gate
abbrev pub half_gated : UnresolvedPackage
half_gated =
    package_of (gated_type ∷ type_in 0 (codes "u") (kind.Type_ type.U8) ∷ gated_world_type ∷ [])
    (record (loose_interface (codes "i") ((codes "t", 0) ∷ (codes "u", 1) ∷ []) Unknown) {
      functions =
          (codes "f", record (function_of (codes "f") (type.Id 0 ∷ []) None) { stability = gate_f })
          ∷ (codes "g", function_of (codes "g") (type.Id 1 ∷ []) None) ∷ [];
    } ∷ [])
    (loose_world (codes "w") (gated_entry gate_f ∷ type_entry (codes "k") 2 ∷ []) [] [] ∷ [])

-- ---- a resource, and a record of another name of it

-- interface i has a resource r, another name s of it, and a record x with a field of s
abbrev pub holds_own : UnresolvedPackage
holds_own =
    package_of (type_in 0 (codes "r") kind.Resource ∷ type_in 0 (codes "s") (kind.Type_ (type.Id 0))
    ∷ type_in 0 (codes "x") (kind.Record (field_of (type.Id 1) ∷ [])) ∷ [])
    (loose_interface (codes "i") ((codes "r", 0) ∷ (codes "s", 1) ∷ (codes "x", 2) ∷ []) Unknown
    ∷ []) []

-- whole graphs
pub record ExamplesOfWorked : Type 0 where
  -- what an export needs comes as imports
  pub exported : made no_features exports_c
      ≡ graph_of three_types three_interfaces
      (world_of (codes "w") (entry_of 0 ∷ entry_of 1 ∷ []) (entry_of 2 ∷ []) ∷ [])
      ((codes "a", 0) ∷ (codes "b", 1) ∷ (codes "c", 2) ∷ []) ((codes "w", 0) ∷ [])
  -- derived has a resource of its own, and its functions are of that
  pub derived : made no_features derives
      ≡ graph_of (resource_of_world (codes "r") 0 ∷ resource_of_world (codes "r2") 1 ∷ []) []
      (world_of (codes "base") (members (codes "r") 0) []
      ∷ world_of (codes "derived") (members (codes "r2") 1) [] ∷ []) []
      ((codes "base", 0) ∷ (codes "derived", 1) ∷ [])
  -- a setter goes behind its getter, also where an include brings that
  pub setter : (made no_features (package_of [] [] (loose_world (codes "w")
      (function_entry (codes "[set]p") ∷ function_entry (codes "[get]p") ∷ []) [] []
      ∷ []))).worlds
      ≡ world_of (codes "w")
      (function_entry (codes "[get]p") ∷ function_entry (codes "[set]p") ∷ []) [] ∷ []
  pub getter_comes : (made no_features (package_of [] []
      (loose_world (codes "v") (function_entry (codes "[get]p") ∷ []) [] []
      ∷ loose_world (codes "w") (function_entry (codes "[set]p") ∷ []) [] (include_with [] ∷ [])
      ∷ []))).worlds
      ≡ world_of (codes "v") (function_entry (codes "[get]p") ∷ []) []
      ∷ world_of (codes "w")
      (function_entry (codes "[get]p") ∷ function_entry (codes "[set]p") ∷ []) [] ∷ []
  -- an include under a gate brings what it brings where the feature is on
  pub include_off : (made no_features includes_f).worlds
      ≡ world_of (codes "v") (function_entry (codes "f") ∷ []) [] ∷ world_of (codes "w") [] [] ∷ []
  pub include_on : (made feature_f includes_f).worlds
      ≡ world_of (codes "v") (function_entry (codes "f") ∷ []) []
      ∷ world_of (codes "w") (function_entry (codes "f") ∷ []) [] ∷ []
  -- what is off is left out, and the rest takes the next ids
  pub half : made no_features half_gated
      ≡ graph_of (type_in 0 (codes "u") (kind.Type_ type.U8) ∷ [])
      (record (interface_of (Some (codes "i")) ((codes "u", 0) ∷ []))
      { functions = (codes "g", function_of (codes "g") (type.Id 0 ∷ []) None) ∷ [] } ∷ [])
      (world_of (codes "w") [] [] ∷ []) ((codes "i", 0) ∷ []) ((codes "w", 0) ∷ [])
  -- all that is on is active
  pub whole : made feature_f half_gated ≡ graph_of half_gated.types
      (record (interface_of (Some (codes "i")) ((codes "t", 0) ∷ (codes "u", 1) ∷ [])) {
        functions = (
          codes "f",
          record (function_of (codes "f") (type.Id 0 ∷ []) None) { stability = gate_f },
        )
            ∷ (codes "g", function_of (codes "g") (type.Id 1 ∷ []) None) ∷ [];
      } ∷ [])
      (world_of (codes "w") (gated_entry gate_f ∷ type_entry (codes "k") 2 ∷ []) [] ∷ [])
      ((codes "i", 0) ∷ []) ((codes "w", 0) ∷ [])
  -- the field is an `own` of s, which stays another name of r
  pub own_of_alias : (made no_features holds_own).types
      ≡ type_in 0 (codes "r") kind.Resource ∷ type_in 0 (codes "s") (kind.Type_ (type.Id 0))
      ∷ type_in 0 (codes "x") (kind.Record (field_of (type.Id 3) ∷ []))
      ∷ unnamed (kind.Handle (handle.Own 1)) ∷ []
  -- spans move by the offset
  pub moved : (added (adding_at 16 no_features empty_graph (package_of []
      (record (loose_interface (codes "i") [] Unknown) { span = Some (20, 25) } ∷ [])
      []))).interfaces
      ≡ record (interface_of (Some (codes "i")) []) { span = Some (36, 41) } ∷ []
