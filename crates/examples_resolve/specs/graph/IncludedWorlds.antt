-- Whole additions of packages with a world that includes another, and the graphs that they make.
use Rattle.std.specs.Prelude.{◌≡◌, ℕ, List, [], ◌∷◌, ◌++◌, Option, Some, None, codes}
use Rattle.wit_data.specs.Entries.{Entry}
use Rattle.wit_data.specs.declared.world.IncludeName.{IncludeName}
use Rattle.wit_data.specs.declared.interface.Interface.{Interface}
use Rattle.wit_data.specs.declared.types.TypeDef.{TypeDef}
use Rattle.wit_data.specs.declared.world.World.{World}
use Rattle.wit_data.specs.declared.world.WorldInclude.{WorldInclude}
use Rattle.wit_data.specs.declared.stability.Stability.TheVariants.{Unknown}
use Rattle.wit_data.specs.declared.types.TypeDefKind.TheVariants as kind
use Rattle.wit_data.specs.declared.types.TypeOwner.TheVariants as owner
use Rattle.wit_data.specs.declared.types.Type_.TheVariants as type
use Rattle.wit_data.specs.declared.unresolved.AstItem.TheVariants as named
use Rattle.wit_data.specs.declared.world.WorldItem.TheVariants as item
use Rattle.wit_data.specs.declared.world.WorldKey.TheVariants as key
use Rattle.wit_graph_data.specs.examples.Samples.{foo_bar, foo_bar_of, function_of, interface_of, labelled_entry, no_docs, type_in, type_of, unnamed, world_of}
use Rattle.wit_graph_data.specs.declared.graph.Graph.{Graph}
use Rattle.wit_labels.specs.examples.Examples.{named_as}
use Rattle.wit_link_spec.specs.Addition.{Addition}
use Rattle.wit_link_spec.specs.Added.{added}
use Rattle.examples_resolve.specs.graph.Packages.{adding, bare, include_with, loose_world, main_name, no_features}
use Rattle.wit_link_spec.specs.steps.Parts.{AdditionIsAccepted}

-- ---- the included world

-- a type entry
abbrev pub type_entry : List ℕ → ℕ → Entry
type_entry label t = (key.Name label, item.Type_ t None)

-- a function entry with a parameter, and with a result where one is named
abbrev pub function_entry_of : List ℕ → ℕ → Option ℕ → Entry
function_entry_of label t None =
    (key.Name label, item.Function (function_of label (type.Id t ∷ []) None))
function_entry_of label t (Some r) =
    (key.Name label, item.Function (function_of label (type.Id t ∷ []) (Some (type.Id r))))

-- the number of world w under a label
abbrev pub number_of : List ℕ → ℕ → TypeDef
number_of label w = type_of (Some label) (kind.Type_ type.U32) (owner.World w)

-- a list of type t
abbrev pub list_of : ℕ → TypeDef
list_of t = unnamed (kind.List (type.Id t))

-- the byte u of interface i
abbrev pub byte_of : ℕ → TypeDef
byte_of i = type_in i (codes "u") (kind.Type_ type.U8)

-- an interface without a name of a package, with these types
abbrev pub unnamed_interface : ℕ → List (List ℕ × ℕ) → Interface
unnamed_interface p types = record (interface_of None types) { «package» = Some p }

-- t, list<t>, u and list<u8>
abbrev pub base_types : List TypeDef
base_types = number_of (codes "t") 0 ∷ list_of 0 ∷ byte_of 0 ∷ unnamed (kind.List type.U8) ∷ []

-- world base: it imports an interface x without a name, which has u, its type t and a function f from list<t>
-- to list<u8>; it exports a function g of t and an interface y without a name
abbrev pub base : World
base =
    world_of (codes "base") (labelled_entry (codes "x") 0 ∷ type_entry (codes "t") 0
    ∷ function_entry_of (codes "f") 1 (Some 3) ∷ [])
    (function_entry_of (codes "g") 0 None ∷ labelled_entry (codes "y") 1 ∷ [])

-- the interfaces x and y
abbrev pub base_interfaces : List Interface
base_interfaces = unnamed_interface 0 ((codes "u", 2) ∷ []) ∷ unnamed_interface 0 [] ∷ []

-- foo:bar with the world
abbrev pub with_base : Graph
with_base = record {
  types = base_types;
  interfaces = base_interfaces;
  worlds = base ∷ [];
  packages = foo_bar_of [] ((codes "base", 0) ∷ []) ∷ [];
  package_names = (foo_bar, 0) ∷ [];
}

-- ---- the worlds that include it

-- worlds of foo:main that include base so
abbrev pub including : List (List ℕ × List WorldInclude) → Addition
including worlds = adding no_features with_base (record (bare main_name) {
  worlds = loose_world (codes "base") [] [] [] ∷ of_worlds worlds;
  foreign_deps = (foo_bar, (codes "base", (named.World 0, Unknown ∷ [])) ∷ []) ∷ [];
  foreign_dep_spans = None ∷ [];
})
  where
    of_worlds : List (List ℕ × List WorldInclude) → List World
    of_worlds [] = []
    of_worlds ((name, includes) ∷ rest) = loose_world name [] [] includes ∷ of_worlds rest

-- new names for all labels of base
abbrev pub second_names : List IncludeName
second_names =
    named_as (codes "x") (codes "x2") ∷ named_as (codes "t") (codes "t2")
    ∷ named_as (codes "f") (codes "f2") ∷ named_as (codes "g") (codes "g2")
    ∷ named_as (codes "y") (codes "y2") ∷ []

-- foo:bar and foo:main with these types, interfaces and worlds behind those of foo:bar
abbrev pub grown : List TypeDef → List Interface → List World → List (List ℕ × ℕ) → Graph
grown types interfaces worlds table = record {
  types = base_types ++ types;
  interfaces = base_interfaces ++ interfaces;
  worlds = base ∷ worlds;
  packages =
      foo_bar_of [] ((codes "base", 0) ∷ [])
      ∷ record { name = main_name; docs = no_docs; interfaces = []; worlds = table } ∷ [];
  package_names = (foo_bar, 0) ∷ (main_name, 1) ∷ [];
}

-- a world of foo:main
abbrev pub main_world : List ℕ → List Entry → List Entry → World
main_world name imports exports = record (world_of name imports exports) { «package» = Some 1 }

-- the copies of t, list<t> and u where t comes under a label to world w, the first with this id, and u in interface i
abbrev pub copied_types : List ℕ → ℕ → ℕ → ℕ → List TypeDef
copied_types label w t i = number_of label w ∷ list_of t ∷ byte_of i ∷ []

-- the copies of x and y, where u comes to be this type
abbrev pub copied_interfaces : ℕ → List Interface
copied_interfaces u = unnamed_interface 1 ((codes "u", u) ∷ []) ∷ unnamed_interface 1 [] ∷ []

-- a world d with copies of all that base has, where the copy of t is type t, that of list<t> type l, and those of x and
-- y are interfaces x and y; list<u8> is nobody's and stays
abbrev pub world_like_base : List ℕ → ℕ → ℕ → ℕ → ℕ → World
world_like_base name t l x y =
    main_world name (labelled_entry (codes "x") x ∷ type_entry (codes "t") t
    ∷ function_entry_of (codes "f") l (Some 3) ∷ [])
    (function_entry_of (codes "g") t None ∷ labelled_entry (codes "y") y ∷ [])

-- a world with two copies, the second under other names
abbrev pub world_twice : World
world_twice =
    main_world (codes "d")
    (labelled_entry (codes "x") 2 ∷ labelled_entry (codes "x2") 4 ∷ type_entry (codes "t") 4
    ∷ type_entry (codes "t2") 7
    ∷ function_entry_of (codes "f") 5 (Some 3) ∷ function_entry_of (codes "f2") 8 (Some 3) ∷ [])
    (function_entry_of (codes "g") 4 None ∷ function_entry_of (codes "g2") 7 None
    ∷ labelled_entry (codes "y") 3 ∷ labelled_entry (codes "y2") 5 ∷ [])

-- ---- the cases

-- whole graphs
pub record ExamplesOfIncludedWorlds : Type 0 where
  -- once: a list, an interface without a name and its type, and what exports name are copied with the world's type
  pub once : added (including ((codes "d", include_with [] ∷ []) ∷ []))
      ≡ grown (copied_types (codes "t") 1 4 2) (copied_interfaces 6)
      (world_like_base (codes "d") 4 5 2 3 ∷ []) ((codes "d", 1) ∷ [])
  -- and no cause holds against it
  pub accepted : AdditionIsAccepted (including ((codes "d", include_with [] ∷ []) ∷ []))
  -- twice in one world, under two sets of names
  pub twice : added (including ((codes "d", include_with [] ∷ include_with second_names ∷ []) ∷ []))
      ≡ grown (copied_types (codes "t") 1 4 2 ++ copied_types (codes "t2") 1 7 4)
      (copied_interfaces 6 ++ copied_interfaces 9) (world_twice ∷ []) ((codes "d", 1) ∷ [])
  -- in two worlds: each has copies of its own
  pub in_two : added
      (including ((codes "d", include_with [] ∷ []) ∷ (codes "e", include_with [] ∷ []) ∷ []))
      ≡ grown (copied_types (codes "t") 1 4 2 ++ copied_types (codes "t") 2 7 4)
      (copied_interfaces 6 ++ copied_interfaces 9)
      (world_like_base (codes "d") 4 5 2 3 ∷ world_like_base (codes "e") 7 8 4 5 ∷ [])
      ((codes "d", 1) ∷ (codes "e", 2) ∷ [])
  -- the world doesn't share them
  pub shared : added (including ((codes "d", include_with [] ∷ []) ∷ []))
      ≡ grown [] [] (world_like_base (codes "d") 0 1 0 1 ∷ []) ((codes "d", 1) ∷ []) → ⊥
