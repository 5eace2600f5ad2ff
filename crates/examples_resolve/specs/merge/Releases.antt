-- Graphs of several versions of package foo:x, each with an interface x, and of package foo:main, which comes last.
use Rattle.std.specs.Prelude.{ℕ, List, [], ◌∷◌, ◌++◌, Some, None, codes, length, map}
use Rattle.std.specs.List.{enumerate_from}
use Rattle.wit_values.specs.Version.{Parts}
use Rattle.wit_data.specs.declared.function.Function.{Function}
use Rattle.wit_data.specs.declared.interface.Interface.{Interface}
use Rattle.wit_names.specs.declared.package_name.PackageName.{PackageName}
use Rattle.wit_data.specs.declared.types.TypeDef.{TypeDef}
use Rattle.wit_data.specs.declared.world.World.{World}
use Rattle.wit_data.specs.declared.types.TypeDefKind.TheVariants as kind
use Rattle.wit_data.specs.declared.types.Type_.TheVariants as type
use Rattle.wit_elaboration.specs.Entries.{Entry}
use Rattle.wit_graph_data.specs.examples.Samples.{entry_of, foo_bar_of, interface_of, type_in, world_of}
use Rattle.wit_graph_data.specs.declared.graph.Graph.{Graph}
use Rattle.wit_graph_data.specs.declared.graph.Package.{Package}

-- a table
abbrev pub Names : Type 0
Names = List (List ℕ × ℕ)

-- a pair of one
abbrev pub called : List ℕ → ℕ → List ℕ × ℕ
called name id = (name, id)

-- a release, and a pre-release
abbrev pub release : ℕ → ℕ → ℕ → Parts
release major minor patch = (major, minor, patch, [], [])

abbrev pub prerelease : ℕ → ℕ → ℕ → List ℕ → Parts
prerelease major minor patch pre = (major, minor, patch, pre, [])

-- ---- names

abbrev pub foo_x : Parts → PackageName
foo_x version = record { namespace = codes "foo"; name = codes "x"; version = Some version }

abbrev pub foo_main : PackageName
foo_main = record { namespace = codes "foo"; name = codes "main"; version = None }

-- a package of this name
abbrev pub package_of : PackageName → Names → Names → Package
package_of name interfaces worlds = record (foo_bar_of interfaces worlds) { name = name }

-- ---- things

-- an interface of package p
abbrev pub interface_in : ℕ → List ℕ → Names → Interface
interface_in p name types = record (interface_of (Some name) types) { «package» = Some p }

-- with a function under its name
abbrev pub with_function : Interface → Function → Interface
with_function interface f = record interface { functions = (f.name, f) ∷ [] }

-- a number t of interface i, and an alias of a type
abbrev pub number_in : ℕ → List ℕ → TypeDef
number_in i name = type_in i name (kind.Type_ type.U32)

abbrev pub alias_in : ℕ → List ℕ → ℕ → TypeDef
alias_in i name target = type_in i name (kind.Type_ (type.Id target))

-- a world of package p
abbrev pub world_in : ℕ → List ℕ → List Entry → List Entry → World
world_in p name imports exports = record (world_of name imports exports) { «package» = Some p }

-- the entries of interfaces under their own keys
abbrev pub keyed : List ℕ → List Entry
keyed ids = map entry_of ids

-- ---- graphs

-- the versions of foo:x in their order, interface x of each at the place of its package, and foo:main, whose tables
-- hold interfaces and worlds under these names
abbrev pub graph_of : List Parts → List TypeDef → List Interface → List World → Names → Names
    → Graph
graph_of versions types interfaces worlds table world_table = record {
  types = types;
  interfaces = interfaces;
  worlds = worlds;
  packages =
      map (λ (e : ℕ × Parts). package_of (foo_x e.1) (called (codes "x") e.0 ∷ []) [])
      (enumerate_from 0 versions) ++ package_of foo_main table world_table ∷ [];
  package_names =
      map (λ (e : ℕ × Parts). (foo_x e.1, e.0)) (enumerate_from 0 versions)
      ++ (foo_main, length versions) ∷ [];
}

-- each version with a number t, and a world w of foo:main that imports some of them
abbrev pub importing : List Parts → List ℕ → Graph
importing versions imports =
    graph_of versions
    (map (λ (e : ℕ × Parts). number_in e.0 (codes "t")) (enumerate_from 0 versions))
    (map (λ (e : ℕ × Parts). interface_in e.0 (codes "x") (called (codes "t") e.0 ∷ []))
    (enumerate_from 0 versions))
    (world_in (length versions) (codes "w") (keyed imports) [] ∷ []) [] (called (codes "w") 0 ∷ [])

-- versions 0.2.0 and 0.2.1
abbrev pub two : List Parts
two = release 0 2 0 ∷ release 0 2 1 ∷ []
