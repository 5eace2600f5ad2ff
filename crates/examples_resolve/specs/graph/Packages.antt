-- Small packages that the examples hand in, and the graphs that they are added to.
use Rattle.std.specs.Prelude.{ℕ, true, false, List, [], ◌∷◌, Option, Some, None, codes}
use Rattle.wit_values.specs.Version.{Parts}
use Rattle.wit_data.specs.Entries.{Entry}
use Rattle.wit_data.specs.declared.world.IncludeName.{IncludeName}
use Rattle.wit_data.specs.declared.interface.Interface.{Interface}
use Rattle.wit_names.specs.declared.package_name.PackageName.{PackageName}
use Rattle.wit_data.specs.declared.stability.Stability.{Stability}
use Rattle.wit_data.specs.declared.types.Type_.{Type_}
use Rattle.wit_data.specs.declared.unresolved.UnresolvedPackage.{UnresolvedPackage}
use Rattle.wit_data.specs.declared.world.World.{World}
use Rattle.wit_data.specs.declared.world.WorldInclude.{WorldInclude}
use Rattle.wit_data.specs.declared.stability.Stability.TheVariants.{Unknown, Stable, Unstable}
use Rattle.wit_data.specs.declared.types.Handle.TheVariants as handle
use Rattle.wit_data.specs.declared.types.TypeDefKind.TheVariants as kind
use Rattle.wit_data.specs.declared.types.Type_.TheVariants as type
use Rattle.wit_data.specs.declared.unresolved.AstItem.TheVariants as named
use Rattle.wit_data.specs.declared.world.WorldItem.TheVariants as item
use Rattle.wit_data.specs.declared.world.WorldKey.TheVariants as key
use Rattle.wit_graph_data.specs.examples.Samples.{entry_of, foo_bar, foo_bar_of, function_of, interface_of, no_docs, sample, sample_types, type_in, unnamed, world_of}
use Rattle.wit_graph_data.specs.declared.features.Features.{Features}
use Rattle.wit_graph_data.specs.declared.graph.Graph.{Graph}
use Rattle.wit_labels.specs.examples.Examples.{function_entry}
use Rattle.wit_link_spec.specs.Addition.{Addition}

-- ---- features and gates

-- no feature is on
abbrev pub no_features : Features
no_features = record { names = []; all = false }

-- feature f is on
abbrev pub feature_f : Features
feature_f = record { names = codes "f" ∷ []; all = false }

-- all features are on
abbrev pub all_features : Features
all_features = record { names = []; all = true }

-- `@unstable(feature = f)`
abbrev pub gate_f : Stability
gate_f = Unstable (codes "f") None

-- `@unstable(feature = g)`
abbrev pub gate_g : Stability
gate_g = Unstable (codes "g") None

-- `@since(version = 1.0.0)`
abbrev pub since_one : Stability
since_one = Stable (1, 0, 0, [], []) None

-- ---- names

-- a name of these parts
abbrev pub name_of : List ℕ → List ℕ → Option Parts → PackageName
name_of namespace name version = record { namespace = namespace; name = name; version = version }

-- foo:dep
abbrev pub dep_name : PackageName
dep_name = name_of (codes "foo") (codes "dep") None

-- foo:main
abbrev pub main_name : PackageName
main_name = name_of (codes "foo") (codes "main") None

-- ---- unresolved packages

-- a package that is being added into a graph, its spans to move so far
abbrev pub adding_at : ℕ → Features → Graph → UnresolvedPackage → Addition
adding_at offset features g u =
    record { features = features; graph = g; unresolved = u; offset = offset }

-- the same, its spans to stay where they are
abbrev pub adding : Features → Graph → UnresolvedPackage → Addition
adding features g u = adding_at 0 features g u

-- a package of this name without anything, whose name stands at 8 to 13
abbrev pub bare : PackageName → UnresolvedPackage
bare name = record {
  name = name;
  package_name_span = Some (8, 13);
  docs = no_docs;
  worlds = [];
  interfaces = [];
  types = [];
  foreign_deps = [];
  foreign_dep_spans = [];
  unknown_type_spans = [];
  required_resource_types = [];
}

-- an interface and a world of a package that isn't added yet
abbrev pub loose_interface : List ℕ → List (List ℕ × ℕ) → Stability → Interface
loose_interface name types note =
    record (interface_of (Some name) types) { «package» = None; stability = note }

-- a world of these lists and includes, of a package that isn't added yet
abbrev pub loose_world : List ℕ → List Entry → List Entry → List WorldInclude → World
loose_world name imports exports includes =
    record (world_of name imports exports) { «package» = None; includes = includes }

-- the include of the first world of a package, at 50 to 60
abbrev pub include_with : List IncludeName → WorldInclude
include_with names = record { stability = Unknown; id = 0; names = names; span = Some (50, 60) }

-- a package that names interface i of another one, under this gate
abbrev pub naming : PackageName → PackageName → Stability → UnresolvedPackage
naming name other note = record (bare name) {
  interfaces = loose_interface (codes "i") [] Unknown ∷ [];
  foreign_deps = (other, (codes "i", (named.Interface 0, note ∷ [])) ∷ []) ∷ [];
  foreign_dep_spans = Some (20, 25) ∷ [];
}

-- a package with interface i under this gate
abbrev pub gated : Option Parts → Stability → UnresolvedPackage
gated version note =
    record (bare (name_of (codes "p") (codes "q") version))
    { interfaces = loose_interface (codes "i") [] note ∷ [] }

-- the same with a world that imports i
abbrev pub gated_import : Stability → UnresolvedPackage
gated_import note =
    record (gated None note) { worlds = loose_world (codes "w") (entry_of 0 ∷ []) [] [] ∷ [] }

-- the same with a type of i in place of the world
abbrev pub gated_owner : Stability → UnresolvedPackage
gated_owner note = record (bare (name_of (codes "p") (codes "q") None)) {
  interfaces = loose_interface (codes "i") ((codes "t", 0) ∷ []) note ∷ [];
  types = type_in 0 (codes "t") (kind.Type_ type.U32) ∷ [];
}

-- a package with resource r, a borrow and an own of it, and a function with this result
abbrev pub returning : Type_ → UnresolvedPackage
returning ty = record (bare foo_bar) {
  interfaces =
      record (loose_interface (codes "i") ((codes "r", 0) ∷ []) Unknown)
      { functions = (codes "f", function_of (codes "f") [] (Some ty)) ∷ [] } ∷ [];
  types =
      type_in 0 (codes "r") kind.Resource ∷ unnamed (kind.Handle (handle.Borrow 0))
      ∷ unnamed (kind.Handle (handle.Own 0)) ∷ unnamed (kind.List (type.Id 1)) ∷ [];
}

-- a package with a world of these lists
abbrev pub with_lists : List Entry → List Entry → UnresolvedPackage
with_lists imports exports =
    record (bare foo_bar) { worlds = loose_world (codes "w") imports exports [] ∷ [] }

-- a package that names a type of interface a of foo:bar, which has to be a resource
abbrev pub naming_type : List ℕ → UnresolvedPackage
naming_type name = record (bare main_name) {
  interfaces = loose_interface (codes "a") ((name, 0) ∷ []) Unknown ∷ [];
  types = type_in 0 name kind.Unknown ∷ [];
  foreign_deps = (foo_bar, (codes "a", (named.Interface 0, Unknown ∷ [])) ∷ []) ∷ [];
  foreign_dep_spans = None ∷ [];
  unknown_type_spans = Some (30, 31) ∷ [];
  required_resource_types = (0, Some (40, 41)) ∷ [];
}

-- interface a with a number t, b with another name of it, and a world w that imports b
abbrev pub first_package : UnresolvedPackage
first_package = record (bare foo_bar) {
  interfaces =
      loose_interface (codes "a") ((codes "t", 0) ∷ []) Unknown
      ∷ loose_interface (codes "b") ((codes "t", 1) ∷ []) Unknown ∷ [];
  types = sample_types;
  worlds = loose_world (codes "w") (entry_of 1 ∷ []) [] [] ∷ [];
}

-- ---- worlds that include another

-- interface a under a gate, as an entry
abbrev pub gated_entry : Stability → Entry
gated_entry note = (key.Interface 0, item.Interface 0 note no_docs None None)

-- foo:bar, whose world w imports a under a gate, and a function under a label
abbrev pub with_world : Stability → List ℕ → Graph
with_world note label = sample (gated_entry note ∷ function_entry label ∷ []) []

-- a package of foo:main that names a and w of foo:bar, with a world d of its own
abbrev pub beside_w : World → UnresolvedPackage
beside_w d = record (bare main_name) {
  interfaces = loose_interface (codes "a") [] Unknown ∷ [];
  worlds = loose_world (codes "w") [] [] [] ∷ d ∷ [];
  foreign_deps = (
    foo_bar,
    (codes "a", (named.Interface 0, Unknown ∷ [])) ∷ (codes "w", (named.World 0, Unknown ∷ []))
        ∷ [],
  ) ∷ [];
  foreign_dep_spans = None ∷ [];
}

-- its world d has these lists and includes w
abbrev pub including_lists : List Entry → List Entry → UnresolvedPackage
including_lists imports exports =
    beside_w (loose_world (codes "d") imports exports (include_with [] ∷ []))

-- its world d imports a under the gate f, and a function f, and includes w under these renamings
abbrev pub including_package : List IncludeName → UnresolvedPackage
including_package names =
    beside_w (loose_world (codes "d") (gated_entry gate_f ∷ function_entry (codes "f") ∷ []) []
    (include_with names ∷ []))

-- the same without renamings, with an interface of its own under `@since`
abbrev pub since_package : UnresolvedPackage
since_package =
    record (including_package []) {
      interfaces = loose_interface (codes "a") [] Unknown
          ∷ loose_interface (codes "i") [] since_one ∷ [];
    }

-- ---- worlds that export

-- foo:bar with a; b, which uses a; and c, which uses b; and these worlds
abbrev pub three_with : List World → List (List ℕ × ℕ) → Graph
three_with worlds table = record {
  types =
      type_in 0 (codes "t") (kind.Type_ type.U32) ∷ type_in 1 (codes "t") (kind.Type_ (type.Id 0))
      ∷ type_in 2 (codes "t") (kind.Type_ (type.Id 1)) ∷ [];
  interfaces =
      interface_of (Some (codes "a")) ((codes "t", 0) ∷ [])
      ∷ interface_of (Some (codes "b")) ((codes "t", 1) ∷ [])
      ∷ interface_of (Some (codes "c")) ((codes "t", 2) ∷ []) ∷ [];
  worlds = worlds;
  packages = foo_bar_of ((codes "a", 0) ∷ (codes "b", 1) ∷ (codes "c", 2) ∷ []) table ∷ [];
  package_names = (foo_bar, 0) ∷ [];
}

-- the same without a world
abbrev pub three : Graph
three = three_with [] []

-- the three, and a world w that exports one of them
abbrev pub three_exporting : ℕ → Graph
three_exporting i =
    three_with (world_of (codes "w") [] (entry_of i ∷ []) ∷ []) ((codes "w", 0) ∷ [])

-- a package that names a and another interface of foo:bar, and whose world exports both
abbrev pub exporting_with : List ℕ → UnresolvedPackage
exporting_with other = record (bare main_name) {
  interfaces = loose_interface (codes "a") [] Unknown ∷ loose_interface other [] Unknown ∷ [];
  worlds = loose_world (codes "w") [] (entry_of 0 ∷ entry_of 1 ∷ []) [] ∷ [];
  foreign_deps = (
    foo_bar,
    (codes "a", (named.Interface 0, Unknown ∷ [])) ∷ (other, (named.Interface 1, Unknown ∷ []))
        ∷ [],
  ) ∷ [];
  foreign_dep_spans = None ∷ [];
}

-- a package whose world d exports c of foo:bar and includes its world w
abbrev pub exporting_c : UnresolvedPackage
exporting_c = record (beside_w (loose_world (codes "d") [] (entry_of 0 ∷ [])
    (include_with [] ∷ []))) {
      interfaces = loose_interface (codes "c") [] Unknown ∷ [];
      foreign_deps = (
        foo_bar,
        (codes "c", (named.Interface 0, Unknown ∷ [])) ∷ (codes "w", (named.World 0, Unknown ∷ []))
            ∷ [],
      ) ∷ [];
    }
