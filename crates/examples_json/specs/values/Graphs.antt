-- Packages and graphs.
use Rattle.std.specs.Prelude.{◌≡◌, ◌≢◌, [], ◌∷◌, ◌++◌, Option, Some, None, codes}
use Rattle.wit_data.specs.New.{new_interface, new_type, new_world}
use Rattle.wit_data.specs.declared.types.TypeDefKind.TheVariants as kind
use Rattle.wit_data.specs.declared.types.TypeOwner.TheVariants as owner
use Rattle.wit_data.specs.declared.types.Type_.TheVariants as type
use Rattle.wit_values.specs.Version.{Parts}
use Rattle.wit_names.specs.declared.package_name.PackageName.{PackageName}
use Rattle.wit_graph_data.specs.declared.graph.Graph.{Graph}
use Rattle.wit_graph_data.specs.declared.graph.Package.{Package}
use Rattle.wit_json.specs.Graph.{compact, json_of_graph, json_of_package}
use Rattle.examples_json.specs.values.Gates.{docs_of, release}

abbrev pub foo_bar : Option Parts → PackageName
foo_bar version = record { namespace = codes "foo"; name = codes "bar"; version = version }

-- foo:bar with docs, interfaces b and a, and world w
abbrev pub a_package : Package
a_package =
    record {
      name = foo_bar (Some (release 1 0 0));
      docs = docs_of (Some (codes "B."));
      interfaces = (codes "b", 1) ∷ (codes "a", 0) ∷ [];
      worlds = (codes "w", 0) ∷ [];
    }

-- foo:bar with nothing in it
abbrev pub bare_package : Package
bare_package = record { name = foo_bar None; docs = docs_of None; interfaces = []; worlds = [] }

abbrev pub no_graph : Graph
no_graph = record { types = []; interfaces = []; worlds = []; packages = []; package_names = [] }

-- one thing in each list
abbrev pub small_graph : Graph
small_graph = record {
  types = new_type None (kind.Type_ type.U8) owner.None ∷ [];
  interfaces = new_interface (Some (codes "i")) ∷ [];
  worlds = new_world (codes "w") ∷ [];
  packages = bare_package ∷ [];
  package_names = (foo_bar None, 0) ∷ [];
}

pub record ExamplesOfGraphs : Type 0 where
  -- tables stand in their order
  pub «package» : compact (json_of_package a_package)
      ≡ codes "{\"name\":\"foo:bar@1.0.0\",\"docs\":{\"contents\":\"B.\"},"
      ++ codes "\"interfaces\":{\"b\":1,\"a\":0},\"worlds\":{\"w\":0}}"
  pub not_sorted : compact (json_of_package a_package)
      ≢ codes "{\"name\":\"foo:bar@1.0.0\",\"docs\":{\"contents\":\"B.\"},"
      ++ codes "\"interfaces\":{\"a\":0,\"b\":1},\"worlds\":{\"w\":0}}"
  pub not_unversioned : compact (json_of_package a_package)
      ≢ codes "{\"name\":\"foo:bar\",\"docs\":{\"contents\":\"B.\"},"
      ++ codes "\"interfaces\":{\"b\":1,\"a\":0},\"worlds\":{\"w\":0}}"
  pub bare : compact (json_of_package bare_package)
      ≡ codes "{\"name\":\"foo:bar\",\"interfaces\":{},\"worlds\":{}}"
  pub empty : compact (json_of_graph no_graph)
      ≡ codes "{\"worlds\":[],\"interfaces\":[],\"types\":[],\"packages\":[]}"
  pub not_nothing : compact (json_of_graph no_graph) ≢ codes "{}"
  -- the table of package names isn't there
  pub small : compact (json_of_graph small_graph)
      ≡ codes "{\"worlds\":[{\"name\":\"w\",\"imports\":{},\"exports\":{},\"package\":null}],"
      ++ codes "\"interfaces\":[{\"name\":\"i\",\"types\":{},\"functions\":{},\"package\":null}],"
      ++ codes "\"types\":[{\"name\":null,\"kind\":{\"type\":\"u8\"},\"owner\":null}],"
      ++ codes "\"packages\":[{\"name\":\"foo:bar\",\"interfaces\":{},\"worlds\":{}}]}"
