-- What a graph has under a name.
use Rattle.std.specs.Prelude.{ℕ, List, Option, option_and_then, slice_get, bytes_eq}
use Rattle.std.specs.Map.{lookup}
use Rattle.wit_names.specs.PackageName.{same_package}
use Rattle.wit_names.specs.declared.package_name.PackageName.{PackageName}
use Rattle.wit_data.specs.declared.interface.Interface.{Interface}
use Rattle.wit_graph_data.specs.declared.graph.Graph.{Graph}
use Rattle.wit_graph_data.specs.declared.graph.Package.{Package}

-- the package of this name
abbrev pub package_named : Graph → PackageName → Option ℕ
package_named g name = lookup (same_package name) g.package_names

-- the interface of this name in the package at a place
abbrev pub interface_in : Graph → List ℕ → ℕ → Option ℕ
interface_in g name p =
    option_and_then (λ (home : Package). lookup (bytes_eq name) home.interfaces)
    (slice_get g.packages p)

-- so for a world
abbrev pub world_in : Graph → List ℕ → ℕ → Option ℕ
world_in g name p =
    option_and_then (λ (home : Package). lookup (bytes_eq name) home.worlds)
    (slice_get g.packages p)

-- the world of this name in the package of that name
abbrev pub world_named : Graph → PackageName → List ℕ → Option ℕ
world_named g owner world = option_and_then (world_in g world) (package_named g owner)

-- the type of this name in interface i of the graph
abbrev pub interface_type : Graph → List ℕ → ℕ → Option ℕ
interface_type g name i =
    option_and_then (λ (interface : Interface). lookup (bytes_eq name) interface.types)
    (slice_get g.interfaces i)
