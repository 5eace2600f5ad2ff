-- A law of the order of packages.
use Rattle.std.specs.Prelude.{ℕ, ◌<◌, ◌↔◌, List, [], length, nat_eq, Contains}
use Rattle.std.specs.List.{IsDistinct}
use Rattle.wit_digraph.specs.Relation.{IsAcyclic}
use Rattle.wit_digraph.specs.steps.PostOrder.{UsesFirst}
use Rattle.wit_data.specs.declared.interface.Interface.{Interface}
use Rattle.wit_data.specs.declared.types.TypeDef.{TypeDef}
use Rattle.wit_data.specs.declared.world.World.{World}
use Rattle.wit_graph_data.specs.Queries.{topological_packages, package_uses}
use Rattle.wit_graph_data.specs.declared.graph.Package.{Package}

-- an order of all of so many things: it lists each once, and each after those that it uses
pub record IsOrder (uses : List (List ℕ)) (count : ℕ) (order : List ℕ) : Type 0 where
  pub all : (i : ℕ) → Contains order i ↔ (i < count)
  pub once : IsDistinct nat_eq order
  pub dependencies_first : UsesFirst uses [] order

-- where no package depends on itself, the packages in order are such an order of all of them
abbrev pub PackagesAreInOrder : Type 0
PackagesAreInOrder =
    (types : List TypeDef) (interfaces : List Interface) (worlds : List World)
    (packages : List Package)
    → IsAcyclic (package_uses types interfaces worlds packages)
    → IsOrder (package_uses types interfaces worlds packages) (length packages)
    (topological_packages types interfaces worlds packages)
