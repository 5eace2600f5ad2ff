-- A graph whose worlds have their new entries, as a merge and semver merging leave it: all its worlds elaborated, and what
-- holds against it.
-- Source: `merge` and `merge_world_imports_based_on_semver` of wit-parser 0.263.0; that cycles are refused, and how
-- those of interfaces and types are told, are rules of this project.
use Rattle.std.specs.Prelude.{◌≡◌, ℕ, List, ◌++◌, Option, Some, codes, slice_get, Contains}
use Rattle.wit_digraph.specs.Cycles.{IsOnCycle}
use Rattle.wit_data.specs.Kind.{type_references}
use Rattle.wit_names.specs.declared.package_name.PackageName.{PackageName}
use Rattle.wit_data.specs.declared.types.TypeDef.{TypeDef}
use Rattle.wit_data.specs.declared.world.World.{World}
pub use Rattle.wit_elaboration.specs.Elaboration.{all_elaborated, elaborated_world}
use Rattle.wit_elaboration.specs.Elaboration.{graph_uses}
use Rattle.wit_graph_data.specs.IdText.{interface_id_at}
use Rattle.wit_elaboration.specs.Imported.{HasTransitiveConflict, IsRefusedName}
use Rattle.wit_graph_data.specs.Queries.{package_uses}
use Rattle.wit_graph_data.specs.declared.graph.Graph.{Graph}
use Rattle.wit_graph_data.specs.declared.graph.Package.{Package}

-- ---- what holds against it

-- 6: a package depends on itself, through whatever others; any on the cycle is told
pub record DependsOnItself (g : Graph) (home : PackageName) : Type 0 where
  pub p : ℕ
  pub q : ℕ
  pub on_cycle : IsOnCycle (package_uses g.types g.interfaces g.worlds g.packages) p q
  pub there : Package
  pub is : slice_get g.packages p ≡ Some there
  pub home_is : home ≡ there.name

-- 22: an interface uses itself; any on the cycle that has a name is told, by its id text
pub record UsesItself (g : Graph) (message : List ℕ) : Type 0 where
  pub i : ℕ
  pub j : ℕ
  pub on_cycle : IsOnCycle (graph_uses g) i j
  pub id : List ℕ
  pub id_is : interface_id_at g.packages g.interfaces i ≡ Some id
  pub message_is : message ≡ codes "interface `" ++ (id ++ codes "` would depend on itself")

-- 23: a type refers to itself; any on the cycle that has a name is told
pub record RefersToItself (g : Graph) (message : List ℕ) : Type 0 where
  pub t : ℕ
  pub u : ℕ
  pub on_cycle : IsOnCycle (type_references g.types) t u
  pub def : TypeDef
  pub is : slice_get g.types t ≡ Some def
  pub name : List ℕ
  pub name_is : def.name ≡ Some name
  pub message_is : message ≡ codes "type `" ++ (name ++ codes "` would refer to itself")

-- 4: what the exports of a world need from outside is exported; told of any such world, at its span. Where
-- interfaces or types are on cycles there is no elaboration to speak of; a cycle of packages is no hindrance
pub record HasWorldInConflict (g : Graph) (span : Option (ℕ × ℕ)) (name : List ℕ) : Type 0 where
  pub interfaces : (message : List ℕ) → UsesItself g message → ⊥
  pub types : (message : List ℕ) → RefersToItself g message → ⊥
  pub world : World
  pub there : Contains g.worlds world
  pub conflict : HasTransitiveConflict (graph_uses g) world.exports
  pub name_is : IsRefusedName g.packages g.interfaces (graph_uses g) world.exports name
  pub span_is : span ≡ world.span
