-- A merge that leaves what the graph has as it is: what comes stands behind it.
use Rattle.std.specs.Prelude.{◌≡◌, ℕ, List, ◌++◌, map, filter, flat_map}
use Rattle.std.specs.List.{enumerate_from}
use Rattle.wit_names.specs.declared.package_name.PackageName.{PackageName}
use Rattle.wit_data.specs.declared.function.Function.{Function}
use Rattle.wit_data.specs.declared.interface.Interface.{Interface}
use Rattle.wit_data.specs.declared.world.World.{World}
use Rattle.wit_graph_data.specs.declared.graph.Graph.{Graph}
use Rattle.wit_remap_spec.specs.Image.{interface_image, world_image}
use Rattle.wit_remap_spec.specs.Selected.{selected}
use Rattle.wit_remap_spec.specs.ValueRemap.{types_behind, world_functions}
use Rattle.wit_merge_spec.specs.Matches.{GraphMerge}
use Rattle.wit_merge_spec.specs.Merged.{joined_graph, merge_maps, merged_package, moved_worlds, package_image, value_remap}
use Rattle.wit_merge_spec.specs.steps.Parts.{moved_interfaces, joined_type, joined_interface, joined_world, joined_package, moves_package}

-- each thing of the graph is what it was: what is matched with it brings nothing, and has no stability that it lacks
pub record LeavesGraph (m : GraphMerge) : Type 0 where
  pub types : map (joined_type m) (enumerate_from 0 m.graph.types) ≡ m.graph.types
  pub interfaces : map (joined_interface m) (enumerate_from 0 m.graph.interfaces)
      ≡ m.graph.interfaces
  pub worlds : map (joined_world m) (enumerate_from 0 m.graph.worlds) ≡ m.graph.worlds
  pub packages : map (joined_package m) (enumerate_from 0 m.graph.packages) ≡ m.graph.packages

-- the worlds that move, where they go
abbrev pub new_worlds : GraphMerge → List World
new_worlds m = map (λ (e : ℕ × World). world_image (merge_maps m) e.0 e.1) (moved_worlds m)

-- their functions, behind those of the interfaces that move
abbrev pub new_functions : GraphMerge → List Function
new_functions m =
    flat_map (λ (x : Interface). map (λ (e : List ℕ × Function). e.1) x.functions)
    (map (interface_image (merge_maps m)) (moved_interfaces m))
    ++ flat_map world_functions (new_worlds m)

-- the graph with what comes behind it, with the lists of worlds as they were listed
abbrev pub grown_graph : GraphMerge → Graph
grown_graph m = record {
  types = m.graph.types ++ types_behind (value_remap m);
  interfaces = m.graph.interfaces ++ map (interface_image (merge_maps m)) (moved_interfaces m);
  worlds = m.graph.worlds ++ new_worlds m;
  packages =
      m.graph.packages ++ map (package_image m) (selected (moves_package m) m.other.packages);
  package_names =
      m.graph.package_names
      ++ map (λ (e : PackageName × ℕ). (e.0, merged_package m e.1))
      (filter (λ (e : PackageName × ℕ). moves_package m e.1) m.other.package_names);
}

-- the two graphs as one, with the worlds that move alone
abbrev pub with_new_worlds : GraphMerge → Graph
with_new_worlds m = record (joined_graph m) { worlds = new_worlds m }
