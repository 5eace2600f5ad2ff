-- What merging another graph makes of a graph: a function of the two graphs and of the offset. Everything of the
-- graph stays at its ids: it keeps its data, but for a stability that is joined to its own and for what is appended to
-- it. Behind it come the images of what moves, in the order of their ids, and the `own`s that values ask for. Then
-- every world is elaborated.
-- Source: `merge`, `update_stability` and `update_world_imports_stability` of wit-parser 0.263.0.
use Rattle.std.specs.Prelude.{ℕ, List, ◌++◌, map, filter, Bool, true, false, ◌+◌, not, length, is_some, Option, Some, unwrap_or, flat_map, option_map, bytes_eq}
use Rattle.std.specs.List.{enumerate_from}
use Rattle.std.specs.Option.{option_map_or}
use Rattle.wit_data.specs.Entries.{Entry}
use Rattle.wit_data.specs.declared.function.Function.{Function}
use Rattle.wit_data.specs.declared.interface.Interface.{Interface}
use Rattle.wit_names.specs.declared.package_name.PackageName.{PackageName}
use Rattle.wit_data.specs.declared.world.World.{World}
use Rattle.wit_data.specs.declared.world.WorldKey.{WorldKey}
use Rattle.wit_data.specs.declared.world.WorldKey.TheVariants as key
use Rattle.wit_graph_data.specs.declared.graph.Graph.{Graph}
use Rattle.wit_graph_data.specs.declared.graph.Package.{Package}
use Rattle.wit_elaboration.specs.AllElaborated.{all_elaborated}
use Rattle.wit_remap_spec.specs.Image.{entry_image, function_image, interface_image, world_image, Maps}
use Rattle.wit_remap_spec.specs.Joined.{joined_entry, joined_stability}
use Rattle.wit_remap_spec.specs.Selected.{selected, rank, selected_with_index}
use Rattle.wit_remap_spec.specs.ValueRemap.{types_behind, ValueRemap, maps_with_owns, world_functions}
use Rattle.wit_merge_spec.specs.Matches.{GraphMerge, counterpart_interface, counterpart_of, counterpart_package, counterpart_type, counterpart_world, matched_interface}
use Rattle.std.specs.Map.{lookup}

-- Where the things of the incoming graph go: what is matched to its counterpart, all else to the next ids, in
-- its order; values become an `own` as in an addition.
-- Source: `merge` of wit-parser 0.263.0.

-- ---- what moves

-- what isn't matched moves
abbrev pub moves : (ℕ → Option ℕ) → ℕ → Bool
moves found i = not (is_some (found i))

-- the worlds that move, with their places, in their order
abbrev pub moved_worlds : GraphMerge → List (ℕ × World)
moved_worlds m = selected_with_index (moves (counterpart_world m)) m.other.worlds

-- of a matched interface the functions whose names its counterpart doesn't have
abbrev pub brought_functions : Interface → Interface → List (List ℕ × Function)
brought_functions from into =
    filter (λ (e : List ℕ × Function). not (is_some (lookup (bytes_eq e.0) into.functions)))
    from.functions

-- ---- where it goes

-- a matched thing to its counterpart, another to the next id
abbrev pub merged_type : GraphMerge → ℕ → ℕ
merged_type m t =
    unwrap_or (counterpart_type m t) (length m.graph.types + rank (moves (counterpart_type m)) t)

abbrev pub merged_interface : GraphMerge → ℕ → ℕ
merged_interface m i =
    unwrap_or (counterpart_interface m i)
    (length m.graph.interfaces + rank (moves (counterpart_interface m)) i)

abbrev pub merged_world : GraphMerge → ℕ → ℕ
merged_world m w =
    unwrap_or (counterpart_world m w) (length m.graph.worlds + rank (moves (counterpart_world m)) w)

abbrev pub merged_package : GraphMerge → ℕ → ℕ
merged_package m p =
    unwrap_or (counterpart_package m p)
    (length m.graph.packages + rank (moves (counterpart_package m)) p)

-- what ids are remapped to before values ask for `own`s
abbrev pub merge_maps_without_owns : GraphMerge → Maps
merge_maps_without_owns m = record {
  types = merged_type m;
  values = merged_type m;
  interfaces = merged_interface m;
  worlds = merged_world m;
  home = option_map (merged_package m);
  labels = λ w name. name;
  offset = m.offset;
}

-- ---- the functions that move

-- the functions that move: all of an interface that moves, of a matched one those that its counterpart doesn't have, and
-- those of the worlds that move
abbrev pub moved_functions : GraphMerge → List Function
moved_functions m =
    flat_map (λ (e : ℕ × Interface).
    map (λ (f : List ℕ × Function). f.1)
    (option_map_or (brought_functions e.1) (matched_interface m e.0) e.1.functions))
    (enumerate_from 0 m.other.interfaces)
    ++ flat_map (λ (e : ℕ × World). world_functions e.1) (moved_worlds m)

-- ---- where values become an `own`

-- what comes into the graph, as values ask for `own`s. A matched type is what it is in the graph
abbrev pub value_remap : GraphMerge → ValueRemap
value_remap m =
    record {
      graph_types = m.graph.types;
      new_types = selected (moves (counterpart_type m)) m.other.types;
      new_functions = moved_functions m;
      count = length m.other.types;
      ids = merge_maps_without_owns m;
    }

-- what ids are remapped to, with values at their `own`s
abbrev pub merge_maps : GraphMerge → Maps
merge_maps m = maps_with_owns (value_remap m)

-- ---- what is joined

-- things, each with what its counterpart among the others brings it, if it has one
abbrev pub joined_each : {X : Type 0} → (ℕ → Option ℕ) → List X → (ℕ × X → X → X) → List X → List X
joined_each {X} found others join ours =
    map (λ (e : ℕ × X).
    option_map_or (λ (p : ℕ × X). join p e.1) (counterpart_of found others e.0) e.1)
    (enumerate_from 0 ours)

-- ---- interfaces

-- an interface, with the types of another that move and the functions that it doesn't have behind its own
abbrev pub with_interface : GraphMerge → Interface → Interface → Interface
with_interface m from into = record into {
  types =
      into.types
      ++ map (λ (e : List ℕ × ℕ). (e.0, merged_type m e.1))
      (filter (λ (e : List ℕ × ℕ). moves (counterpart_type m) e.1) from.types);
  functions =
      into.functions
      ++ map (λ (e : List ℕ × Function). (e.0, function_image (merge_maps m) e.1))
      (brought_functions from into);
  stability = joined_stability from.stability into.stability;
}

-- ---- worlds

-- the entry stands under the key of an interface
abbrev pub is_under_id : WorldKey → Bool
is_under_id (key.Name label) = false
is_under_id (key.Interface i) = true

-- entries of a world, each with the stability joined to it of the entry under its key among those of world w of the
-- graph that comes in; so under keys of interfaces alone
abbrev pub with_entries : GraphMerge → ℕ → List Entry → List Entry → List Entry
with_entries m w from into =
    map (joined_entry false
    (map (entry_image (merge_maps m) w) (filter (λ (e : Entry). is_under_id e.0) from))) into

-- a world, with the stabilities of another, which comes with its place, joined to its own
abbrev pub with_world : GraphMerge → ℕ × World → World → World
with_world m p into = record into {
  imports = with_entries m p.0 p.1.imports into.imports;
  exports = with_entries m p.0 p.1.exports into.exports;
  stability = joined_stability p.1.stability into.stability;
}

-- ---- packages

-- a package, with the interfaces and worlds of another that move behind its own
abbrev pub with_package : GraphMerge → Package → Package → Package
with_package m from into = record into {
  interfaces =
      into.interfaces
      ++ map (λ (e : List ℕ × ℕ). (e.0, merged_interface m e.1))
      (filter (λ (e : List ℕ × ℕ). moves (counterpart_interface m) e.1) from.interfaces);
  worlds =
      into.worlds
      ++ map (λ (e : List ℕ × ℕ). (e.0, merged_world m e.1))
      (filter (λ (e : List ℕ × ℕ). moves (counterpart_world m) e.1) from.worlds);
}

-- a package that moves, with what its tables list at the new ids
abbrev pub package_image : GraphMerge → Package → Package
package_image m home = record home {
  interfaces = map (λ (e : List ℕ × ℕ). (e.0, merged_interface m e.1)) home.interfaces;
  worlds = map (λ (e : List ℕ × ℕ). (e.0, merged_world m e.1)) home.worlds;
}

-- the two graphs as one, with the lists of worlds as they were listed: a type has the stability of its counterpart joined
-- to its own
abbrev pub joined_graph : GraphMerge → Graph
joined_graph m = record {
  types =
      joined_each (counterpart_type m) m.other.types
      (λ p into. record into { stability = joined_stability p.1.stability into.stability })
      m.graph.types ++ types_behind (value_remap m);
  interfaces =
      joined_each (counterpart_interface m) m.other.interfaces (λ p into. with_interface m p.1 into)
      m.graph.interfaces
      ++ map (interface_image (merge_maps m))
      (selected (moves (counterpart_interface m)) m.other.interfaces);
  worlds =
      joined_each (counterpart_world m) m.other.worlds (with_world m) m.graph.worlds
      ++ map (λ (e : ℕ × World). world_image (merge_maps m) e.0 e.1) (moved_worlds m);
  packages =
      joined_each (counterpart_package m) m.other.packages (λ p into. with_package m p.1 into)
      m.graph.packages
      ++ map (package_image m) (selected (moves (counterpart_package m)) m.other.packages);
  package_names =
      m.graph.package_names
      ++ map (λ (e : PackageName × ℕ). (e.0, merged_package m e.1)) (filter
      (λ (e : PackageName × ℕ). moves (counterpart_package m) e.1) m.other.package_names);
}

-- the two graphs as one, with every world elaborated
abbrev pub merged : GraphMerge → Graph
merged m = all_elaborated (joined_graph m)
