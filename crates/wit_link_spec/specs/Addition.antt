-- What an addition is made of, what of its package is active, and what its things are remapped to: the things of other
-- packages to those of the graph that they name, its own to the next ids, in their order.
use Rattle.std.specs.Prelude.{ℕ, ◌+◌, ◌&&◌, Bool, not, List, ◌++◌, map, filter, length, Option, None, Some, unwrap_or, if◌then◌else◌, flat_map}
use Rattle.wit_sources.specs.Span.{moved_by}
use Rattle.wit_data.specs.declared.function.Function.{Function}
use Rattle.wit_data.specs.declared.interface.Interface.{Interface}
use Rattle.wit_data.specs.declared.unresolved.UnresolvedPackage.{UnresolvedPackage}
use Rattle.wit_data.specs.declared.world.World.{World}
use Rattle.wit_data.specs.declared.world.WorldInclude.{WorldInclude}
use Rattle.wit_graph_data.specs.declared.features.Features.{Features}
use Rattle.wit_graph_data.specs.declared.graph.Graph.{Graph}
use Rattle.wit_remap_spec.specs.Kept.{KeptIds, cut_interface, cut_world}
use Rattle.wit_remap_spec.specs.Image.{Maps}
use Rattle.wit_link_spec.specs.Gates.{is_foreign_interface, is_foreign_world, interface_is_active, item_is_active, type_is_active, world_is_active, is_active}
use Rattle.wit_link_spec.specs.Lookup.{foreign_interface_id, foreign_type_id, foreign_world_id, is_foreign_type}
use Rattle.wit_remap_spec.specs.ValueRemap.{ValueRemap, maps_with_owns, world_functions}
use Rattle.wit_remap_spec.specs.Selected.{rank, selected, selected_with_index}

-- an unresolved package to be added to a graph, under features, its spans to move by an offset
pub record Addition : Type 0 where
  pub features : Features
  pub graph : Graph
  pub unresolved : UnresolvedPackage
  pub offset : ℕ

-- ---- what is active

-- what is active of the package
abbrev pub active : Addition → KeptIds
active a = record {
  types = type_is_active a.features a.unresolved.types;
  interfaces = interface_is_active a.features a.unresolved;
  worlds = world_is_active a.features a.unresolved;
  functions = λ (f : Function). is_active a.features f.stability;
  items = item_is_active a.features a.unresolved.types;
}

-- type t is the package's own and active
abbrev pub own_type : Addition → ℕ → Bool
own_type a t =
    not (is_foreign_type a.unresolved t) && type_is_active a.features a.unresolved.types t

-- interface i is the package's own and active
abbrev pub own_interface : Addition → ℕ → Bool
own_interface a i =
    not (is_foreign_interface a.unresolved i) && interface_is_active a.features a.unresolved i

-- world w is the package's own and active
abbrev pub own_world : Addition → ℕ → Bool
own_world a w = not (is_foreign_world a.unresolved w) && world_is_active a.features a.unresolved w

-- the own active interfaces of the package, with what is active of each
abbrev pub own_interfaces : Addition → List Interface
own_interfaces a =
    map (cut_interface (active a)) (selected (own_interface a) a.unresolved.interfaces)

-- the own active worlds of the package by their indices, with what is active of each
abbrev pub own_worlds : Addition → List (ℕ × World)
own_worlds a =
    map (λ (e : ℕ × World). (e.0, cut_world (active a) e.1))
    (selected_with_index (own_world a) a.unresolved.worlds)

-- ---- where it goes

-- the id in the graph of a thing that has this id in the package: of an active one of another package that of what it
-- names, where that is found; of an active one of its own the next id; what has none keeps its id
abbrev pub remapped : Bool → Bool → Option ℕ → ℕ → ℕ → ℕ
remapped active foreign found next id =
    unwrap_or (if active then (if foreign then found else Some next) else None) id

abbrev pub remapped_type : Addition → ℕ → ℕ
remapped_type a t =
    remapped (type_is_active a.features a.unresolved.types t) (is_foreign_type a.unresolved t)
    (foreign_type_id a.graph a.unresolved t) (length a.graph.types + rank (own_type a) t) t

abbrev pub remapped_interface : Addition → ℕ → ℕ
remapped_interface a i =
    remapped (interface_is_active a.features a.unresolved i) (is_foreign_interface a.unresolved i)
    (foreign_interface_id a.graph a.unresolved i)
    (length a.graph.interfaces + rank (own_interface a) i) i

abbrev pub remapped_world : Addition → ℕ → ℕ
remapped_world a w =
    remapped (world_is_active a.features a.unresolved w) (is_foreign_world a.unresolved w)
    (foreign_world_id a.graph a.unresolved w) (length a.graph.worlds + rank (own_world a) w) w

-- the includes of a world that are active, with the ids and the spans that they have in the graph
abbrev pub updated_includes : Addition → World → List WorldInclude
updated_includes a world =
    map (λ (i : WorldInclude).
    record i { id = remapped_world a i.id; span = moved_by a.offset i.span })
    (filter (λ (i : WorldInclude). is_active a.features i.stability) world.includes)

-- what ids are remapped to, all of them plainly
abbrev pub maps_without_owns : Addition → Maps
maps_without_owns a = record {
  types = remapped_type a;
  values = remapped_type a;
  interfaces = remapped_interface a;
  worlds = remapped_world a;
  home = λ p. Some (length a.graph.packages);
  labels = λ w name. name;
  offset = a.offset;
}

-- ---- where values become an `own`

-- the functions that are added: of the package's own active interfaces, then of its worlds
abbrev pub own_functions : Addition → List Function
own_functions a =
    flat_map (λ (interface : Interface). map (λ (e : List ℕ × Function). e.1) interface.functions)
    (own_interfaces a) ++ flat_map (λ (e : ℕ × World). world_functions e.1) (own_worlds a)

-- what comes into the graph, as values ask for `own`s
abbrev pub remap_of_addition : Addition → ValueRemap
remap_of_addition a =
    record {
      graph_types = a.graph.types;
      new_types = selected (own_type a) a.unresolved.types;
      new_functions = own_functions a;
      count = length a.unresolved.types;
      ids = maps_without_owns a;
    }

-- what ids are remapped to
abbrev pub addition_maps : Addition → Maps
addition_maps a = maps_with_owns (remap_of_addition a)
