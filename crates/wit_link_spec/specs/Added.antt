-- What adding a package makes of a graph: a function of the graph, the features, the package and the offset.
-- Everything of the graph stays at its ids. Behind it come the images of what is active, the `own`s that
-- values ask for, and, world by world, the copies of its includes and the world, elaborated.
-- Source: `append` of wit-parser 0.263.0.
use Rattle.std.specs.Prelude.{ℕ, List, [], ◌∷◌, ◌++◌, map, filter_map, fold, take, length, option_map}
use Rattle.wit_data.specs.declared.interface.Interface.{Interface}
use Rattle.wit_data.specs.declared.world.World.{World}
use Rattle.wit_elaboration.specs.Elaboration.{elaborated_world}
use Rattle.wit_graph_data.specs.declared.graph.Graph.{Graph}
use Rattle.wit_graph_data.specs.declared.graph.Package.{Package}
use Rattle.wit_remap_spec.specs.Image.{interface_image, world_image}
use Rattle.wit_link_spec.specs.Addition.{Addition, addition_maps, own_interface, own_interfaces, own_world, own_worlds, remap_of_addition, remapped_interface, remapped_world, updated_includes}
use Rattle.wit_remap_spec.specs.Selected.{selected_with_index}
use Rattle.wit_link_spec.specs.Include.{with_entry_lists, with_several}
use Rattle.wit_remap_spec.specs.ValueRemap.{types_behind}
use Rattle.wit_labels.specs.Setters.{setters_placed}

-- ---- the package

-- the package, with its interfaces that have names and its worlds under their names
abbrev pub new_package : Addition → Package
new_package a = record {
  name = a.unresolved.name;
  docs = a.unresolved.docs;
  interfaces =
      filter_map (λ (e : ℕ × Interface).
      option_map (λ (name : List ℕ). (name, remapped_interface a e.0)) e.1.name)
      (selected_with_index (own_interface a) a.unresolved.interfaces);
  worlds =
      map (λ (e : ℕ × World). (e.1.name, remapped_world a e.0))
      (selected_with_index (own_world a) a.unresolved.worlds);
}

-- the graph with the package's types and interfaces, before its worlds
abbrev pub with_parts : Addition → Graph
with_parts a = record {
  types = a.graph.types ++ types_behind (remap_of_addition a);
  interfaces = a.graph.interfaces ++ map (interface_image (addition_maps a)) (own_interfaces a);
  worlds = a.graph.worlds;
  packages = a.graph.packages ++ new_package a ∷ [];
  package_names = a.graph.package_names ++ (a.unresolved.name, length a.graph.packages) ∷ [];
}

-- ---- its worlds

-- a world, finished: its setters after their getters, elaborated over the types and interfaces of a graph
abbrev pub finished_world : Graph → World → World
finished_world g world =
    elaborated_world g (record world
    { imports = setters_placed world.imports; exports = setters_placed world.exports })

-- the graph with one world more behind its worlds, with all its active includes, finished
abbrev pub with_world : Addition → Graph → ℕ × World → Graph
with_world a g e =
    let world = world_image (addition_maps a) e.0 e.1 in
    let b = with_several (length a.graph.packages) g world (updated_includes a e.1) in
    record b.graph {
      worlds = b.graph.worlds
          ++ finished_world b.graph (with_entry_lists world b.lists) ∷ [];
    }

-- the graph with the first so many of the package's worlds
abbrev pub with_worlds : Addition → ℕ → Graph
with_worlds a count = fold (with_world a) (with_parts a) (take count (own_worlds a))

-- the graph with the package
--
--     the graph      types       0 t  resource (a)       1 t  = type 0 (b)
--                    interfaces  0 a { t -> 0 }          1 b { t -> 1 }
--                    worlds      0 w
--                    packages    0 foo:bar { a -> 0, b -> 1 } { w -> 0 }
--
--     is added       foo:main:   interface i { use foo:bar/a.{t as s}; record p { x: s } }   world v { import i }
--
--     the graph      types       0 1 | 2 s  = type 0 (i)   3 p  record { x: type 4 } (i) | 4 own<type 2>
--     afterwards     interfaces  0 1 | 2 i { s -> 2, p -> 3 }
--                    worlds      0   | 1 v, imports 0 and 2, since i uses a
--                    packages    0   | 1 foo:main { i -> 2 } { v -> 1 }
--
-- (`whole` of `ExamplesOfPushes` in examples_graph; with an include `once` of `ExamplesOfIncludedWorlds`)
abbrev pub added : Addition → Graph
added a = fold (with_world a) (with_parts a) (own_worlds a)
