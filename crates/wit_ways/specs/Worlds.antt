-- Worlds by name, their labels, and where they stand.
use Rattle.std.specs.Prelude.{ℕ, ◌==◌, ◌&&◌, Bool, false, List, ◌++◌, filter_map, find, Option, Some, option_map, codes}
use Rattle.std.specs.Option.{option_or}
use Rattle.wit_sources.specs.Span.{OptionalSpan}
use Rattle.wit_data.specs.declared.world.World.{World}
use Rattle.wit_graph_data.specs.declared.graph.Graph.{Graph}
use Rattle.wit_ways.specs.Arrows.{home_of, item_text, placed}
use Rattle.wit_ways.specs.declared.world_name.WorldName.{WorldName}
use Rattle.wit_ways.specs.declared.world_name.WorldPlace.{WorldPlace}

-- a label of a world: `namespace:package/world.label`, and `@version` where there is one
abbrev pub label_text : WorldName → List ℕ → List ℕ
label_text world label = item_text world.«package» (world.name ++ (codes "." ++ label))

-- where a world of a graph stands, so many positions further on, if it is in a package
abbrev pub world_place : ℕ → Graph → World → Option WorldPlace
world_place offset g world =
    option_map (λ home.
    record {
      span = placed offset world.span;
      world = record { «package» = home; name = world.name };
    })
    (home_of g.packages world.«package»)

-- where the worlds of a graph stand
abbrev pub graph_worlds : ℕ → Graph → List WorldPlace
graph_worlds offset g = filter_map (world_place offset g) g.worlds

-- two spans are known and the same
abbrev pub same_span : OptionalSpan → OptionalSpan → Bool
same_span (Some a) (Some b) = (a.0 == b.0) && (a.1 == b.1)
same_span _ _ = false

-- the first of some worlds that stands at a span, which is known
abbrev pub find_world : List WorldPlace → OptionalSpan → Option WorldName
find_world worlds span =
    option_map (λ (place : WorldPlace). place.world)
    (find (λ (place : WorldPlace). same_span span place.span) worlds)

-- the world that stands at a span: of a graph, or else of what comes
abbrev pub world_at : Graph → List WorldPlace → OptionalSpan → Option WorldName
world_at g coming span = option_or (find_world (graph_worlds 0 g) span) (find_world coming span)
