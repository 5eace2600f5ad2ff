-- What a command asks and brings, and all that leads where when it is refused.
use Rattle.std.specs.Prelude.{ℕ, List, [], ◌∷◌, ◌++◌, Option, None}
use Rattle.std.specs.Option.{option_map_or}
use Rattle.wit_graph_data.specs.Named.{world_named}
use Rattle.wit_graph_data.specs.declared.graph.Graph.{Graph}
use Rattle.wit_resolve_graph.specs.State.{State}
use Rattle.wit_resolve_graph.specs.declared.command.Command.{Command}
use Rattle.wit_resolve_graph.specs.declared.command.Command.TheVariants as command
use Rattle.wit_semver.specs.SemverMerged.{with_new_entries}
use Rattle.wit_ways.specs.Arrows.{graph_arrows}
use Rattle.wit_ways.specs.Coming.{coming_graph, coming_packages, placed_packages}
use Rattle.wit_ways.specs.declared.arrow.Arrow.{Arrow}
use Rattle.wit_ways.specs.declared.asked.Asked.{Asked}
use Rattle.wit_ways.specs.declared.asked.Asked.TheVariants as asks
use Rattle.wit_ways.specs.declared.entries.WorldSide.{WorldSide}
use Rattle.wit_ways.specs.declared.entries.WorldSide.TheVariants as side
use Rattle.wit_ways.specs.declared.include.Include.{Include}
use Rattle.wit_ways.specs.declared.world_name.WorldPlace.{WorldPlace}

-- what a command asks in a state and brings, its files behind those that are there
abbrev pub asked_of : State → Command → Asked
asked_of state (command.PushGroups main deps) =
    asks.Push (coming_packages state.features (placed_packages state.source_map.end (main ∷ deps)))
asked_of state (command.Merge other) = asks.Merge (coming_graph state.source_map.end other.graph)
asked_of state (command.Exportize home world out keys) = asks.Exportize keys
asked_of state (command.Semver home world) = asks.Semver home world
asked_of state _ = asks.Other

-- what leads where in what comes; what worlds include that come, and where they stand
abbrev pub coming_arrows : Asked → List Arrow
coming_arrows (asks.Push coming) = coming.arrows
coming_arrows (asks.Merge coming) = coming.arrows
coming_arrows _ = []

abbrev pub coming_includes : Asked → List Include
coming_includes (asks.Push coming) = coming.includes
coming_includes _ = []

abbrev pub coming_worlds : Asked → List WorldPlace
coming_worlds (asks.Push coming) = coming.worlds
coming_worlds (asks.Merge coming) = coming.worlds
coming_worlds _ = []

-- the keys that an `exportize` chooses
abbrev pub chosen_keys : Asked → Option (List (List ℕ))
chosen_keys (asks.Exportize keys) = keys
chosen_keys _ = None

-- the side of worlds on which what is to be exported stands: of `exportize` the imports
abbrev pub asked_side : Asked → WorldSide
asked_side (asks.Exportize keys) = side.Imports
asked_side _ = side.Exports

-- of `semver` the graph with its new entries, of which the causes 4, 6, 22 and 23 are; else the graph as it is
abbrev pub asked_graph : State → Asked → Graph
asked_graph state (asks.Semver home world) =
    option_map_or (with_new_entries state.track_rule state.graph)
    (world_named state.graph home world) state.graph
asked_graph state _ = state.graph

-- what leads where: in that graph, and in what comes
abbrev pub known_arrows : State → Asked → List Arrow
known_arrows state asked =
    graph_arrows 0 (asked_graph state asked) (asked_side asked) ++ coming_arrows asked
