-- Functions that are listed with their keys.
use Rattle.std.specs.Prelude.{ℕ, List, [], Some, map, slice_get}
use Rattle.std.specs.Option.{option_copied, option_map_or}
use Rattle.wit_data.specs.declared.function.Function.{Function}
use Rattle.wit_data.specs.declared.interface.Interface.{Interface}
use Rattle.wit_data.specs.declared.world.WorldKey.{WorldKey}
use Rattle.wit_graph_data.specs.declared.graph.Graph.{Graph}
use Rattle.wit_json_commands.specs.CoreNames.{PlacedFunction}
use Rattle.wit_json_commands.specs.declared.questions.core_names.Placed.{Placed}

abbrev pub placed_function : Placed → PlacedFunction
placed_function it = (option_copied it.interface, it.function.now)

abbrev pub placed_functions : List Placed → List PlacedFunction
placed_functions placed = map placed_function placed

-- the functions of the interface of an id
abbrev pub functions_at : Graph → WorldKey → ℕ → List PlacedFunction
functions_at g key i =
    option_map_or (λ (interface : Interface).
    map (λ (e : List ℕ × Function). (Some key, e.1)) interface.functions)
    (slice_get g.interfaces i) []
