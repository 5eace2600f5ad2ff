use Rattle.std.proofs.Common.{◌≡◌, [], take, string_bytes}
use Rattle.std.specs.List.{flat_map}
use Rattle.std.specs.Option.{option_map_or}
use Rattle.wit_graph_data.specs.IdText.{id_text}
use Rattle.wit_data.specs.declared.world.World.{World}
use Rattle.wit_queries.specs.Selection.{world_line}
use Rattle.wit_queries.proofs.selection.all_worlds.Given as goal

-- the lines so far
abbrev pub invariant-loop-world : goal.invariant-loop-world
invariant-loop-world l =
    string_bytes l.lines
    ≡ flat_map (λ (world : World).
    option_map_or (λ p. world_line (id_text l.graph.packages p world.name)) world.package
    []) (take l.world-index l.graph.worlds)
