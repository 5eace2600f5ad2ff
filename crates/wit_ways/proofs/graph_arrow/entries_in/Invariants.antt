use Rattle.std.proofs.Common.{◌≡◌, [], take}
use Rattle.std.specs.List.{flat_map}
use Rattle.std.specs.Option.{option_map_or}
use Rattle.wit_data.specs.declared.world.World.{World}
use Rattle.wit_ways.specs.Arrows.{home_of, world_arrows}
use Rattle.wit_ways.proofs.graph_arrow.entries_in.Given as goal

-- those of the first worlds
abbrev pub invariant-loop-world : goal.invariant-loop-world
invariant-loop-world l =
    l.arrows
    ≡ flat_map (λ (world : World). option_map_or (λ home. world_arrows l.features l.offset l.names l.side home world) (home_of l.graph.packages world.«package») []) (take l.world-index l.world-items)
