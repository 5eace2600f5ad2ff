use Rattle.std.proofs.Common.{◌≡◌, filter_map, take}
use Rattle.std.specs.List.{flat_map}
use Rattle.wit_data.specs.Entries.{Entry}
use Rattle.wit_data.specs.declared.world.World.{World}
use Rattle.wit_ways.specs.Arrows.{dependency_of, home_text, listed_by}
use Rattle.wit_ways.proofs.graph_arrow.world_dependencies.Given as goal

-- those of the first worlds
abbrev pub invariant-loop-world : goal.invariant-loop-world
invariant-loop-world l =
    l.arrows
    ≡ flat_map (λ (world : World). filter_map (λ (e : Entry). dependency_of l.offset l.graph l.homes (home_text l.graph.packages world.«package») e.1) (listed_by l.side world)) (take l.world-index l.world-items)
