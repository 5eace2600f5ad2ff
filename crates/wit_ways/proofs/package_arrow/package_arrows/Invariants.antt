use Rattle.std.proofs.Common.{◌≡◌, ◌++◌, take}
use Rattle.std.specs.List.{flat_map}
use Rattle.wit_ways.specs.Arrows.{uses_in, world_arrows}
use Rattle.wit_ways.specs.Packages.{interface_names}
use Rattle.wit_ways.specs.declared.entries.WorldSide.TheVariants.{Exports}
use Rattle.wit_ways.proofs.package_arrow.package_arrows.Given as goal

-- the uses, and the exports of the first worlds
abbrev pub invariant-loop-world : goal.invariant-loop-world
invariant-loop-world l =
    l.arrows
    ≡ uses_in l.features l.offset l.«package».types l.«package».interfaces (interface_names l.«package»)
    ++ flat_map (world_arrows l.features l.offset (interface_names l.«package») Exports l.«package».name) (take l.world-index l.world-items)
