use Rattle.std.proofs.Common.{◌≡◌, ◌++◌, filter_map, take}
use Rattle.std.specs.List.{flat_map}
use Rattle.wit_data.specs.declared.world.World.{World}
use Rattle.wit_ways.specs.Packages.{include_of}
use Rattle.wit_ways.proofs.package_arrow.add_includes.Given as goal

-- those of the first worlds are noted
abbrev pub invariant-loop-world : goal.invariant-loop-world
invariant-loop-world l =
    l.includes ≡ l.initial.includes ++ flat_map (λ (world : World). filter_map (include_of l.features l.offset l.«package» world) world.includes) (take l.world-index l.world-items)
