use Rattle.std.proofs.Common.{◌≡◌, ◌++◌, drop, filter_map}
use Rattle.wit_ways.specs.Packages.{include_of}
use Rattle.wit_ways.proofs.package_arrow.add_own_includes.Given as goal

-- those so far, and those that are left
abbrev pub invariant-loop-include : goal.invariant-loop-include
invariant-loop-include l =
    l.includes ++ filter_map (include_of l.features l.offset l.«package» l.world) (drop l.include-index l.include-items)
    ≡ l.initial.includes ++ filter_map (include_of l.features l.offset l.«package» l.world) l.world.includes
