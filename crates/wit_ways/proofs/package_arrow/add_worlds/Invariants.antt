use Rattle.std.proofs.Common.{◌≡◌, ◌++◌, filter_map}
use Rattle.std.specs.List.{range_with_len}
use Rattle.wit_ways.specs.Packages.{package_world}
use Rattle.wit_ways.proofs.package_arrow.add_worlds.Given as goal

-- the first ones are noted
abbrev pub invariant-loop-index : goal.invariant-loop-index
invariant-loop-index l = l.places ≡ l.initial.places ++ filter_map (package_world l.offset l.«package») (range_with_len 0 l.index)
