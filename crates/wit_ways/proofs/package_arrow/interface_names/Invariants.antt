use Rattle.std.proofs.Common.{◌≡◌, map}
use Rattle.std.specs.List.{range_with_len}
use Rattle.wit_ways.specs.Packages.{interface_name}
use Rattle.wit_ways.proofs.package_arrow.interface_names.Given as goal

abbrev pub invariant-loop-index : goal.invariant-loop-index
invariant-loop-index l = l.names ≡ map (interface_name l.«package») (range_with_len 0 l.index)
