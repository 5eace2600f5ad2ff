use Rattle.std.proofs.Common.{◌≡◌}
use Rattle.std.specs.List.{flat_map, range_with_len}
use Rattle.wit_ways.specs.Arrows.{interface_arrows}
use Rattle.wit_ways.proofs.uses.uses_in.Given as goal

abbrev pub invariant-loop-index : goal.invariant-loop-index
invariant-loop-index l = l.arrows ≡ flat_map (interface_arrows l.features l.offset l.types l.interfaces l.names) (range_with_len 0 l.index)
