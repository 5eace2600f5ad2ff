use Rattle.std.proofs.Common.{◌≡◌}
use Rattle.std.specs.List.{flat_map, range_with_len}
use Rattle.wit_ways.specs.Arrows.{package_arrows}
use Rattle.wit_ways.proofs.graph_arrow.dependencies_in.Given as goal

abbrev pub invariant-loop-index : goal.invariant-loop-index
invariant-loop-index l = l.arrows ≡ flat_map (package_arrows l.graph) (range_with_len 0 l.index)
