use Rattle.std.proofs.Common.{◌≡◌}
use Rattle.std.specs.List.{flat_map, range_with_len}
use Rattle.wit_ways.specs.TypeArrows.{references_of}
use Rattle.wit_ways.proofs.type_arrow.type_arrows.Given as goal

abbrev pub invariant-loop-index : goal.invariant-loop-index
invariant-loop-index l = l.arrows ≡ flat_map (references_of l.graph) (range_with_len 0 l.index)
