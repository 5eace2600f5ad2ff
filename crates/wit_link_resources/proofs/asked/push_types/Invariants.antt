use Rattle.std.proofs.Common.{◌≡◌, ◌++◌}
use Rattle.std.specs.List.{flat_map, range_with_len}
use Rattle.wit_link_resources.proofs.NewPositions.{positions_at}
use Rattle.wit_link_resources.proofs.asked.push_types.Given as goal

abbrev pub invariant-loop-index : goal.invariant-loop-index
invariant-loop-index l = l.ids ≡ l.fn.ids ++ flat_map (positions_at l.incoming) (range_with_len 0 l.index)
