use Rattle.std.proofs.Common.{take, length}
use Rattle.std.specs.List.{flat_map}
use Rattle.wit_merge_match.specs.steps.Differing.{merging_of}
use Rattle.wit_merge_match.specs.steps.Structures.{IsOf, NoneDiffer, common_pair}
use Rattle.wit_merge_match.proofs.matched_graphs.MatchedGraphs.interface_differs.Given as goal

-- none of the first ones differ
abbrev pub invariant-loop-name : goal.invariant-loop-name
invariant-loop-name l = record {
  of : IsOf l.self l.comparison;
  none : NoneDiffer (merging_of l.self) (flat_map (common_pair l.into.types) (take (length l.yielded) l.initial.name-iterator));
}
