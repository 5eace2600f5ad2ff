use Rattle.std.proofs.Common.{[], take, length}
use Rattle.std.specs.List.{flat_map}
use Rattle.wit_merge_match.specs.steps.Differing.{merging_of}
use Rattle.wit_merge_match.specs.steps.Structures.{IsOf, NoneDiffer}
use Rattle.wit_merge_spec.specs.Matches.{entry_pairs}
use Rattle.wit_merge_match.proofs.matched_graphs.MatchedGraphs.entries_differ.Given as goal

-- none of the first ones differ
abbrev pub invariant-loop-key : goal.invariant-loop-key
invariant-loop-key l = record {
  of : IsOf l.self l.comparison;
  none : NoneDiffer (merging_of l.self) (flat_map (entry_pairs (merging_of l.self) [] l.word l.into) (take (length l.yielded) l.from));
}
