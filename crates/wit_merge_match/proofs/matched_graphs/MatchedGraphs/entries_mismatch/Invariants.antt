use Rattle.std.proofs.Common.{length}
use Rattle.wit_merge_match.specs.steps.Differing.{merging_of}
use Rattle.wit_merge_match.proofs.Steps.{EntryDiffersAt, NoneBelow}
use Rattle.wit_merge_match.proofs.matched_graphs.MatchedGraphs.entries_mismatch.Given as goal

-- nothing is told of the first ones
abbrev pub invariant-loop-key : goal.invariant-loop-key
invariant-loop-key l = NoneBelow (EntryDiffersAt (merging_of l.self) l.word l.into l.from) (length l.yielded)
