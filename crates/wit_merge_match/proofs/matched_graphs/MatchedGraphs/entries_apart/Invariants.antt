use Rattle.std.proofs.Common.{length}
use Rattle.wit_merge_match.specs.steps.Differing.{merging_of}
use Rattle.wit_merge_match.proofs.Apart.{EntryApartAt}
use Rattle.wit_merge_match.proofs.Steps.{NoneBelow}
use Rattle.wit_merge_match.proofs.matched_graphs.MatchedGraphs.entries_apart.Given as goal

-- the first ones can be joined
abbrev pub invariant-loop-key : goal.invariant-loop-key
invariant-loop-key l = NoneBelow (EntryApartAt (merging_of l.self) l.from l.into) (length l.yielded)
