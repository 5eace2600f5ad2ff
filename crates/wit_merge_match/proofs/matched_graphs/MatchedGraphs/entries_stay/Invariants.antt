use Rattle.std.proofs.Common.{◌≡◌, ◌<◌, ℕ, Some, length, slice_get}
use Rattle.wit_data.specs.Entries.{Entry}
use Rattle.wit_merge_match.specs.steps.Differing.{merging_of}
use Rattle.wit_merge_match.specs.steps.Leaving.{EntryLeaves}
use Rattle.wit_merge_match.proofs.matched_graphs.MatchedGraphs.entries_stay.Given as goal

-- those under the keys of the first ones stay
abbrev pub invariant-loop-key : goal.invariant-loop-key
invariant-loop-key l = (k : ℕ) → k < length l.yielded → (e : Entry) → slice_get l.from k ≡ Some e → EntryLeaves (merging_of l.self) l.into e.0 e.1
