use Rattle.wit_merge_match.specs.steps.Differing.{merging_of}
use Rattle.wit_merge_match.specs.steps.Leaving.{TypeLeaves}
use Rattle.wit_merge_match.proofs.NothingChanges.{LeaveBelow}
use Rattle.wit_merge_spec.specs.Matches.{counterpart_type}
use Rattle.wit_merge_match.proofs.matched_graphs.MatchedGraphs.types_stay.Given as goal

-- those with which the first ones are matched stay
abbrev pub invariant-loop-index : goal.invariant-loop-index
invariant-loop-index l = LeaveBelow (counterpart_type (merging_of l.self)) l.self.other.now.types l.self.graph.now.types TypeLeaves l.index
