use Rattle.wit_merge_match.specs.steps.Differing.{merging_of}
use Rattle.wit_merge_match.specs.steps.Leaving.{WorldLeaves}
use Rattle.wit_merge_match.proofs.NothingChanges.{LeaveBelow}
use Rattle.wit_merge_spec.specs.Matches.{counterpart_world}
use Rattle.wit_merge_match.proofs.matched_graphs.MatchedGraphs.worlds_stay.Given as goal

-- those with which the first ones are matched stay
abbrev pub invariant-loop-index : goal.invariant-loop-index
invariant-loop-index l = LeaveBelow (counterpart_world (merging_of l.self)) l.self.other.now.worlds l.self.graph.now.worlds (WorldLeaves (merging_of l.self)) l.index
