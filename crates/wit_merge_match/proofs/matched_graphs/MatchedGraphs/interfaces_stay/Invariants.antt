use Rattle.wit_merge_match.specs.steps.Differing.{merging_of}
use Rattle.wit_merge_match.specs.steps.Leaving.{InterfaceLeaves}
use Rattle.wit_merge_match.proofs.NothingChanges.{LeaveBelow}
use Rattle.wit_merge_spec.specs.Matches.{counterpart_interface}
use Rattle.wit_merge_match.proofs.matched_graphs.MatchedGraphs.interfaces_stay.Given as goal

-- those with which the first ones are matched stay
abbrev pub invariant-loop-index : goal.invariant-loop-index
invariant-loop-index l = LeaveBelow (counterpart_interface (merging_of l.self)) l.self.other.now.interfaces l.self.graph.now.interfaces (InterfaceLeaves (merging_of l.self)) l.index
