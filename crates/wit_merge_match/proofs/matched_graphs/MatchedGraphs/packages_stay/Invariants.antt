use Rattle.wit_merge_match.specs.steps.Differing.{merging_of}
use Rattle.wit_merge_match.specs.steps.Leaving.{PackageLeaves}
use Rattle.wit_merge_match.proofs.NothingChanges.{LeaveBelow}
use Rattle.wit_merge_spec.specs.Matches.{counterpart_package}
use Rattle.wit_merge_match.proofs.matched_graphs.MatchedGraphs.packages_stay.Given as goal

-- those with which the first ones are matched stay
abbrev pub invariant-loop-index : goal.invariant-loop-index
invariant-loop-index l = LeaveBelow (counterpart_package (merging_of l.self)) l.self.other.now.packages l.self.graph.now.packages (PackageLeaves (merging_of l.self)) l.index
