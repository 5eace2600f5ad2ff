use Rattle.std.proofs.Common.{arith}
use Rattle.wit_merge_match.specs.steps.Differing.{merging_of}
use Rattle.wit_merge_match.specs.steps.Leaving.{PackageLeaves}
use Rattle.wit_merge_match.proofs.NothingChanges.{leave_all, leave_next}
use Rattle.wit_merge_spec.specs.Matches.{counterpart_package}
use Rattle.wit_merge_match.proofs.matched_graphs.MatchedGraphs.packages_stay.Goals as goal

pub loop-index-preserved : goal.loop-index-preserved
loop-index-preserved c = leave_next (counterpart_package (merging_of c.args.self.now)) c.args.self.now.other.now.packages c.args.self.now.graph.now.packages (PackageLeaves (merging_of c.args.self.now)) c.loop-index.index c.loop-index.invariant (c.package_stays.ensures c.if-not-package_stays.false)

pub returns : goal.returns
returns c = λ _. leave_all (counterpart_package (merging_of c.args.self.now)) c.args.self.now.other.now.packages c.args.self.now.graph.now.packages (PackageLeaves (merging_of c.args.self.now)) c.loop-index.index (omega arith) c.loop-index.invariant
