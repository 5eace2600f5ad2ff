use Rattle.std.proofs.Common.{arith}
use Rattle.wit_merge_match.specs.steps.Differing.{merging_of}
use Rattle.wit_merge_match.specs.steps.Leaving.{TypeLeaves}
use Rattle.wit_merge_match.proofs.NothingChanges.{leave_all, leave_next}
use Rattle.wit_merge_spec.specs.Matches.{counterpart_type}
use Rattle.wit_merge_match.proofs.matched_graphs.MatchedGraphs.types_stay.Goals as goal

pub loop-index-preserved : goal.loop-index-preserved
loop-index-preserved c = leave_next (counterpart_type (merging_of c.args.self.now)) c.args.self.now.other.now.types c.args.self.now.graph.now.types TypeLeaves c.loop-index.index c.loop-index.invariant (c.type_stays.ensures c.if-not-type_stays.false)

pub returns : goal.returns
returns c = λ _. leave_all (counterpart_type (merging_of c.args.self.now)) c.args.self.now.other.now.types c.args.self.now.graph.now.types TypeLeaves c.loop-index.index (omega arith) c.loop-index.invariant
