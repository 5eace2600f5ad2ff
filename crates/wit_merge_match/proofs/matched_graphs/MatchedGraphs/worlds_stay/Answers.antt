use Rattle.std.proofs.Common.{arith}
use Rattle.wit_merge_match.specs.steps.Differing.{merging_of}
use Rattle.wit_merge_match.specs.steps.Leaving.{WorldLeaves}
use Rattle.wit_merge_match.proofs.NothingChanges.{leave_all, leave_next}
use Rattle.wit_merge_spec.specs.Matches.{counterpart_world}
use Rattle.wit_merge_match.proofs.matched_graphs.MatchedGraphs.worlds_stay.Goals as goal

pub loop-index-preserved : goal.loop-index-preserved
loop-index-preserved c = leave_next (counterpart_world (merging_of c.args.self.now)) c.args.self.now.other.now.worlds c.args.self.now.graph.now.worlds (WorldLeaves (merging_of c.args.self.now)) c.loop-index.index c.loop-index.invariant (c.world_stays.ensures c.if-not-world_stays.false)

pub returns : goal.returns
returns c = λ _. leave_all (counterpart_world (merging_of c.args.self.now)) c.args.self.now.other.now.worlds c.args.self.now.graph.now.worlds (WorldLeaves (merging_of c.args.self.now)) c.loop-index.index (omega arith) c.loop-index.invariant
