use Rattle.std.proofs.Common.{arith}
use Rattle.wit_merge_match.specs.steps.Differing.{merging_of}
use Rattle.wit_merge_match.specs.steps.Leaving.{InterfaceLeaves}
use Rattle.wit_merge_match.proofs.NothingChanges.{leave_all, leave_next}
use Rattle.wit_merge_spec.specs.Matches.{counterpart_interface}
use Rattle.wit_merge_match.proofs.matched_graphs.MatchedGraphs.interfaces_stay.Goals as goal

pub loop-index-preserved : goal.loop-index-preserved
loop-index-preserved c = leave_next (counterpart_interface (merging_of c.args.self.now)) c.args.self.now.other.now.interfaces c.args.self.now.graph.now.interfaces (InterfaceLeaves (merging_of c.args.self.now)) c.loop-index.index c.loop-index.invariant (c.interface_stays.ensures c.if-not-interface_stays.false)

pub returns : goal.returns
returns c = λ _. leave_all (counterpart_interface (merging_of c.args.self.now)) c.args.self.now.other.now.interfaces c.args.self.now.graph.now.interfaces (InterfaceLeaves (merging_of c.args.self.now)) c.loop-index.index (omega arith) c.loop-index.invariant
