use Rattle.std.proofs.Common.{arith, string_bytes}
use Rattle.std.proofs.lemmas.Option.{IfSome_then}
use Rattle.std.proofs.lemmas.Result.{IfOk-weaker}
use Rattle.wit_merge_spec.specs.Matches.{counterpart_interface, counterpart_world}
use Rattle.wit_merge_match.specs.steps.Differing.{InterfaceDiffersAt, InterfacesDiffer, WorldDiffersAt, WorldsDiffer}
use Rattle.wit_merge_match.specs.steps.Matched.{merge_of_graphs}
use Rattle.wit_merge_match.proofs.Steps.{are_one, if_none, interface_differs, none_anywhere, none_next, types_differ, world_differs}
use Rattle.wit_merge_match.proofs.mismatch.find_mismatch.Goals as goal

pub structures_mismatch-requires : goal.structures_mismatch-requires
structures_mismatch-requires c = record { known = c.requires.matches; graph = c.requires.graph; other = c.requires.other }

pub returns-in-Some-clause-some : goal.returns-in-Some-clause-some
returns-in-Some-clause-some c = interface_differs (merge_of_graphs c.args.graph.now c.args.other.now) c.loop-index.index _ (rw c.in-Some.is at c.in_ok-message.ensures.some)

pub loop-index-preserved : goal.loop-index-preserved
loop-index-preserved c = none_next (InterfaceDiffersAt (merge_of_graphs c.args.graph.now c.args.other.now)) c.loop-index.index c.loop-index.invariant (rw c.in_default.is at c.in_ok-message.ensures.none)

pub returns-in-Some-2-clause-some : goal.returns-in-Some-2-clause-some
returns-in-Some-2-clause-some c = world_differs (merge_of_graphs c.args.graph.now c.args.other.now) c.loop-index-2.index _ (rw c.in-Some-2.is at c.in_ok-message-2.ensures.some)

pub loop-index-2-preserved : goal.loop-index-2-preserved
loop-index-2-preserved c = none_next (WorldDiffersAt (merge_of_graphs c.args.graph.now c.args.other.now)) c.loop-index-2.index c.loop-index-2.invariant (rw c.in_default-2.is at c.in_ok-message-2.ensures.none)

pub returns-clause-some : goal.returns-clause-some
returns-clause-some c =
    IfOk-weaker c.structures_mismatch.result _ _ (λ found some. IfSome_then found some (λ message first. types_differ (merge_of_graphs c.args.graph.now c.args.other.now) (string_bytes message) first)) c.structures_mismatch.ensures.some

pub returns-clause-none : goal.returns-clause-none
returns-clause-none c =
    let m = merge_of_graphs c.args.graph.now c.args.other.now in
    let interfaces = none_anywhere (counterpart_interface m) m.other.interfaces m.graph.interfaces (InterfacesDiffer m) c.loop-index.index (omega arith) c.loop-index.invariant in
    let worlds = none_anywhere (counterpart_world m) m.other.worlds m.graph.worlds (WorldsDiffer m) c.loop-index-2.index (omega arith) c.loop-index-2.invariant in
    IfOk-weaker c.structures_mismatch.result _ _ (λ found. if_none (are_one m interfaces worlds) found) c.structures_mismatch.ensures.none
