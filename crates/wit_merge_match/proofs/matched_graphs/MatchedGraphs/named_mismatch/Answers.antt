use Rattle.std.proofs.Common.{codes}
use Rattle.wit_remap_spec.specs.FunctionMismatch.{HaveFunctionMismatch}
use Rattle.wit_merge_spec.specs.Matches.{counterpart_interface}
use Rattle.wit_merge_match.specs.steps.Differing.{InterfacesDiffer, merging_of}
use Rattle.wit_merge_match.proofs.Steps.{alike, part_alike}
use Rattle.wit_merge_match.proofs.matched_graphs.MatchedGraphs.named_mismatch.Goals as goal

pub returns-in-None-clause-none : goal.returns-in-None-clause-none
returns-in-None-clause-none c =
    let m = merging_of c.args.self.now in
    let from = c.in-Some.from.now in
    let into = c.in-Some-matched_interface.into.now in
    alike (counterpart_interface m) m.other.interfaces m.graph.interfaces (InterfacesDiffer m) c.args.index from into c.in-Some.ensures c.in-Some-matched_interface.ensures
    (part_alike m.other.packages (codes "interface") from.package from.name (HaveFunctionMismatch from into) (rw c.in-None.is at c.in_ok-text.ensures.none))
