use Rattle.std.proofs.Common.{Some, codes}
use Rattle.wit_merge_spec.specs.Matches.{counterpart_world}
use Rattle.wit_merge_match.specs.steps.Differing.{SidesDiffer, WorldsDiffer, merging_of}
use Rattle.wit_merge_match.proofs.Steps.{alike, part_alike}
use Rattle.wit_merge_match.proofs.matched_graphs.MatchedGraphs.world_mismatch.Goals as goal

pub returns-in-None-clause-none : goal.returns-in-None-clause-none
returns-in-None-clause-none c =
    let m = merging_of c.args.self.now in
    let from = c.in-Some.from.now in
    let into = c.in-Some-matched_world.into.now in
    alike (counterpart_world m) m.other.worlds m.graph.worlds (WorldsDiffer m) c.args.index from into c.in-Some.ensures c.in-Some-matched_world.ensures
    (part_alike m.other.packages (codes "world") from.package (Some from.name) (SidesDiffer m from into) (rw c.in-None.is at c.in_ok-text.ensures.none))
