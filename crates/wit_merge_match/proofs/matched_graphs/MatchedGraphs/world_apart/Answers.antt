use Rattle.wit_merge_match.specs.steps.Differing.{merging_of}
use Rattle.wit_merge_match.specs.steps.Stabilities.{WorldsApart}
use Rattle.wit_merge_match.proofs.Steps.{alike, if_none}
use Rattle.wit_merge_spec.specs.Matches.{counterpart_world}
use Rattle.wit_merge_match.proofs.matched_graphs.MatchedGraphs.world_apart.Goals as goal

pub returns-clause-none : goal.returns-clause-none
returns-clause-none c =
    let m = merging_of c.args.self.now in
    if_none
    (alike (counterpart_world m) m.other.worlds m.graph.worlds (WorldsApart m) c.args.index c.in_ok-from.from.now c.in_ok-into.into.now c.in_ok-from.ensures c.in_ok-into.ensures)
    c.lists_apart.result c.lists_apart.ensures.none
