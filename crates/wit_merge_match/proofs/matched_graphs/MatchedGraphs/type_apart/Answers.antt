use Rattle.wit_data.specs.declared.types.TypeDef.{TypeDef}
use Rattle.wit_merge_match.specs.steps.Differing.{merging_of}
use Rattle.wit_merge_match.specs.steps.Stabilities.{AreApart}
use Rattle.wit_merge_match.proofs.Steps.{alike, if_none}
use Rattle.wit_merge_spec.specs.Matches.{counterpart_type}
use Rattle.wit_merge_match.proofs.matched_graphs.MatchedGraphs.type_apart.Goals as goal

pub returns-clause-none : goal.returns-clause-none
returns-clause-none c =
    let m = merging_of c.args.self.now in
    if_none
    (alike (counterpart_type m) m.other.types m.graph.types (λ (from into : TypeDef). AreApart from.stability into.stability) c.args.index c.in_ok-from.from.now c.in_ok-into.into.now c.in_ok-from.ensures c.in_ok-into.ensures)
    c.compare.result c.compare.ensures.none
