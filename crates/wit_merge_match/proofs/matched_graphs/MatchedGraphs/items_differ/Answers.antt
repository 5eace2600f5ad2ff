use Rattle.std.proofs.Common.{[], ap}
use Rattle.std.proofs.lemmas.Result.{IfOk-weaker}
use Rattle.wit_data.specs.declared.world.WorldItem.{WorldItem}
use Rattle.wit_merge_spec.specs.Matches.{item_pairs}
use Rattle.wit_merge_match.specs.steps.Differing.{merging_of}
use Rattle.wit_merge_match.proofs.PairSteps.{none_same, types_is}
use Rattle.wit_merge_match.proofs.Steps.{if_none}
use Rattle.wit_merge_match.proofs.matched_graphs.MatchedGraphs.items_differ.Goals as goal

pub returns-in-Type_-into-clause-none : goal.returns-in-Type_-into-clause-none
returns-in-Type_-into-clause-none c =
    let m = merging_of c.args.self.now in
    IfOk-weaker c.types_differ.result _ _
    (λ found. if_none (none_same m _ _ (types_is m c.args.label.now c.args.from.now c.args.into.now c.in-Type_.id c.in-Type_-into.there c.in-Type_.span c.in-Type_-into.span c.in-Type_.is c.in-Type_-into.is)) found)
    c.types_differ.ensures.none

pub returns-in-Interface-clause-none : goal.returns-in-Interface-clause-none
returns-in-Interface-clause-none c =
    let m = merging_of c.args.self.now in
    IfOk-weaker c.unnamed_differs.result _ _
    (λ found. if_none (none_same m _ _ (ap (λ (held : WorldItem). item_pairs m [] c.args.label.now held c.args.into.now) c.in-Interface.is)) found)
    c.unnamed_differs.ensures.none
