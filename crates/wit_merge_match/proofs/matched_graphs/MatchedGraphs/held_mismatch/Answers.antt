use Rattle.std.proofs.Common.{sym}
use Rattle.std.proofs.lemmas.Option.{IfSome_then}
use Rattle.std.proofs.lemmas.Result.{IfOk-weaker}
use Rattle.wit_merge_match.specs.steps.Differing as differing
use Rattle.wit_merge_match.specs.steps.Differing.{merging_of}
use Rattle.wit_merge_match.proofs.Steps.{held_alike, if_none}
use Rattle.wit_merge_match.proofs.matched_graphs.MatchedGraphs.held_mismatch.Goals as goal

pub returns-in-None-clause-some : goal.returns-in-None-clause-some
returns-in-None-clause-some c =
    IfOk-weaker c.interface_mismatch.result _ _
    (λ found some. IfSome_then found some (λ text have. differing.unnamed c.in-Some.from.now c.in-Some-get.into.now (sym c.in-Some.ensures) (sym c.in-Some-get.ensures) (c.are_matched.ensures.0 c.if-not-are_matched.false) c.in-None.is have))
    c.interface_mismatch.ensures.some

pub returns-in-None-clause-none : goal.returns-in-None-clause-none
returns-in-None-clause-none c =
    let m = merging_of c.args.self.now in
    IfOk-weaker c.interface_mismatch.result _ _
    (λ found. if_none (λ agree. held_alike m c.args.id c.args.there (c.are_matched.ensures.0 c.if-not-are_matched.false) c.in-Some.from.now c.in-Some-get.into.now c.in-Some.ensures c.in-Some-get.ensures (λ nameless. agree)) found)
    c.interface_mismatch.ensures.none
