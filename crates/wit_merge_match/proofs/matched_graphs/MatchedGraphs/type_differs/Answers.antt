use Rattle.std.proofs.Common.{string_bytes}
use Rattle.std.proofs.lemmas.Option.{IfSome_then}
use Rattle.std.proofs.lemmas.Result.{IfOk-weaker}
use Rattle.wit_merge_match.specs.steps.Differing.{merging_of}
use Rattle.wit_merge_match.proofs.PairSteps.{common_absent, common_is, first_is, none_is, none_same}
use Rattle.wit_merge_match.proofs.Steps.{if_none}
use Rattle.wit_merge_match.proofs.TypesCompared.{found_there}
use Rattle.wit_merge_match.proofs.matched_graphs.MatchedGraphs.type_differs.Goals as goal

pub types_differ-requires-clause-into : goal.types_differ-requires-clause-into
types_differ-requires-clause-into c =
    found_there c.args.self.now.graph.now.types c.args.others.now c.requires.others c.args.name.now c.in-Some.into.now c.in-Some.ensures

pub returns-in-Some-clause-some : goal.returns-in-Some-clause-some
returns-in-Some-clause-some c =
    IfOk-weaker c.types_differ.result _ _ (λ found some. IfSome_then found some (λ text first. first_is (merging_of c.args.self.now) _ _ (common_is (merging_of c.args.self.now) c.args.others.now (c.args.name.now, c.args.from) c.in-Some.into.now c.in-Some.ensures) (string_bytes text) first)) c.types_differ.ensures.some

pub returns-in-Some-clause-none : goal.returns-in-Some-clause-none
returns-in-Some-clause-none c =
    IfOk-weaker c.types_differ.result _ _ (λ found. if_none (none_same (merging_of c.args.self.now) _ _ (common_is (merging_of c.args.self.now) c.args.others.now (c.args.name.now, c.args.from) c.in-Some.into.now c.in-Some.ensures)) found) c.types_differ.ensures.none

pub returns-in-None-clause-none : goal.returns-in-None-clause-none
returns-in-None-clause-none c =
    none_is (merging_of c.args.self.now) _ (common_absent (merging_of c.args.self.now) c.args.others.now (c.args.name.now, c.args.from) c.in-None.ensures)
