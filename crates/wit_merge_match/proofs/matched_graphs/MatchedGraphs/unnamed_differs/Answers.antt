use Rattle.std.proofs.Common.{◌≡◌, None, Some, rules, slice_get, string_bytes}
use Rattle.std.proofs.lemmas.Option.{IfSome_then}
use Rattle.std.proofs.lemmas.Result.{IfOk-weaker}
use Rattle.wit_merge_match.specs.steps.Differing.{merging_of}
use Rattle.wit_merge_match.proofs.PairSteps.{first_is, named_is, none_is, none_same, unnamed_absent, unnamed_is}
use Rattle.wit_merge_match.proofs.Steps.{if_none}
use Rattle.wit_merge_match.proofs.matched_graphs.MatchedGraphs.unnamed_differs.Goals as goal

pub returns-in_default-clause-none : goal.returns-in_default-clause-none
returns-in_default-clause-none c =
    let is : None ≡ slice_get c.args.self.now.other.now.interfaces c.args.id = search rules in
    none_is (merging_of c.args.self.now) _ (unnamed_absent (merging_of c.args.self.now) c.args.id is)

pub returns-in-Some-name-clause-none : goal.returns-in-Some-name-clause-none
returns-in-Some-name-clause-none c =
    let is : Some c.in-Some.interface.now ≡ slice_get c.args.self.now.other.now.interfaces c.args.id = search rules in
    none_is (merging_of c.args.self.now) _ (named_is (merging_of c.args.self.now) c.args.id c.in-Some.interface.now _ is c.in-Some-name.is)

pub returns-in-None-clause-some : goal.returns-in-None-clause-some
returns-in-None-clause-some c =
    let is : Some c.in-Some.interface.now ≡ slice_get c.args.self.now.other.now.interfaces c.args.id = search rules in
    IfOk-weaker c.interface_differs.result _ _ (λ found some. IfSome_then found some (λ text first. first_is (merging_of c.args.self.now) _ _ (unnamed_is (merging_of c.args.self.now) c.args.id c.in-Some.interface.now is c.in-None.is) (string_bytes text) first)) c.interface_differs.ensures.some

pub returns-in-None-clause-none : goal.returns-in-None-clause-none
returns-in-None-clause-none c =
    let is : Some c.in-Some.interface.now ≡ slice_get c.args.self.now.other.now.interfaces c.args.id = search rules in
    IfOk-weaker c.interface_differs.result _ _ (λ found. if_none (none_same (merging_of c.args.self.now) _ _ (unnamed_is (merging_of c.args.self.now) c.args.id c.in-Some.interface.now is c.in-None.is)) found) c.interface_differs.ensures.none
