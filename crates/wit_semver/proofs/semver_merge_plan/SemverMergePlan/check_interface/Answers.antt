use Rattle.std.proofs.Common.{◌∙◌, inr, slice_get, sym, ap, subst}
use Rattle.wit_remap_spec.specs.FunctionMismatch.{HaveFunctionMismatch}
use Rattle.wit_semver.specs.steps.Replacing.{semver_merge_of}
use Rattle.wit_semver.proofs.Used.{they_agree, they_disagree}
use Rattle.wit_semver.proofs.semver_merge_plan.SemverMergePlan.check_interface.Goals as goal

pub returns-in_ok-functions_disagree-in-Some-2-clause-cause : goal.returns-in_ok-functions_disagree-in-Some-2-clause-cause
returns-in_ok-functions_disagree-in-Some-2-clause-cause c =
    let u = semver_merge_of c.args.self.now in
    let interfaces = c.args.self.now.graph.now.interfaces in
    let from = c.in-Some-get.from.now in
    let into = c.in-Some-get-2.into.now in
    let from_is = ap (slice_get interfaces) (sym c.index.ensures) ∙ sym c.in-Some-get.ensures in
    let into_is = ap (slice_get interfaces) (sym c.index-2.ensures) ∙ sym c.in-Some-get-2.ensures in
    let have = rw c.in-Some-2.is at c.in_ok-mismatch.ensures.some in
    let here = subst (HaveFunctionMismatch from into) (sym c.deref.ensures) have in
    inr (_, they_disagree u c.args.self.now.replaced c.requires.ready c.args.old c.in-Some.new c.in-Some.ensures from into from_is into_is c.deref.result.now here, c.in_ok-functions_disagree-in-Some-2.ensures.error)

pub returns-in-None-clause-agree : goal.returns-in-None-clause-agree
returns-in-None-clause-agree c =
    let u = semver_merge_of c.args.self.now in
    let interfaces = c.args.self.now.graph.now.interfaces in
    let from_is = ap (slice_get interfaces) (sym c.index.ensures) ∙ sym c.in-Some-get.ensures in
    let into_is = ap (slice_get interfaces) (sym c.index-2.ensures) ∙ sym c.in-Some-get-2.ensures in
    let agree = rw c.in-None.is at c.in_ok-mismatch.ensures.none in
    they_agree u c.args.self.now.replaced c.requires.ready c.args.old c.in-Some.new c.in-Some.ensures c.in-Some-get.from.now c.in-Some-get-2.into.now from_is into_is agree
