use Rattle.std.proofs.Common.{◌∙◌, sym}
use Rattle.wit_link_lookup.specs.steps.FeatureSteps.{thing_of}
use Rattle.wit_link_lookup.proofs.ReferencesStay.{told-owner}
use Rattle.wit_link_lookup.proofs.checker.Checker.look_at_owner.Goals as goal

pub returns-in_ok-excluded_owner-in-Some-clause-cause : goal.returns-in_ok-excluded_owner-in-Some-clause-cause
returns-in_ok-excluded_owner-in-Some-clause-cause c =
    told-owner c.args.self.now c.args.def.now (thing_of c.in-Some.owner) c.in_ok-excluded_owner-in-Some.field-0 c.requires.taken c.requires.own (sym c.in-Some.ensures)
    (sym c.thing_is_active.ensures ∙ c.if-thing_is_active.false) c.in_ok-excluded_owner-in-Some.ensures
