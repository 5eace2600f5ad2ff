use Rattle.std.proofs.Common.{◌∙◌, sym}
use Rattle.wit_link_lookup.specs.steps.FeatureSteps.{thing_of}
use Rattle.wit_link_lookup.proofs.ReferencesStay.{told-excluded}
use Rattle.wit_link_lookup.proofs.checker.Checker.look_at.Goals as goal

pub returns-clause-cause : goal.returns-clause-cause
returns-clause-cause c =
    told-excluded c.args.self.now (thing_of c.args.needed) c.args.span c.in_ok-excluded.field-0 c.requires.referred (sym c.thing_is_active.ensures ∙ c.if-thing_is_active.false) c.in_ok-excluded.ensures
