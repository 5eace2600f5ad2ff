use Rattle.std.proofs.Common.{sym, subst}
use Rattle.wit_link_spec.specs.Gates.{OptionalSpan}
use Rattle.wit_link_spec.specs.Reasons.{AnInterface, of_foreign_type}
use Rattle.wit_link_lookup.specs.steps.FeatureSteps.{IsReferred}
use Rattle.wit_link_lookup.proofs.checker.Checker.look_at_home.Goals as goal

pub look_at-requires-clause-referred : goal.look_at-requires-clause-referred
look_at-requires-clause-referred c =
    subst (λ (place : OptionalSpan). IsReferred c.args.self.now (AnInterface c.in-Interface.id) place) (sym c.unknown.ensures)
    (of_foreign_type c.requires.taken.t c.args.def.now c.in-Interface.id c.requires.taken.at c.requires.foreign c.requires.taken.active c.in-Interface.is)
