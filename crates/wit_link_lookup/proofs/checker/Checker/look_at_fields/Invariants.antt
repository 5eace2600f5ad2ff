use Rattle.wit_data.specs.facts.EachFacts.{EachBelow}
use Rattle.wit_link_lookup.specs.steps.FeatureSteps.{FieldStays}
use Rattle.wit_link_lookup.proofs.checker.Checker.look_at_fields.Given as goal

-- what the first ones name isn't left out
abbrev pub invariant-loop-field : goal.invariant-loop-field
invariant-loop-field l = EachBelow l.field-index (λ _. FieldStays l.self) l.fields
