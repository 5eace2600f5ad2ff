use Rattle.wit_data.specs.facts.EachFacts.{EachBelow}
use Rattle.wit_link_spec.specs.Reasons.{AType}
use Rattle.wit_link_lookup.specs.steps.FeatureSteps.{Stays}
use Rattle.wit_link_lookup.proofs.checker.Checker.look_at_ids.Given as goal

-- the first ones aren't left out
abbrev pub invariant-loop-id : goal.invariant-loop-id
invariant-loop-id l = EachBelow l.id-index (λ _ t. Stays l.self (AType t)) l.ids
