use Rattle.wit_data.specs.facts.EachFacts.{EachBelow}
use Rattle.wit_link_lookup.specs.steps.FeatureSteps.{TypesStay}
use Rattle.wit_link_lookup.proofs.checker.Checker.look_at_types.Given as goal

-- what the first ones need isn't left out
abbrev pub invariant-loop-index : goal.invariant-loop-index
invariant-loop-index l = EachBelow l.index (TypesStay l.self) l.self.addition.unresolved.now.types
