use Rattle.wit_data.specs.facts.EachFacts.{EachBelow}
use Rattle.wit_link_lookup.specs.steps.FeatureSteps.{FunctionsStay}
use Rattle.wit_link_lookup.proofs.checker.Checker.look_at_interfaces.Given as goal

-- what the first ones need isn't left out
abbrev pub invariant-loop-index : goal.invariant-loop-index
invariant-loop-index l = EachBelow l.index (FunctionsStay l.self) l.self.addition.unresolved.now.interfaces
