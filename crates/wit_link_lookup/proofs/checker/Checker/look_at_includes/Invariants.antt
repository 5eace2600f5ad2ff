use Rattle.wit_data.specs.facts.EachFacts.{EachBelow}
use Rattle.wit_link_lookup.specs.steps.FeatureSteps.{IncludeStays}
use Rattle.wit_link_lookup.proofs.checker.Checker.look_at_includes.Given as goal

-- what the first ones need isn't left out
abbrev pub invariant-loop-include : goal.invariant-loop-include
invariant-loop-include l = EachBelow l.include-index (λ _. IncludeStays l.self) l.includes
