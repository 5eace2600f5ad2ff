use Rattle.wit_data.specs.facts.EachFacts.{EachBelow}
use Rattle.wit_data.specs.declared.world.WorldInclude.{WorldInclude}
use Rattle.wit_link_lookup.specs.steps.FeatureSteps.{IsMet}
use Rattle.wit_link_lookup.proofs.checker.Checker.check_includes.Given as goal

-- the first ones are met
abbrev pub invariant-loop-include : goal.invariant-loop-include
invariant-loop-include l = EachBelow l.include-index (λ _ (i : WorldInclude). IsMet l.self i.stability) l.includes
