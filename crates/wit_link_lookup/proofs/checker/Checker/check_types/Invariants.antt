use Rattle.wit_data.specs.facts.EachFacts.{EachBelow}
use Rattle.wit_data.specs.declared.types.TypeDef.{TypeDef}
use Rattle.wit_link_lookup.specs.steps.FeatureSteps.{IsMet}
use Rattle.wit_link_lookup.proofs.checker.Checker.check_types.Given as goal

-- the first ones are met
abbrev pub invariant-loop-def : goal.invariant-loop-def
invariant-loop-def l = EachBelow l.def-index (λ _ (def : TypeDef). IsMet l.self def.stability) l.self.addition.unresolved.now.types
