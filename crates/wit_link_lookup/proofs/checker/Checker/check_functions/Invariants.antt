use Rattle.std.proofs.Common.{ℕ, List, length}
use Rattle.wit_data.specs.facts.EachFacts.{EachBelow}
use Rattle.wit_data.specs.declared.function.Function.{Function}
use Rattle.wit_link_lookup.specs.steps.FeatureSteps.{IsMet}
use Rattle.wit_link_lookup.proofs.checker.Checker.check_functions.Given as goal

-- the first ones are met
abbrev pub invariant-loop-function : goal.invariant-loop-function
invariant-loop-function l = EachBelow (length l.yielded) (λ _ (e : List ℕ × Function). IsMet l.self e.1.stability) l.functions
