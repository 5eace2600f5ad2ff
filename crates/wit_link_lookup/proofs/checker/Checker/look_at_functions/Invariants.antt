use Rattle.std.proofs.Common.{ℕ, List, length}
use Rattle.wit_data.specs.facts.EachFacts.{EachBelow}
use Rattle.wit_data.specs.declared.function.Function.{Function}
use Rattle.wit_link_lookup.specs.steps.FeatureSteps.{FunctionStays}
use Rattle.wit_link_lookup.proofs.checker.Checker.look_at_functions.Given as goal

-- what the first ones need isn't left out
abbrev pub invariant-loop-function : goal.invariant-loop-function
invariant-loop-function l = EachBelow (length l.yielded) (λ _ (e : List ℕ × Function). FunctionStays l.self e.1) l.functions
