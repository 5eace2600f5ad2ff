use Rattle.std.proofs.Common.{◌≡◌, ℕ, List}
use Rattle.wit_data.specs.facts.EachFacts.{EachBelow}
use Rattle.wit_data.specs.declared.function.Function.{Function}
use Rattle.wit_shape.proofs.owners.function_of_another_name.Given as goal

-- it holds of the first ones
abbrev pub invariant-loop-index : goal.invariant-loop-index
invariant-loop-index l = EachBelow l.index (λ _ (e : List ℕ × Function). e.1.name ≡ e.0) l.interface.functions
