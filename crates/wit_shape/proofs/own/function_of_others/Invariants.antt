use Rattle.std.proofs.Common.{ℕ, List}
use Rattle.wit_data.specs.facts.EachFacts.{EachBelow}
use Rattle.wit_data.specs.declared.function.Function.{Function}
use Rattle.wit_data.specs.declared.types.TypeOwner.TheVariants as owner
use Rattle.wit_data.specs.Ownership.{UsesOwn}
use Rattle.wit_shape.proofs.own.function_of_others.Given as goal

-- it holds of the first ones
abbrev pub invariant-loop-index : goal.invariant-loop-index
invariant-loop-index l = EachBelow l.index (λ _ (e : List ℕ × Function). UsesOwn l.types (owner.Interface l.owner) e.1) l.interface.functions
