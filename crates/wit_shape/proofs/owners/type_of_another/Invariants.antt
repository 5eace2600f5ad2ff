use Rattle.std.proofs.Common.{ℕ, List}
use Rattle.wit_data.specs.facts.EachFacts.{EachBelow}
use Rattle.wit_data.specs.declared.types.TypeOwner.TheVariants as owner
use Rattle.wit_data.specs.Ownership.{IsTypeOf}
use Rattle.wit_shape.proofs.owners.type_of_another.Given as goal

-- it holds of the first ones
abbrev pub invariant-loop-index : goal.invariant-loop-index
invariant-loop-index l = EachBelow l.index (λ _ (e : List ℕ × ℕ). IsTypeOf l.types (owner.Interface l.owner) e.0 e.1) l.interface.types
