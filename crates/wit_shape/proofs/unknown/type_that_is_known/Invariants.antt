use Rattle.std.proofs.Common.{◌<◌, ℕ, List}
use Rattle.wit_data.specs.facts.EachFacts.{EachBelow}
use Rattle.wit_shape.proofs.unknown.type_that_is_known.Given as goal

-- it holds of the first ones
abbrev pub invariant-loop-index : goal.invariant-loop-index
invariant-loop-index l = EachBelow l.index (λ _ (e : List ℕ × ℕ). l.interface_index < l.foreign → e.1 < l.unknown) l.interface.types
