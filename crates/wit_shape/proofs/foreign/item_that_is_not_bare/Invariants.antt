use Rattle.wit_data.specs.facts.EachFacts.{EachBelow}
use Rattle.wit_data.specs.Foreign.{IsForeign}
use Rattle.wit_shape.proofs.foreign.item_that_is_not_bare.Given as goal

-- it holds of the first ones
abbrev pub invariant-loop-index : goal.invariant-loop-index
invariant-loop-index l = EachBelow l.index (λ _. IsForeign l.interfaces l.worlds) l.named
