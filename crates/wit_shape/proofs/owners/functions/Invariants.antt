use Rattle.wit_data.specs.facts.EachFacts.{EachBelow}
use Rattle.wit_data.specs.Ownership.{NamesFunctions}
use Rattle.wit_shape.proofs.owners.functions.Given as goal

-- it holds of the first ones
abbrev pub invariant-loop-index : goal.invariant-loop-index
invariant-loop-index l = EachBelow l.index (λ _. NamesFunctions) l.interfaces
