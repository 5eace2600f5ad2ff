use Rattle.wit_data.specs.facts.EachFacts.{EachBelow}
use Rattle.wit_data.specs.Ownership.{ListsOwn}
use Rattle.wit_shape.proofs.owners.own_types.Given as goal

-- it holds of the first ones
abbrev pub invariant-loop-index : goal.invariant-loop-index
invariant-loop-index l = EachBelow l.index (ListsOwn l.types) l.interfaces
