use Rattle.wit_data.specs.facts.EachFacts.{EachBelow}
use Rattle.wit_data.specs.Ownership.{FunctionsUseOwn}
use Rattle.wit_shape.proofs.own.functions.Given as goal

-- it holds of the first ones
abbrev pub invariant-loop-index : goal.invariant-loop-index
invariant-loop-index l = EachBelow l.index (FunctionsUseOwn l.types) l.interfaces
