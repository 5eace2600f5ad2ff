use Rattle.wit_data.specs.facts.EachFacts.{EachBelow}
use Rattle.wit_data.specs.Entries.{ExportsAreAllowed}
use Rattle.wit_shape.proofs.worlds.exports.Given as goal

-- it holds of the first ones
abbrev pub invariant-loop-index : goal.invariant-loop-index
invariant-loop-index l = EachBelow l.index (λ _. ExportsAreAllowed l.interfaces) l.worlds
