use Rattle.wit_data.specs.facts.EachFacts.{EachBelow}
use Rattle.wit_data.specs.Entries.{ImportsAreAllowed}
use Rattle.wit_shape.proofs.worlds.imports.Given as goal

-- it holds of the first ones
abbrev pub invariant-loop-index : goal.invariant-loop-index
invariant-loop-index l = EachBelow l.index (ImportsAreAllowed l.interfaces l.types) l.worlds
