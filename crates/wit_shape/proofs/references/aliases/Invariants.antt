use Rattle.wit_data.specs.Ownership.{AliasesNamed}
use Rattle.wit_data.specs.facts.EachFacts.{EachBelow}
use Rattle.wit_shape.proofs.references.aliases.Given as goal

-- it holds of the first ones
abbrev pub invariant-loop-index : goal.invariant-loop-index
invariant-loop-index l = EachBelow l.index (λ _. AliasesNamed l.types l.interfaces) l.types
