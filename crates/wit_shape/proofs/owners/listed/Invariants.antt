use Rattle.wit_data.specs.facts.EachFacts.{EachBelow}
use Rattle.wit_data.specs.declared.types.TypeDef.{TypeDef}
use Rattle.wit_data.specs.Ownership.{IsListed}
use Rattle.wit_shape.proofs.owners.listed.Given as goal

-- it holds of the first ones
abbrev pub invariant-loop-index : goal.invariant-loop-index
invariant-loop-index l = EachBelow l.index (λ i (def : TypeDef). IsListed l.interfaces l.worlds i def.name def.owner) l.types
