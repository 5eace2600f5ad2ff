use Rattle.std.proofs.Common.{◌<◌}
use Rattle.wit_data.specs.facts.EachFacts.{EachBelow}
use Rattle.wit_data.specs.Each.{Each}
use Rattle.wit_data.specs.declared.types.TypeDef.{TypeDef}
use Rattle.wit_data.specs.Kind.{referred}
use Rattle.wit_shape.proofs.references.earlier.Given as goal

-- it holds of the first ones
abbrev pub invariant-loop-index : goal.invariant-loop-index
invariant-loop-index l = EachBelow l.index (λ i (def : TypeDef). Each (λ id. id < i) (referred def.kind)) l.unresolved.types
