use Rattle.std.proofs.Common.{◌<◌}
use Rattle.wit_data.specs.facts.EachFacts.{EachBelow}
use Rattle.wit_data.specs.Foreign.{IsForeignType}
use Rattle.wit_data.specs.declared.types.TypeDef.{TypeDef}
use Rattle.wit_shape.specs.Faults.{foreign_interface_count}
use Rattle.wit_shape.specs.Faults.{unknown_count}
use Rattle.wit_shape.proofs.unknown.foreign_types.Given as goal

-- it holds of the first ones
abbrev pub invariant-loop-index : goal.invariant-loop-index
invariant-loop-index l = EachBelow l.index (λ i (def : TypeDef). i < unknown_count l.unresolved → IsForeignType (foreign_interface_count l.unresolved) def) l.unresolved.types
