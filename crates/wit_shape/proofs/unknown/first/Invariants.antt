use Rattle.std.proofs.Common.{◌≡◌, ◌<◌}
use Rattle.std.specs.Prelude.{◌↔◌}
use Rattle.wit_data.specs.facts.EachFacts.{EachBelow}
use Rattle.wit_data.specs.declared.types.TypeDef.{TypeDef}
use Rattle.wit_data.specs.declared.types.TypeDefKind.TheVariants as kind
use Rattle.wit_shape.specs.Faults.{unknown_count}
use Rattle.wit_shape.proofs.unknown.first.Given as goal

-- it holds of the first ones
abbrev pub invariant-loop-index : goal.invariant-loop-index
invariant-loop-index l = EachBelow l.index (λ i (def : TypeDef). (def.kind ≡ kind.Unknown) ↔ (i < unknown_count l.unresolved)) l.unresolved.types
