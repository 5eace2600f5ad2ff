use Rattle.std.proofs.Common.{◌≡◌, ℕ, Option}
use Rattle.wit_data.specs.facts.EachFacts.{EachBelow}
use Rattle.wit_data.specs.Each.{SomeAt}
use Rattle.wit_data.specs.declared.types.TypeDef.{TypeDef}
use Rattle.wit_data.specs.declared.types.TypeDefKind.TheVariants as kind
use Rattle.wit_shape.proofs.unknown.required.Given as goal

-- it holds of the first ones
abbrev pub invariant-loop-index : goal.invariant-loop-index
invariant-loop-index l = EachBelow l.index (λ _ (r : ℕ × Option (ℕ × ℕ)). SomeAt l.unresolved.types r.0 (λ (def : TypeDef). def.kind ≡ kind.Unknown)) l.unresolved.required_resource_types
