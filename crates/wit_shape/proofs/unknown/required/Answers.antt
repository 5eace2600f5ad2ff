use Rattle.std.proofs.Common.{◌≡◌, ℕ, Option, refl}
use Rattle.wit_data.specs.Each.{SomeAt}
use Rattle.wit_data.specs.facts.EachFacts.{all_of, more}
use Rattle.wit_shape.specs.facts.Found.{ended, first_at, read}
use Rattle.wit_data.specs.declared.types.TypeDef.{TypeDef}
use Rattle.wit_data.specs.declared.types.TypeDefKind.TheVariants as kind
use Rattle.wit_shape.specs.declared.place.ShapePlace.TheVariants as place
use Rattle.wit_shape.proofs.unknown.required.Goals as goal

pub returns-then-not-is_unknown_at : goal.returns-then-not-is_unknown_at
returns-then-not-is_unknown_at c =
    let p = c.args.unresolved.now in
    first_at place.RequiredResource (λ _ (r : ℕ × Option (ℕ × ℕ)). SomeAt p.types r.0 (λ (def : TypeDef). def.kind ≡ kind.Unknown)) p.required_resource_types c.loop-index.index _ c.item-item.result _ c.loop-index.invariant
    (read p.required_resource_types _ c.as_slice-item-items.ensures c.loop-index.index c.item-item.result c.loop-index-test.true c.item-item.is)
    (rw c.as_slice-types.ensures at c.is_unknown_at.ensures) c.if-not-is_unknown_at.true refl

pub loop-index-preserved : goal.loop-index-preserved
loop-index-preserved c =
    let p = c.args.unresolved.now in
    more c.loop-index.invariant c.item-item.result (read p.required_resource_types _ c.as_slice-item-items.ensures c.loop-index.index c.item-item.result c.loop-index-test.true c.item-item.is)
    (rw c.as_slice-types.ensures at c.is_unknown_at.ensures) c.if-not-is_unknown_at.false

pub returns : goal.returns
returns c = all_of c.loop-index.invariant (ended c.args.unresolved.now.required_resource_types _ c.loop-index.index c.as_slice-item-items.ensures c.loop-index-test.false)
