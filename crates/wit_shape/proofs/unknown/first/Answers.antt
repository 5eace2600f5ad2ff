use Rattle.std.proofs.Common.{◌≡◌, ◌<◌, ◌≤◌, ap, arith, inr, length}
use Rattle.std.specs.Prelude.{◌↔◌}
use Rattle.wit_data.specs.facts.EachFacts.{all_of, more}
use Rattle.wit_shape.specs.facts.Found.{ended, first_at, read}
use Rattle.wit_data.specs.declared.types.TypeDef.{TypeDef}
use Rattle.wit_data.specs.declared.types.TypeDefKind.TheVariants as kind
use Rattle.wit_shape.specs.declared.place.ShapePlace.TheVariants as place
use Rattle.wit_shape.specs.Faults.{unknown_count}
use Rattle.wit_shape.proofs.unknown.first.Goals as goal

pub returns-then-not-is_unknown_below : goal.returns-then-not-is_unknown_below
returns-then-not-is_unknown_below c =
    let p = c.args.unresolved.now in
    let same = ap length c.as_slice-types.ensures in
    let fits : unknown_count p ≤ length p.types = omega (arith, c.len-unknown.ensures, c.if-types-unknown.false, same) in
    inr (
      fits,
      first_at place.Type_ (λ i (def : TypeDef). (def.kind ≡ kind.Unknown) ↔ (i < unknown_count p)) p.types c.loop-index.index _ c.index-types-index.result _ c.loop-index.invariant
          (read p.types _ c.as_slice-types.ensures c.loop-index.index c.index-types-index.result c.loop-index-test.true c.index-types-index.is)
          (rw c.len-unknown.ensures at c.is_unknown_below.ensures) c.if-not-is_unknown_below.true c.from_index.ensures,
    )

pub loop-index-preserved : goal.loop-index-preserved
loop-index-preserved c =
    let p = c.args.unresolved.now in
    more c.loop-index.invariant c.index-types-index.result (read p.types _ c.as_slice-types.ensures c.loop-index.index c.index-types-index.result c.loop-index-test.true c.index-types-index.is)
    (rw c.len-unknown.ensures at c.is_unknown_below.ensures) c.if-not-is_unknown_below.false

pub returns : goal.returns
returns c =
    let p = c.args.unresolved.now in
    let same = ap length c.as_slice-types.ensures in
    let fits : unknown_count p ≤ length p.types = omega (arith, c.len-unknown.ensures, c.if-types-unknown.false, same) in
    (fits, all_of c.loop-index.invariant (ended p.types _ c.loop-index.index c.as_slice-types.ensures c.loop-index-test.false))
