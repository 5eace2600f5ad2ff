use Rattle.wit_data.specs.facts.EachFacts.{all_of, more}
use Rattle.wit_shape.specs.facts.Found.{ended, first_at, read}
use Rattle.std.proofs.Common.{◌<◌}
use Rattle.wit_data.specs.Each.{Each}
use Rattle.wit_data.specs.Kind.{referred}
use Rattle.wit_data.specs.declared.types.TypeDef.{TypeDef}
use Rattle.wit_shape.specs.declared.place.ShapePlace.TheVariants as place
use Rattle.wit_shape.proofs.references.earlier.Goals as goal

pub returns-then-not-branch : goal.returns-then-not-branch
returns-then-not-branch c =
    let p = c.args.unresolved.now in
    first_at place.Type_ (λ i (def : TypeDef). Each (λ id. id < i) (referred def.kind)) p.types c.loop-index.index _ c.index-types-index.result _ c.loop-index.invariant (read p.types _ c.as_slice-types.ensures c.loop-index.index c.index-types-index.result c.loop-index-test.true c.index-types-index.is)
    (c.in_ok-refers_back.ensures) c.if-not-branch.true c.from_index.ensures

pub loop-index-preserved : goal.loop-index-preserved
loop-index-preserved c =
    let p = c.args.unresolved.now in
    more c.loop-index.invariant c.index-types-index.result (read p.types _ c.as_slice-types.ensures c.loop-index.index c.index-types-index.result c.loop-index-test.true c.index-types-index.is)
    (c.in_ok-refers_back.ensures) c.if-not-branch.false

pub returns : goal.returns
returns c = all_of c.loop-index.invariant (ended c.args.unresolved.now.types _ c.loop-index.index c.as_slice-types.ensures c.loop-index-test.false)
