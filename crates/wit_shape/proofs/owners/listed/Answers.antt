use Rattle.std.proofs.Common.{refl}
use Rattle.wit_data.specs.facts.EachFacts.{all_of, more}
use Rattle.wit_shape.specs.facts.Found.{first_at, read}
use Rattle.wit_data.specs.Ownership.{IsListed}
use Rattle.wit_data.specs.declared.types.TypeDef.{TypeDef}
use Rattle.wit_shape.specs.declared.place.ShapePlace.TheVariants as place
use Rattle.wit_shape.proofs.owners.listed.Goals as goal

pub returns-then-not-branch : goal.returns-then-not-branch
returns-then-not-branch c =
    first_at place.Type_ (λ i (def : TypeDef). IsListed c.args.interfaces.now c.args.worlds.now i def.name def.owner) c.args.types.now c.loop-index.index _ c.index-types-index.result _ c.loop-index.invariant (read c.args.types.now _ refl c.loop-index.index c.index-types-index.result c.loop-index-test.true c.index-types-index.is)
    c.in_ok-is_listed.ensures c.if-not-branch.true c.from_index.ensures

pub loop-index-preserved : goal.loop-index-preserved
loop-index-preserved c =
    more c.loop-index.invariant c.index-types-index.result (read c.args.types.now _ refl c.loop-index.index c.index-types-index.result c.loop-index-test.true c.index-types-index.is)
    c.in_ok-is_listed.ensures c.if-not-branch.false

pub returns : goal.returns
returns c = all_of c.loop-index.invariant c.loop-index-test.false
