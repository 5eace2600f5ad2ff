use Rattle.std.proofs.Common.{refl}
use Rattle.wit_data.specs.facts.EachFacts.{all_of, more}
use Rattle.wit_shape.specs.facts.Found.{first_at, read}
use Rattle.wit_data.specs.Ownership.{AliasesNamed}
use Rattle.wit_shape.specs.declared.place.ShapePlace.TheVariants as place
use Rattle.wit_shape.proofs.references.aliases.Goals as goal

pub returns-then-not-aliases_named : goal.returns-then-not-aliases_named
returns-then-not-aliases_named c =
    first_at place.Type_ (λ _. AliasesNamed c.args.types.now c.args.interfaces.now) c.args.types.now c.loop-index.index _ c.index-types-index.result _ c.loop-index.invariant (read c.args.types.now _ refl c.loop-index.index c.index-types-index.result c.loop-index-test.true c.index-types-index.is)
    c.aliases_named.ensures c.if-not-aliases_named.true c.from_index.ensures

pub loop-index-preserved : goal.loop-index-preserved
loop-index-preserved c =
    more c.loop-index.invariant c.index-types-index.result (read c.args.types.now _ refl c.loop-index.index c.index-types-index.result c.loop-index-test.true c.index-types-index.is)
    c.aliases_named.ensures c.if-not-aliases_named.false

pub returns : goal.returns
returns c = all_of c.loop-index.invariant c.loop-index-test.false
