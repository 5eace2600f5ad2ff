use Rattle.std.proofs.Common.{refl}
use Rattle.wit_data.specs.facts.EachFacts.{all_of}
use Rattle.wit_shape.specs.facts.Found.{read, within_at, within_more}
use Rattle.wit_data.specs.Entries.{Entry, ItemUsesOwn}
use Rattle.wit_data.specs.declared.world.World.{World}
use Rattle.wit_shape.specs.declared.place.ShapePlace.TheVariants as place
use Rattle.wit_shape.proofs.own.exports.Goals as goal

pub returns-in-Some : goal.returns-in-Some
returns-in-Some c =
    within_at (λ w (world : World) (e : Entry). ItemUsesOwn c.args.types.now w e.1) (λ (world : World). world.exports) c.args.worlds.now place.Export c.loop-index.index _ c.in-Some.at c.index-worlds-index.result _ c.loop-index.invariant
    (read c.args.worlds.now _ refl c.loop-index.index c.index-worlds-index.result c.loop-index-test.true c.index-worlds-index.is)
    (rw c.from_index-owner.ensures at c.in_ok-at.ensures) c.in-Some.is c.from_index-owner.ensures

pub loop-index-preserved : goal.loop-index-preserved
loop-index-preserved c =
    within_more (λ w (world : World) (e : Entry). ItemUsesOwn c.args.types.now w e.1) (λ (world : World). world.exports) c.args.worlds.now c.loop-index.index c.index-worlds-index.result _ c.loop-index.invariant
    (read c.args.worlds.now _ refl c.loop-index.index c.index-worlds-index.result c.loop-index-test.true c.index-worlds-index.is)
    (rw c.from_index-owner.ensures at c.in_ok-at.ensures) c.in_default.is

pub returns : goal.returns
returns c = all_of c.loop-index.invariant c.loop-index-test.false
