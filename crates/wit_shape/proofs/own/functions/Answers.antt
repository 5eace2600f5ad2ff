use Rattle.wit_data.specs.facts.EachFacts.{all_of}
use Rattle.wit_shape.specs.facts.Found.{read, within_at, within_more}
use Rattle.std.proofs.Common.{refl, ℕ, List}
use Rattle.wit_data.specs.declared.function.Function.{Function}
use Rattle.wit_data.specs.declared.interface.Interface.{Interface}
use Rattle.wit_data.specs.Ownership.{UsesOwn}
use Rattle.wit_data.specs.declared.types.TypeOwner.TheVariants as owner
use Rattle.wit_shape.specs.declared.place.ShapePlace.TheVariants as place
use Rattle.wit_shape.proofs.own.functions.Goals as goal

pub returns-in-Some : goal.returns-in-Some
returns-in-Some c =
    within_at (λ f (interface : Interface) (e : List ℕ × Function). UsesOwn c.args.types.now (owner.Interface f) e.1) (λ (interface : Interface). interface.functions) c.args.interfaces.now place.Function c.loop-index.index _ c.in-Some.at c.index-interfaces-index.result _ c.loop-index.invariant
    (read c.args.interfaces.now _ refl c.loop-index.index c.index-interfaces-index.result c.loop-index-test.true c.index-interfaces-index.is)
    (rw c.from_index-owner.ensures at c.in_ok-at.ensures) c.in-Some.is c.from_index-owner.ensures

pub loop-index-preserved : goal.loop-index-preserved
loop-index-preserved c =
    within_more (λ f (interface : Interface) (e : List ℕ × Function). UsesOwn c.args.types.now (owner.Interface f) e.1) (λ (interface : Interface). interface.functions) c.args.interfaces.now c.loop-index.index c.index-interfaces-index.result _ c.loop-index.invariant
    (read c.args.interfaces.now _ refl c.loop-index.index c.index-interfaces-index.result c.loop-index-test.true c.index-interfaces-index.is)
    (rw c.from_index-owner.ensures at c.in_ok-at.ensures) c.in_default.is

pub returns : goal.returns
returns c = all_of c.loop-index.invariant c.loop-index-test.false
