use Rattle.std.proofs.Common.{◌≡◌, ◌∙◌, ℕ, ◌<◌, List, length, get_or, Some, slice_get, refl, subst, ap, arith}
use Rattle.std.proofs.lemmas.Option.{slice_get_read}
use Rattle.wit_data.specs.facts.EachFacts.{more, all, fails}
use Rattle.wit_data.specs.declared.world.World.{World}
use Rattle.wit_validity.proofs.canonical.are_canonical.Goals as goal

-- what is read at a place of the lent list stands there
stands : (worlds lent : List World) (i : ℕ) (world : World) → lent ≡ worlds → i < length lent → world ≡ get_or lent i world → slice_get worlds i ≡ Some world
stands worlds lent i world same within is = subst (λ (ws : List World). slice_get ws i ≡ Some world) same (slice_get_read lent _ i world refl within is)

pub is_canonical-requires-clause-listed : goal.is_canonical-requires-clause-listed
is_canonical-requires-clause-listed c =
    c.requires.listed c.loop-world.world-index c.world-item.result
    (stands c.args.graph.now.worlds c.as_slice-world-items.result.now c.loop-world.world-index c.world-item.result c.as_slice-world-items.ensures c.loop-world-test.true c.world-item.is)

pub returns-then-not-branch-clause-holds : goal.returns-then-not-branch-clause-holds
returns-then-not-branch-clause-holds c =
    fails c.loop-world.invariant.below c.world-item.result
    (stands c.args.graph.now.worlds c.as_slice-world-items.result.now c.loop-world.world-index c.world-item.result c.as_slice-world-items.ensures c.loop-world-test.true c.world-item.is)
    c.in_ok-is_canonical.ensures.holds c.if-not-branch.true

pub loop-world-preserved : goal.loop-world-preserved
loop-world-preserved c = record {
  below = more c.loop-world.invariant.below c.world-item.result
      (stands c.args.graph.now.worlds c.as_slice-world-items.result.now c.loop-world.world-index c.world-item.result c.as_slice-world-items.ensures c.loop-world-test.true c.world-item.is)
      c.in_ok-is_canonical.ensures.holds c.if-not-branch.false;
  same = c.in_ok-is_canonical.ensures.same ∙ c.loop-world.invariant.same;
}

pub returns-clause-holds : goal.returns-clause-holds
returns-clause-holds c =
    let long : length c.as_slice-world-items.result.now ≡ length c.args.graph.now.worlds = ap length c.as_slice-world-items.ensures in
    all c.loop-world.invariant.below (omega (arith, long))
