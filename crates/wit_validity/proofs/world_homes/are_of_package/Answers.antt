use Rattle.std.proofs.lemmas.Map.Iter.{rest_all, rest_more}
use Rattle.std.specs.Map.Iter.{deref_pair}
use Rattle.wit_data.specs.facts.YieldedFacts.{left_fails, left_more, left_none}
use Rattle.wit_validity.proofs.world_homes.are_of_package.Goals as goal

pub returns-then-not-is_of_package : goal.returns-then-not-is_of_package
returns-then-not-is_of_package c = left_fails (rest_more deref_pair _ _ _ _ c.in-Some.is c.next.ensures.steps) c.loop-item.invariant c.is_of_package.ensures c.if-not-is_of_package.true

pub loop-item-preserved : goal.loop-item-preserved
loop-item-preserved c = left_more (rest_more deref_pair _ _ _ _ c.in-Some.is c.next.ensures.steps) c.loop-item.invariant c.is_of_package.ensures c.if-not-is_of_package.false

pub returns : goal.returns
returns c = left_none (rest_all deref_pair _ _ _ c.in-None.is c.next.ensures.steps) c.loop-item.invariant
