use Rattle.std.proofs.Common.{◌∙◌}
use Rattle.std.specs.Map.Iter.{deref_pair}
use Rattle.wit_data.specs.facts.YieldedFacts.{all_yielded, of_next, one_yielded}
use Rattle.wit_link_lookup.proofs.checker.Checker.look_at_entries.Goals as goal

pub look_at_item-requires-clause-refers : goal.look_at_item-requires-clause-refers
look_at_item-requires-clause-refers c = of_next deref_pair c.loop-item.yielded _ _ (c.into_iter-item-iterator.ensures.into_iter_gives ∙ c.iter-item-items.ensures.rest) c.loop-item.yielded_by _ c.in-Some.is c.next.ensures.steps c.requires.refer

pub loop-item-preserved : goal.loop-item-preserved
loop-item-preserved c =
    one_yielded deref_pair c.loop-item.yielded _ _ (c.into_iter-item-iterator.ensures.into_iter_gives ∙ c.iter-item-items.ensures.rest) c.loop-item.yielded_by _ c.in-Some.is c.next.ensures.steps c.loop-item.invariant c.in_ok-look_at_item.ensures.stays

pub returns-clause-stay : goal.returns-clause-stay
returns-clause-stay c = all_yielded deref_pair c.loop-item.yielded _ _ (c.into_iter-item-iterator.ensures.into_iter_gives ∙ c.iter-item-items.ensures.rest) c.loop-item.yielded_by c.in-None.is c.next.ensures.steps c.loop-item.invariant
