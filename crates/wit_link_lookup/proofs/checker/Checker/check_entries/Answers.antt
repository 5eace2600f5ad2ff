use Rattle.std.proofs.Common.{◌∙◌}
use Rattle.std.specs.Map.Iter.{deref_pair}
use Rattle.wit_data.specs.facts.YieldedFacts.{all_yielded, of_next, one_yielded}
use Rattle.wit_link_lookup.proofs.checker.Checker.check_entries.Goals as goal

pub check_item-requires : goal.check_item-requires
check_item-requires c = of_next deref_pair c.loop-item.yielded _ _ (c.into_iter-item-iterator.ensures.into_iter_gives ∙ c.iter-item-items.ensures.rest) c.loop-item.yielded_by _ c.in-Some.is c.next.ensures.steps c.requires

pub loop-item-preserved : goal.loop-item-preserved
loop-item-preserved c =
    one_yielded deref_pair c.loop-item.yielded _ _ (c.into_iter-item-iterator.ensures.into_iter_gives ∙ c.iter-item-items.ensures.rest) c.loop-item.yielded_by _ c.in-Some.is c.next.ensures.steps c.loop-item.invariant c.in_ok-check_item.ensures.met

pub returns-clause-met : goal.returns-clause-met
returns-clause-met c = all_yielded deref_pair c.loop-item.yielded _ _ (c.into_iter-item-iterator.ensures.into_iter_gives ∙ c.iter-item-items.ensures.rest) c.loop-item.yielded_by c.in-None.is c.next.ensures.steps c.loop-item.invariant
