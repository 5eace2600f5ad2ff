use Rattle.std.proofs.Common.{◌∙◌}
use Rattle.wit_values.specs.Names.{deref_named}
use Rattle.wit_data.specs.facts.YieldedFacts.{all_yielded, of_next, one_yielded}
use Rattle.wit_link_lookup.proofs.VersionsMet.{asks-foreign, foreign-there}
use Rattle.wit_link_lookup.proofs.checker.Checker.check_items.Goals as goal

pub span_of-requires : goal.span_of-requires
span_of-requires c =
    foreign-there c.args.self.now c.requires.ready _ (of_next deref_named c.loop-item.yielded _ _ (c.into_iter-item-iterator.ensures.into_iter_gives ∙ c.iter-item-items.ensures.rest) c.loop-item.yielded_by _ c.in-Some.is c.next.ensures.steps c.requires.named)

pub check_gates-requires : goal.check_gates-requires
check_gates-requires c =
    asks-foreign c.args.self.now c.requires.ready _ c.span_of.result (of_next deref_named c.loop-item.yielded _ _ (c.into_iter-item-iterator.ensures.into_iter_gives ∙ c.iter-item-items.ensures.rest) c.loop-item.yielded_by _ c.in-Some.is c.next.ensures.steps c.requires.named) c.span_of.ensures

pub loop-item-preserved : goal.loop-item-preserved
loop-item-preserved c =
    one_yielded deref_named c.loop-item.yielded _ _ (c.into_iter-item-iterator.ensures.into_iter_gives ∙ c.iter-item-items.ensures.rest) c.loop-item.yielded_by _ c.in-Some.is c.next.ensures.steps c.loop-item.invariant c.in_ok-check_gates.ensures.met

pub returns-clause-met : goal.returns-clause-met
returns-clause-met c = all_yielded deref_named c.loop-item.yielded _ _ (c.into_iter-item-iterator.ensures.into_iter_gives ∙ c.iter-item-items.ensures.rest) c.loop-item.yielded_by c.in-None.is c.next.ensures.steps c.loop-item.invariant
