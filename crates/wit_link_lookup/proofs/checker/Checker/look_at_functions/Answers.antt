use Rattle.std.proofs.Common.{◌∙◌}
use Rattle.wit_values.specs.Names.{deref_named}
use Rattle.wit_data.specs.facts.YieldedFacts.{all_yielded, of_next, one_yielded}
use Rattle.wit_link_lookup.proofs.checker.Checker.look_at_functions.Goals as goal

pub look_at_function-requires-clause-may : goal.look_at_function-requires-clause-may
look_at_function-requires-clause-may c = of_next deref_named c.loop-function.yielded _ _ (c.into_iter-function-iterator.ensures.into_iter_gives ∙ c.iter-function-items.ensures.rest) c.loop-function.yielded_by _ c.in-Some.is c.next.ensures.steps c.requires.may

pub loop-function-preserved : goal.loop-function-preserved
loop-function-preserved c =
    one_yielded deref_named c.loop-function.yielded _ _ (c.into_iter-function-iterator.ensures.into_iter_gives ∙ c.iter-function-items.ensures.rest) c.loop-function.yielded_by _ c.in-Some.is c.next.ensures.steps c.loop-function.invariant c.in_ok-look_at_function.ensures.stays

pub returns-clause-stay : goal.returns-clause-stay
returns-clause-stay c = all_yielded deref_named c.loop-function.yielded _ _ (c.into_iter-function-iterator.ensures.into_iter_gives ∙ c.iter-function-items.ensures.rest) c.loop-function.yielded_by c.in-None.is c.next.ensures.steps c.loop-function.invariant
