use Rattle.std.proofs.Common.{◌∙◌}
use Rattle.wit_values.specs.Names.{deref_named}
use Rattle.wit_data.specs.facts.YieldedFacts.{all_yielded, of_next, one_yielded}
use Rattle.wit_link_lookup.proofs.checker.Checker.check_functions.Goals as goal

pub check_gate-requires : goal.check_gate-requires
check_gate-requires c = of_next deref_named c.loop-function.yielded _ _ (c.into_iter-function-iterator.ensures.into_iter_gives ∙ c.iter-function-items.ensures.rest) c.loop-function.yielded_by _ c.in-Some.is c.next.ensures.steps c.requires

pub loop-function-preserved : goal.loop-function-preserved
loop-function-preserved c =
    one_yielded deref_named c.loop-function.yielded _ _ (c.into_iter-function-iterator.ensures.into_iter_gives ∙ c.iter-function-items.ensures.rest) c.loop-function.yielded_by _ c.in-Some.is c.next.ensures.steps c.loop-function.invariant c.in_ok-check_gate.ensures.met

pub returns-clause-met : goal.returns-clause-met
returns-clause-met c = all_yielded deref_named c.loop-function.yielded _ _ (c.into_iter-function-iterator.ensures.into_iter_gives ∙ c.iter-function-items.ensures.rest) c.loop-function.yielded_by c.in-None.is c.next.ensures.steps c.loop-function.invariant
