use Rattle.std.proofs.Common.{◌∙◌}
use Rattle.std.proofs.lemmas.Map.Iter.{rest_all, rest_more}
use Rattle.wit_values.specs.Names.{deref_named}
use Rattle.wit_data.specs.facts.YieldedFacts.{left_fails, left_more, left_none, left_start}
use Rattle.wit_remap.proofs.fitting.functions_fit.Goals as goal

pub loop-function-init : goal.loop-function-init
loop-function-init c = left_start (c.into_iter-function-iterator.ensures.into_iter_gives ∙ c.iter-function-items.ensures.rest)

pub returns-then-not-function_fits : goal.returns-then-not-function_fits
returns-then-not-function_fits c = left_fails (rest_more deref_named _ _ _ _ c.in-Some.is c.next.ensures.steps) c.loop-function.invariant c.function_fits.ensures c.if-not-function_fits.true

pub loop-function-preserved : goal.loop-function-preserved
loop-function-preserved c = left_more (rest_more deref_named _ _ _ _ c.in-Some.is c.next.ensures.steps) c.loop-function.invariant c.function_fits.ensures c.if-not-function_fits.false

pub returns : goal.returns
returns c = left_none (rest_all deref_named _ _ _ c.in-None.is c.next.ensures.steps) c.loop-function.invariant
