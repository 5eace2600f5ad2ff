use Rattle.std.proofs.lemmas.Map.Iter.{rest_all, rest_more}
use Rattle.std.specs.Map.Iter.{deref_pair}
use Rattle.wit_data.specs.facts.YieldedFacts.{left_fails, left_more, left_none}
use Rattle.wit_remap.proofs.fitting.entries_fit.Goals as goal

pub returns-then-not-item_fits : goal.returns-then-not-item_fits
returns-then-not-item_fits c = left_fails (rest_more deref_pair _ _ _ _ c.in-Some.is c.next.ensures.steps) c.loop-item.invariant c.item_fits.ensures c.if-not-item_fits.true

pub loop-item-preserved : goal.loop-item-preserved
loop-item-preserved c = left_more (rest_more deref_pair _ _ _ _ c.in-Some.is c.next.ensures.steps) c.loop-item.invariant c.item_fits.ensures c.if-not-item_fits.false

pub returns : goal.returns
returns c = left_none (rest_all deref_pair _ _ _ c.in-None.is c.next.ensures.steps) c.loop-item.invariant
