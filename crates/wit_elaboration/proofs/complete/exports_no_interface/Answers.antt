use Rattle.std.proofs.Common.{ap, not}
use Rattle.std.proofs.lemmas.Map.Iter.{rest_all, rest_more}
use Rattle.std.specs.Map.Iter.{deref_pair}
use Rattle.wit_data.specs.facts.YieldedFacts.{left_fails, left_more, left_none}
use Rattle.wit_elaboration.proofs.CompleteWorlds.{holds_none}
use Rattle.wit_elaboration.proofs.complete.exports_no_interface.Goals as goal

pub returns-then-is_some : goal.returns-then-is_some
returns-then-is_some c =
    left_fails (rest_more deref_pair _ _ _ _ c.in-Some.is c.next.ensures.steps) c.loop-item.invariant (holds_none c.item_interface.result _ _ c.item_interface.ensures c.is_some.ensures) (ap not c.if-is_some.true)

pub loop-item-preserved : goal.loop-item-preserved
loop-item-preserved c =
    left_more (rest_more deref_pair _ _ _ _ c.in-Some.is c.next.ensures.steps) c.loop-item.invariant (holds_none c.item_interface.result _ _ c.item_interface.ensures c.is_some.ensures) (ap not c.if-is_some.false)

pub returns : goal.returns
returns c = left_none (rest_all deref_pair _ _ _ c.in-None.is c.next.ensures.steps) c.loop-item.invariant
