use Rattle.std.proofs.Common.{ap}
use Rattle.std.proofs.lemmas.Map.Iter.{rest_all, rest_more}
use Rattle.std.specs.Map.Iter.{deref_pair}
use Rattle.std.specs.Prelude.{not}
use Rattle.wit_data.specs.facts.YieldedFacts.{left_fails, left_more, left_none}
use Rattle.wit_labels.proofs.UnplacedSetters.{asks_none}
use Rattle.wit_labels.proofs.placing.has_no_setter.Goals as goal

pub returns-then-is_setter : goal.returns-then-is_setter
returns-then-is_setter c =
    left_fails (rest_more deref_pair _ _ _ _ c.in-Some.is c.next.ensures.steps) c.loop-key.invariant (asks_none _ c.is_setter.result c.is_setter.ensures) (ap not c.if-is_setter.true)

pub loop-key-preserved : goal.loop-key-preserved
loop-key-preserved c =
    left_more (rest_more deref_pair _ _ _ _ c.in-Some.is c.next.ensures.steps) c.loop-key.invariant (asks_none _ c.is_setter.result c.is_setter.ensures) (ap not c.if-is_setter.false)

pub returns : goal.returns
returns c = left_none (rest_all deref_pair _ _ _ c.in-None.is c.next.ensures.steps) c.loop-key.invariant
