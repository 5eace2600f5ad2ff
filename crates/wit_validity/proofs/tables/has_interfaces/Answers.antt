use Rattle.std.proofs.lemmas.Map.Iter.{rest_all, rest_more}
use Rattle.wit_values.specs.Names.{deref_named}
use Rattle.wit_data.specs.facts.YieldedFacts.{left_fails, left_more, left_none}
use Rattle.wit_validity.proofs.tables.has_interfaces.Goals as goal

pub returns-then-not-is_interface_of : goal.returns-then-not-is_interface_of
returns-then-not-is_interface_of c = left_fails (rest_more deref_named _ _ _ _ c.in-Some.is c.next.ensures.steps) c.loop-name.invariant c.is_interface_of.ensures c.if-not-is_interface_of.true

pub loop-name-preserved : goal.loop-name-preserved
loop-name-preserved c = left_more (rest_more deref_named _ _ _ _ c.in-Some.is c.next.ensures.steps) c.loop-name.invariant c.is_interface_of.ensures c.if-not-is_interface_of.false

pub returns : goal.returns
returns c = left_none (rest_all deref_named _ _ _ c.in-None.is c.next.ensures.steps) c.loop-name.invariant
