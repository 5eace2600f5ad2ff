use Rattle.std.proofs.lemmas.Map.Iter.{rest_all, rest_more}
use Rattle.std.specs.Map.Iter.{deref_pair}
use Rattle.wit_data.specs.facts.YieldedFacts.{left_fails, left_more, left_none}
use Rattle.wit_validity.proofs.package_names.name_their_own.Goals as goal

pub returns-then-not-has_this_name : goal.returns-then-not-has_this_name
returns-then-not-has_this_name c = left_fails (rest_more deref_pair _ _ _ _ c.in-Some.is c.next.ensures.steps) c.loop-name.invariant c.has_this_name.ensures c.if-not-has_this_name.true

pub loop-name-preserved : goal.loop-name-preserved
loop-name-preserved c = left_more (rest_more deref_pair _ _ _ _ c.in-Some.is c.next.ensures.steps) c.loop-name.invariant c.has_this_name.ensures c.if-not-has_this_name.false

pub returns : goal.returns
returns c = left_none (rest_all deref_pair _ _ _ c.in-None.is c.next.ensures.steps) c.loop-name.invariant
