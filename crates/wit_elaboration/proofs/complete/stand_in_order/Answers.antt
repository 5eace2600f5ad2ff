use Rattle.std.proofs.Common.{◌∙◌, refl, rules}
use Rattle.std.proofs.lemmas.Map.Iter.{rest_all, rest_more}
use Rattle.std.specs.Map.Iter.{deref_pair}
use Rattle.wit_elaboration.proofs.CompleteWorlds.{key_here, key_new, role_here, stand-all, stand-more, stand-start}
use Rattle.wit_elaboration.proofs.complete.stand_in_order.Goals as goal

pub loop-key-init : goal.loop-key-init
loop-key-init c = record {
  on = stand-start c.args.types.now c.args.uses.now _ _ c.args.imports.now c.requires.none (c.into_iter-key-iterator.ensures.into_iter_gives ∙ c.iter-key-items.ensures.rest) c.requires.listed c.iter-key-items.ensures.distinct;
  nodes = refl;
}

pub is_in_place-requires-clause-role : goal.is_in_place-requires-clause-role
is_in_place-requires-clause-role c = role_here c.args.types.now c.args.uses.now (rest_more deref_pair _ _ _ _ c.in-Some.is c.next.ensures.steps) c.loop-key.invariant.on

pub list_key-requires-clause-in_range : goal.list_key-requires-clause-in_range
list_key-requires-clause-in_range c =
    rw (c.loop-key.invariant.nodes, c.requires.nodes) (key_here c.args.types.now c.args.uses.now (rest_more deref_pair _ _ _ _ c.in-Some.is c.next.ensures.steps) c.loop-key.invariant.on)

pub list_key-requires-clause-new : goal.list_key-requires-clause-new
list_key-requires-clause-new c = key_new c.args.types.now c.args.uses.now (rest_more deref_pair _ _ _ _ c.in-Some.is c.next.ensures.steps) c.loop-key.invariant.on

pub loop-key-preserved : goal.loop-key-preserved
loop-key-preserved c = record {
  on = stand-more c.args.types.now c.args.uses.now (rest_more deref_pair _ _ _ _ c.in-Some.is c.next.ensures.steps) c.loop-key.invariant.on _ (search rules) (c.is_in_place.ensures.0 c.if-not-is_in_place.false);
  nodes = search rules;
}

pub returns-clause-order : goal.returns-clause-order
returns-clause-order c = λ _. (stand-all c.args.types.now c.args.uses.now (rest_all deref_pair _ _ _ c.in-None.is c.next.ensures.steps) c.loop-key.invariant.on).0

pub returns-clause-settled : goal.returns-clause-settled
returns-clause-settled c = λ _. (stand-all c.args.types.now c.args.uses.now (rest_all deref_pair _ _ _ c.in-None.is c.next.ensures.steps) c.loop-key.invariant.on).1
