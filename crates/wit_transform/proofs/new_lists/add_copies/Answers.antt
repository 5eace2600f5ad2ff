use Rattle.std.proofs.Common.{◌∙◌, length}
use Rattle.std.proofs.lemmas.Map.Iter.{iter_turn}
use Rattle.std.specs.Map.Iter.{deref_pair}
use Rattle.wit_transform.specs.facts.Looked.{added_is_new}
use Rattle.wit_transform.proofs.new_lists.add_copies.Goals as goal

pub push_copy-requires : goal.push_copy-requires
push_copy-requires c =
    let turn = iter_turn deref_pair c.args.more.now c.loop-key.yielded _ _ _ _ (c.into_iter-key-iterator.ensures.into_iter_gives ∙ c.iter-key-items.ensures.rest) c.loop-key.yielded_by _ c.in-Some.is c.next.ensures.steps in
    rw c.loop-key.invariant
    (added_is_new c.args.entries.now c.args.more.now (length c.loop-key.yielded) (c.in-Some.key.now, c.in-Some.item.now) c.iter-key-items.ensures.distinct turn.1 c.requires)
