use Rattle.std.proofs.Common.{◌∙◌, length, refl, sym}
use Rattle.std.proofs.lemmas.List.{length_push}
use Rattle.std.proofs.lemmas.Map.Iter.{iter_turn}
use Rattle.std.specs.Map.Iter.{deref_pair}
use Rattle.wit_elaboration.specs.Entries.{Entry}
use Rattle.wit_transform.specs.facts.Looked.{left-next, type_is_new}
use Rattle.wit_transform.specs.Transformed.{is_type}
use Rattle.wit_transform.proofs.new_lists.types_of.Goals as goal

pub push_copy-requires : goal.push_copy-requires
push_copy-requires c =
    let turn = iter_turn deref_pair c.args.entries.now c.loop-key.yielded _ _ _ _ (c.into_iter-key-iterator.ensures.into_iter_gives ∙ c.iter-key-items.ensures.rest) c.loop-key.yielded_by _ c.in-Some.is c.next.ensures.steps in
    rw c.loop-key.invariant
    (type_is_new c.args.entries.now (length c.loop-key.yielded) (c.in-Some.key.now, c.in-Some.item.now) c.iter-key-items.ensures.distinct turn.1)

pub loop-key-preserved : goal.loop-key-preserved
loop-key-preserved c =
    let turn = iter_turn deref_pair c.args.entries.now c.loop-key.yielded _ _ _ _ (c.into_iter-key-iterator.ensures.into_iter_gives ∙ c.iter-key-items.ensures.rest) c.loop-key.yielded_by _ c.in-Some.is c.next.ensures.steps in
    rw length_push
    (left-next (λ (e : Entry). is_type e.1) c.args.entries.now (length c.loop-key.yielded) _ _ c.loop-key.types _ turn.1 (sym c.holds_type.ensures ∙ c.if-holds_type.false) c.loop-key.invariant refl)
