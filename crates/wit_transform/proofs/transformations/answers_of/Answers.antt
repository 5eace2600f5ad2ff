use Rattle.std.proofs.Common.{◌∙◌, length}
use Rattle.std.proofs.lemmas.List.{length_push}
use Rattle.std.proofs.lemmas.Map.Iter.{iter_turn}
use Rattle.std.specs.Map.Iter.{deref_pair}
use Rattle.wit_transform.proofs.Answering.{answers-next}
use Rattle.wit_transform.proofs.transformations.answers_of.Goals as goal

pub loop-key-preserved : goal.loop-key-preserved
loop-key-preserved g c =
    let turn = iter_turn deref_pair c.args.imports.now c.loop-key.yielded _ _ _ _ (c.into_iter-key-iterator.ensures.into_iter_gives ∙ c.iter-key-items.ensures.rest) c.loop-key.yielded_by _ c.in-Some.is c.next.ensures.steps in
    rw length_push
    (answers-next g.F.Fn _ c.args.imports.now (length c.loop-key.yielded) (c.in-Some.key.now, c.in-Some.item.now) _ _ _ turn.1 c.loop-key.invariant c.answer_of.ensures c.in_ok-push.ensures.ok)
