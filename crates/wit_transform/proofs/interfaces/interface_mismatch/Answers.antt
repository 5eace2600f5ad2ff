use Rattle.std.proofs.Common.{◌∙◌, length, arith}
use Rattle.std.proofs.lemmas.List.{length_push}
use Rattle.std.proofs.lemmas.Map.Iter.{iter_end, iter_turn}
use Rattle.wit_values.specs.Names.{deref_named}
use Rattle.wit_transform.proofs.Steps.{functions-all, functions-differ, functions-next}
use Rattle.wit_transform.proofs.interfaces.interface_mismatch.Goals as goal

pub returns-in-Some-2-clause-some : goal.returns-in-Some-2-clause-some
returns-in-Some-2-clause-some c =
    let turn = iter_turn deref_named c.args.from.now.functions c.loop-name.yielded _ _ _ _ (c.into_iter-name-iterator.ensures.into_iter_gives ∙ c.iter-name-items.ensures.rest) c.loop-name.yielded_by _ c.in-Some.is c.next.ensures.steps in
    functions-differ c.args.from.now c.args.into.now (length c.loop-name.yielded) _ _ turn.1 _ (rw c.in-Some-2.is at c.in_ok-text.ensures.some)

pub loop-name-preserved : goal.loop-name-preserved
loop-name-preserved c =
    let turn = iter_turn deref_named c.args.from.now.functions c.loop-name.yielded _ _ _ _ (c.into_iter-name-iterator.ensures.into_iter_gives ∙ c.iter-name-items.ensures.rest) c.loop-name.yielded_by _ c.in-Some.is c.next.ensures.steps in
    rw length_push
    (functions-next c.args.from.now.functions c.args.into.now (length c.loop-name.yielded) _ _ turn.1 c.loop-name.invariant (rw c.in_default.is at c.in_ok-text.ensures.none))

pub returns-clause-none : goal.returns-clause-none
returns-clause-none c =
    let end = iter_end deref_named c.args.from.now.functions c.loop-name.yielded _ _ _ _ (c.into_iter-name-iterator.ensures.into_iter_gives ∙ c.iter-name-items.ensures.rest) c.loop-name.yielded_by c.in-None.is c.next.ensures.steps in
    let long = end.1 in
    functions-all c.args.from.now c.args.into.now (length c.loop-name.yielded) (omega arith) c.loop-name.invariant
