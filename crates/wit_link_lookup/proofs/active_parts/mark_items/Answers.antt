use Rattle.std.proofs.Common.{◌≡◌, ◌∙◌, List, true, false, arith, length, sym, subst, take}
use Rattle.std.proofs.lemmas.List.{length_push, take_all}
use Rattle.std.proofs.lemmas.Map.Iter.{iter_end, iter_turn}
use Rattle.wit_values.specs.Names.{deref_named}
use Rattle.wit_data.specs.Foreign.{ForeignItem}
use Rattle.wit_link_lookup.specs.steps.FeatureSteps.{IsMarked}
use Rattle.wit_link_lookup.proofs.Flags.{flag-stays, is-added, is-skipped, items-next}
use Rattle.wit_link_lookup.proofs.active_parts.mark_items.Goals as goal
use Rattle.wit_link_spec.specs.steps.Parts.{some_active}

pub loop-item-preserved-then-not-some_active : goal.loop-item-preserved-then-not-some_active
loop-item-preserved-then-not-some_active c =
    let turn = iter_turn deref_named c.args.items.now c.loop-item.yielded _ _ _ _ (c.into_iter-item-iterator.ensures.into_iter_gives ∙ c.iter-item-items.ensures.rest) c.loop-item.yielded_by _ c.in-Some.is c.next.ensures.steps in
    let off : some_active c.args.features.now c.in-Some.field-0-1.now.1 ≡ false = sym c.some_active.ensures ∙ c.if-not-some_active.true in
    rw length_push
    (items-next c.args.features.now c.args.items.now (length c.loop-item.yielded) _ c.args.activity.now c.loop-item.activity c.loop-item.activity turn.1
    c.loop-item.invariant (is-skipped c.args.features.now _ c.loop-item.activity off))

pub mark-requires : goal.mark-requires
mark-requires c =
    let turn = iter_turn deref_named c.args.items.now c.loop-item.yielded _ _ _ _ (c.into_iter-item-iterator.ensures.into_iter_gives ∙ c.iter-item-items.ensures.rest) c.loop-item.yielded_by _ c.in-Some.is c.next.ensures.steps in
    flag-stays c.args.features.now (take (length c.loop-item.yielded) c.args.items.now) c.args.activity.now c.loop-item.activity c.in-Some.field-0-1.now.0 c.loop-item.invariant
    (c.requires (length c.loop-item.yielded) _ turn.1)

pub loop-item-preserved : goal.loop-item-preserved
loop-item-preserved c =
    let turn = iter_turn deref_named c.args.items.now c.loop-item.yielded _ _ _ _ (c.into_iter-item-iterator.ensures.into_iter_gives ∙ c.iter-item-items.ensures.rest) c.loop-item.yielded_by _ c.in-Some.is c.next.ensures.steps in
    let on : some_active c.args.features.now c.in-Some.field-0-1.now.1 ≡ true = sym c.some_active.ensures ∙ c.if-not-some_active.false in
    rw length_push
    (items-next c.args.features.now c.args.items.now (length c.loop-item.yielded) _ c.args.activity.now c.loop-item.activity c.mark.new.activity turn.1
    c.loop-item.invariant
    (rw c.mark.ensures (is-added c.args.features.now _ c.in-Some.field-0-1.now.0 c.in-Some.field-0-1.now.1 c.loop-item.activity on)))

pub returns : goal.returns
returns c =
    let end = iter_end deref_named c.args.items.now c.loop-item.yielded _ _ _ _ (c.into_iter-item-iterator.ensures.into_iter_gives ∙ c.iter-item-items.ensures.rest) c.loop-item.yielded_by c.in-None.is c.next.ensures.steps in
    subst (λ (items : List ForeignItem). IsMarked c.args.features.now items c.args.activity.now c.loop-item.activity)
    (take_all (length c.loop-item.yielded) c.args.items.now (omega (arith, end.1))) c.loop-item.invariant
