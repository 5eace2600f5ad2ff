use Rattle.std.proofs.Common.{◌∙◌, List, arith, length, subst, take}
use Rattle.std.proofs.lemmas.List.{length_push, take_all}
use Rattle.std.proofs.lemmas.Map.Iter.{iter_end, iter_turn}
use Rattle.std.specs.Map.Iter.{deref_pair}
use Rattle.wit_data.specs.Foreign.{ForeignItem}
use Rattle.wit_names.specs.declared.package_name.PackageName.{PackageName}
use Rattle.wit_link_lookup.specs.steps.FeatureSteps.{IsMarked}
use Rattle.wit_link_lookup.proofs.Flags.{flag-stays, packages-next}
use Rattle.wit_link_lookup.proofs.active_parts.mark_packages.Goals as goal
use Rattle.wit_link_spec.specs.steps.Parts.{foreign_items}

pub mark_items-requires : goal.mark_items-requires
mark_items-requires c =
    let turn = iter_turn deref_pair c.args.deps.now c.loop-items.yielded _ _ _ _ (c.into_iter-items-iterator.ensures.into_iter_gives ∙ c.iter-items-items.ensures.rest) c.loop-items.yielded_by _ c.in-Some.is c.next.ensures.steps in
    λ i item at.
    flag-stays c.args.features.now (foreign_items (take (length c.loop-items.yielded) c.args.deps.now)) c.args.activity.now c.loop-items.activity item.1.0 c.loop-items.invariant
    (c.requires (length c.loop-items.yielded) _ turn.1 i item at)

pub loop-items-preserved : goal.loop-items-preserved
loop-items-preserved c =
    let turn = iter_turn deref_pair c.args.deps.now c.loop-items.yielded _ _ _ _ (c.into_iter-items-iterator.ensures.into_iter_gives ∙ c.iter-items-items.ensures.rest) c.loop-items.yielded_by _ c.in-Some.is c.next.ensures.steps in
    rw length_push
    (packages-next c.args.features.now c.args.deps.now (length c.loop-items.yielded) _ c.args.activity.now c.loop-items.activity c.mark_items.new.activity turn.1 c.loop-items.invariant c.mark_items.ensures)

pub returns : goal.returns
returns c =
    let end = iter_end deref_pair c.args.deps.now c.loop-items.yielded _ _ _ _ (c.into_iter-items-iterator.ensures.into_iter_gives ∙ c.iter-items-items.ensures.rest) c.loop-items.yielded_by c.in-None.is c.next.ensures.steps in
    subst (λ (deps : List (PackageName × List ForeignItem)). IsMarked c.args.features.now (foreign_items deps) c.args.activity.now c.loop-items.activity)
    (take_all (length c.loop-items.yielded) c.args.deps.now (omega (arith, end.1))) c.loop-items.invariant
