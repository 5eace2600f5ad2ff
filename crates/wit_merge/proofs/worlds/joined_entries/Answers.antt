use Rattle.std.proofs.Common.{◌≡◌, ◌∙◌, ◌++◌, None, ap, map, subst, sym}
use Rattle.std.specs.Map.{lookup}
use Rattle.wit_data.specs.Entries.{Entry}
use Rattle.wit_data.specs.facts.WorldKeyFacts.{same_key}
use Rattle.wit_data.specs.declared.world.WorldKey.{WorldKey}
use Rattle.wit_elaboration.specs.facts.FreshEntries.{same_key-true}
use Rattle.wit_merge.specs.steps.MergeSteps.{entry_joined, stability_joined, stability_under}
use Rattle.wit_merge.proofs.Chosen.{apart_keyed, key_is_new, mapped_more, mapped_none, mapped_split}
use Rattle.wit_merge.proofs.worlds.joined_entries.Goals as goal

pub loop-key-init : goal.loop-key-init
loop-key-init c =
    let f = entry_joined c.args.counterparts.now c.args.from.now in
    λ j. c.new-joined.ensures j ++ map f ((c.into_iter-key-iterator.ensures.into_iter_gives ∙ c.iter-key-items.ensures.rest) j)

pub push-requires : goal.push-requires
push-requires c =
    let counterparts = c.args.counterparts.now in
    let from = c.args.from.now in
    let into = c.args.into.now in
    let f = entry_joined counterparts from in
    let e : Entry = (c.in-Some.key.now, c.in-Some.item.now) in
    let here = mapped_split f c.loop-key.joined _ c.next.new.self e (map f into) c.in-Some.ensures.steps c.loop-key.invariant in
    subst (λ (k : WorldKey). lookup (same_key k) c.loop-key.joined ≡ None) (sym c.in_ok-try_clone.ensures)
    (key_is_new same_key-true c.loop-key.joined _ (map f into) e.0 (f e).1 (apart_keyed (λ (d : Entry). stability_joined (stability_under counterparts from d.0) d.1) into c.requires) here)

pub loop-key-preserved : goal.loop-key-preserved
loop-key-preserved c =
    let f = entry_joined c.args.counterparts.now c.args.from.now in
    let e : Entry = (c.in-Some.key.now, c.in-Some.item.now) in
    let held = c.in_ok-item.ensures ∙ ap (λ o. stability_joined o e.1) c.stability_under.ensures in
    let is : (c.in_ok-try_clone.field-0, c.in_ok-item.item) ≡ f e = λ j. let r : Entry = (c.in_ok-try_clone.ensures j, held j) in r in
    mapped_more f c.loop-key.joined c.push.new.self _ c.next.new.self e _ (map f c.args.into.now) c.in-Some.ensures.steps c.loop-key.invariant c.in_ok-push.ensures.ok is

pub returns : goal.returns
returns c = mapped_none (entry_joined c.args.counterparts.now c.args.from.now) c.loop-key.joined _ (map (entry_joined c.args.counterparts.now c.args.from.now) c.args.into.now) c.in-None.ensures.steps.0 c.loop-key.invariant
