use Rattle.std.proofs.Common.{◌∙◌, ◌++◌, ℕ, List, length, take, append_assoc, sym, ap}
use Rattle.std.specs.List.{flat_map}
use Rattle.std.proofs.lemmas.List.{length_push}
use Rattle.std.proofs.lemmas.Map.Iter.{iter_turn}
use Rattle.std.specs.Map.Iter.{deref_pair}
use Rattle.wit_elaboration.specs.Entries.{Entry}
use Rattle.wit_semver.specs.SemverMerged.{entry_types}
use Rattle.wit_semver.proofs.KeptTold.{flat-next}
use Rattle.wit_semver.proofs.kept_imports.push_entries.Goals as goal

pub loop-item-preserved : goal.loop-item-preserved
loop-item-preserved c =
    let turn = iter_turn deref_pair c.args.entries.now c.loop-item.yielded _ _ _ _ (c.into_iter-item-iterator.ensures.into_iter_gives ∙ c.iter-item-items.ensures.rest) c.loop-item.yielded_by _ c.in-Some.is c.next.ensures.steps in
    let f = entry_types c.args.graph.now.interfaces in
    let entries = c.args.entries.now in
    let e : Entry = (c.in-Some.field-0-0.now, c.in-Some.item.now) in
    rw length_push
    (c.in_ok-push_item.ensures e.0 ∙ ap (λ (ids : List ℕ). ids ++ f e) c.loop-item.invariant
    ∙ append_assoc c.args.ids.now (flat_map f (take (length c.loop-item.yielded) entries)) (f e)
    ∙ ap (λ (ids : List ℕ). c.args.ids.now ++ ids) (sym (flat-next f entries (length c.loop-item.yielded) e turn.1)))
