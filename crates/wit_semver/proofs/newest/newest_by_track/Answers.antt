use Rattle.std.proofs.Common.{◌∙◌, ◌++◌, ℕ, List, length, take, sym, ap, subst}
use Rattle.std.proofs.lemmas.List.{append-nil, length_push}
use Rattle.std.proofs.lemmas.Map.Iter.{iter_turn}
use Rattle.std.specs.Map.Iter.{deref_pair}
use Rattle.wit_data.specs.declared.world.WorldKey.{WorldKey}
use Rattle.wit_elaboration.specs.Entries.{key_interface, keyed_interfaces}
use Rattle.wit_semver.specs.steps.Replacing.{IsNewestTable}
use Rattle.wit_semver.proofs.Keyed.{keyed-next}
use Rattle.wit_semver.proofs.newest.newest_by_track.Goals as goal

pub loop-key-preserved-in-Continue-1 : goal.loop-key-preserved-in-Continue-1
loop-key-preserved-in-Continue-1 c =
    let turn = iter_turn deref_pair c.args.entries.now c.loop-key.yielded _ _ _ _ (c.into_iter-key-iterator.ensures.into_iter_gives ∙ c.iter-key-items.ensures.rest) c.loop-key.yielded_by _ c.in-Some.is c.next.ensures.steps in
    let entries = c.args.entries.now in
    let i : ℕ = length c.loop-key.yielded in
    let next = keyed-next entries i (c.in-Some.key.now, c.in-Some.field-0-1.now) turn.1 in
    let told = c.in_ok-note-in-Interface.ensures (keyed_interfaces (take i entries)) c.loop-key.invariant in
    rw (length_push, next ∙ ap (λ (k : WorldKey). keyed_interfaces (take i entries) ++ key_interface k) c.in-Interface.is) told

pub loop-key-preserved : goal.loop-key-preserved
loop-key-preserved c =
    let turn = iter_turn deref_pair c.args.entries.now c.loop-key.yielded _ _ _ _ (c.into_iter-key-iterator.ensures.into_iter_gives ∙ c.iter-key-items.ensures.rest) c.loop-key.yielded_by _ c.in-Some.is c.next.ensures.steps in
    let entries = c.args.entries.now in
    let i : ℕ = length c.loop-key.yielded in
    let next = keyed-next entries i (c.in-Some.key.now, c.in-Some.field-0-1.now) turn.1 in
    rw length_push
    (subst (λ (ids : List ℕ). IsNewestTable c.args.rule c.args.graph.now ids c.loop-key.newest.entries)
    (sym (next ∙ ap (λ (k : WorldKey). keyed_interfaces (take i entries) ++ key_interface k) c.in-Name.is ∙ append-nil (keyed_interfaces (take i entries)))) c.loop-key.invariant)
