use Rattle.std.proofs.Common.{◌≡◌, ◌∙◌, ◌++◌, ◌&&◌, ◌≤◌, ℕ, List, Bool, true, false, None, Some, length, nat_eq, take, refl, sym, ap, subst, arith, if◌then◌else◌}
use Rattle.std.proofs.lemmas.List.{append-nil, length_push, take_all}
use Rattle.std.proofs.lemmas.Map.Iter.{iter_end, iter_turn}
use Rattle.std.specs.List.{list_any}
use Rattle.std.specs.Map.Iter.{deref_pair}
use Rattle.wit_data.specs.declared.world.WorldKey.{WorldKey}
use Rattle.wit_elaboration.specs.Entries.{Entry, key_interface, keyed_interfaces}
use Rattle.wit_semver.specs.SemverMerged.{SemverMerge, imported, newest, semver_merge}
use Rattle.wit_semver.specs.steps.Replacing.{IsFilled, replacement}
use Rattle.wit_semver.proofs.Keyed.{keyed-at, keyed-next}
use Rattle.wit_semver.proofs.replaced.replacements.Goals as goal
use Rattle.wit_semver.specs.steps.Parts.{is_older_than}

-- what isn't imported isn't replaced
not_imported : (u : SemverMerge) (i : ℕ) (b : Bool) → list_any (nat_eq i) (imported u) ≡ b → (if b then replacement u i else None) ≡ replacement u i
not_imported u i true is = refl
not_imported u i false is = sym (ap (λ (b : Bool). if b && list_any (is_older_than u.rule u.graph i) (imported u) then Some (newest u i) else None) is)

pub loop-key-preserved-in-Continue-branch-3 : goal.loop-key-preserved-in-Continue-branch-3
loop-key-preserved-in-Continue-branch-3 c =
    let turn = iter_turn deref_pair c.args.world.now.imports c.loop-key.yielded _ _ _ _ (c.into_iter-key-iterator.ensures.into_iter_gives ∙ c.iter-key-items.ensures.rest) c.loop-key.yielded_by _ c.in-Some.is c.next.ensures.steps in
    let g = c.args.graph.now in
    let world = c.args.world.now in
    let imports = world.imports in
    let i : ℕ = length c.loop-key.yielded in
    let e : Entry = (c.in-Some.key.now, c.in-Some.field-0-1.now) in
    let f = replacement (semver_merge c.args.rule g world) in
    let ids = keyed_interfaces (take i imports) in
    let next = keyed-next imports i e turn.1 in
    let id = c.in-Interface.id in
    let has = keyed-at imports i e id turn.1 c.in-Interface.is in
    let by = c.in_ok-by-in-Interface.ensures world c.in_ok-newest.ensures has in
    rw length_push
    (subst (λ (is : List ℕ). IsFilled f is c.note.new.found) (sym (next ∙ ap (λ (k : WorldKey). ids ++ key_interface k) c.in-Interface.is))
    (c.in_ok-note-in-Interface.ensures f ids by c.loop-key.invariant))

pub loop-key-preserved : goal.loop-key-preserved
loop-key-preserved c =
    let turn = iter_turn deref_pair c.args.world.now.imports c.loop-key.yielded _ _ _ _ (c.into_iter-key-iterator.ensures.into_iter_gives ∙ c.iter-key-items.ensures.rest) c.loop-key.yielded_by _ c.in-Some.is c.next.ensures.steps in
    let g = c.args.graph.now in
    let imports = c.args.world.now.imports in
    let i : ℕ = length c.loop-key.yielded in
    let e : Entry = (c.in-Some.key.now, c.in-Some.field-0-1.now) in
    let f = replacement (semver_merge c.args.rule g c.args.world.now) in
    let ids = keyed_interfaces (take i imports) in
    let next = keyed-next imports i e turn.1 in
    rw length_push
    (subst (λ (is : List ℕ). IsFilled f is c.loop-key.found) (sym (next ∙ ap (λ (k : WorldKey). ids ++ key_interface k) c.in-Name.is ∙ append-nil ids)) c.loop-key.invariant)

pub returns : goal.returns
returns c =
    let end = iter_end deref_pair c.args.world.now.imports c.loop-key.yielded _ _ _ _ (c.into_iter-key-iterator.ensures.into_iter_gives ∙ c.iter-key-items.ensures.rest) c.loop-key.yielded_by c.in-None.is c.next.ensures.steps in
    let long = end.1 in
    let u = semver_merge c.args.rule c.args.graph.now c.args.world.now in
    let imports = c.args.world.now.imports in
    let past : length imports ≤ length c.loop-key.yielded = omega arith in
    let all : keyed_interfaces (take (length c.loop-key.yielded) imports) ≡ imported u = ap keyed_interfaces (take_all (length c.loop-key.yielded) imports past) in
    λ i. c.loop-key.invariant i ∙ ap (λ (ids : List ℕ). if list_any (nat_eq i) ids then replacement u i else None) all ∙ not_imported u i (list_any (nat_eq i) (imported u)) refl
