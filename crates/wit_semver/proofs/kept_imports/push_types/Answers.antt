use Rattle.std.proofs.Common.{◌∙◌, ◌++◌, ◌∷◌, [], ℕ, List, length, map, take, append_assoc, sym, ap}
use Rattle.std.proofs.lemmas.List.{length_push}
use Rattle.std.proofs.lemmas.Map.Iter.{iter_turn}
use Rattle.wit_values.specs.Names.{deref_named}
use Rattle.wit_values.specs.facts.Lists.{map-next}
use Rattle.wit_semver.proofs.kept_imports.push_types.Goals as goal

pub loop-id-preserved : goal.loop-id-preserved
loop-id-preserved c =
    let turn = iter_turn deref_named c.args.types.now c.loop-id.yielded _ _ _ _ (c.into_iter-id-iterator.ensures.into_iter_gives ∙ c.iter-id-items.ensures.rest) c.loop-id.yielded_by _ c.in-Some.is c.next.ensures.steps in
    let types = c.args.types.now in
    let taken = map (λ (e : List ℕ × ℕ). e.1) (take (length c.loop-id.yielded) types) in
    rw length_push
    (c.in_ok-push.ensures.ok ∙ ap (λ (ids : List ℕ). ids ++ c.in-Some.id.now ∷ []) c.loop-id.invariant
    ∙ append_assoc c.args.ids.now taken (c.in-Some.id.now ∷ [])
    ∙ ap (λ (ids : List ℕ). c.args.ids.now ++ ids) (sym (map-next (λ (e : List ℕ × ℕ). e.1) types (length c.loop-id.yielded) _ turn.1)))
