use Rattle.std.proofs.Common.{◌≡◌, ◌∙◌, ◌++◌, ◌∷◌, ◌<◌, [], List, Some, length, map, slice_get, ap, sym, arith}
use Rattle.std.specs.Map.Iter.{deref_pair}
use Rattle.std.proofs.lemmas.List.{length_push, take_all}
use Rattle.std.proofs.lemmas.Map.Iter.{iter_end, iter_turn}
use Rattle.wit_data.specs.declared.types.TypeDef.{TypeDef}
use Rattle.wit_remap_spec.specs.Image.{type_image}
use Rattle.wit_remap_spec.specs.Selected.{selected}
use Rattle.wit_link_include.specs.steps.Included.{maps_of}
use Rattle.wit_link_include.proofs.Steps.{map_added}
use Rattle.wit_link_include.proofs.SelectedIndices.{key_below, key_takes, takes_all}
use Rattle.wit_link_include.proofs.fresh_copies.type_copies.Goals as goal

pub at-requires : goal.at-requires
at-requires c =
    let table = c.args.copies.now.types in
    let turn = iter_turn deref_pair table c.loop-id.yielded _ _ _ _ (c.into_iter-id-iterator.ensures.into_iter_gives ∙ c.iter-id-items.ensures.rest) c.loop-id.yielded_by _ c.in-Some.is c.next.ensures.steps in
    let within : c.in-Some.id.now < length c.args.graph.now.types = key_below table (length c.args.graph.now.types) (length c.loop-id.yielded) c.in-Some.id.now _ c.requires turn.1 in
    let same = c.index.ensures in
    omega arith

pub loop-id-preserved : goal.loop-id-preserved
loop-id-preserved c = λ kept keys.
    let table = c.args.copies.now.types in
    let xs : List TypeDef = c.args.graph.now.types in
    let turn = iter_turn deref_pair table c.loop-id.yielded _ _ _ _ (c.into_iter-id-iterator.ensures.into_iter_gives ∙ c.iter-id-items.ensures.rest) c.loop-id.yielded_by _ c.in-Some.is c.next.ensures.steps in
    let at : slice_get (selected kept xs) (length c.loop-id.yielded) ≡ Some c.at.result.now = key_takes kept xs table (length c.loop-id.yielded) c.in-Some.id.now _ c.at.result.now keys turn.1
    (ap (slice_get xs) (sym c.index.ensures) ∙ c.at.ensures) in
    rw length_push
    (map_added (type_image (maps_of c.args.copies.now)) (selected kept xs) (length c.loop-id.yielded) c.at.result.now [] c.loop-id.types c.push.new.self
    at (c.loop-id.invariant kept keys) (c.in_ok-push.ensures.ok ∙ ap (λ (x : TypeDef). c.loop-id.types ++ x ∷ []) c.in_ok-of_type.ensures))

pub returns : goal.returns
returns c = λ kept keys.
    let table = c.args.copies.now.types in
    let xs : List TypeDef = c.args.graph.now.types in
    let end = iter_end deref_pair table c.loop-id.yielded _ _ _ _ (c.into_iter-id-iterator.ensures.into_iter_gives ∙ c.iter-id-items.ensures.rest) c.loop-id.yielded_by c.in-None.is c.next.ensures.steps in
    let long : length (selected kept xs) ≡ length c.loop-id.yielded = takes_all kept xs table keys ∙ sym end.1 in
    c.loop-id.invariant kept keys ∙ ap (map (type_image (maps_of c.args.copies.now))) (take_all (length c.loop-id.yielded) (selected kept xs) (omega arith))
