use Rattle.std.proofs.Common.{◌≡◌, ◌∙◌, IfOk, List, Ok, Err, Result, ap, map}
use Rattle.wit_link_spec.specs.steps.AdditionRefs.{new_ids_of}
use Rattle.wit_link_spec.specs.declared.addition.NewIds.{NewIds}
use Rattle.wit_remap.specs.declared.worlds.UpdatedWorld.{UpdatedWorld}
use Rattle.wit_link.specs.Appending.{addition}
use Rattle.wit_link.specs.steps.Including.{world_with}
use Rattle.wit_link.proofs.Added.{worlds_ready}
use Rattle.wit_link.proofs.adding.add_updated.Goals as goal

if_ok : {E : Type 0} (r : Result (List UpdatedWorld) E) (xs ys : List UpdatedWorld) → IfOk r (λ ws. ws ≡ xs) → xs ≡ ys → IfOk r (λ ws. ws ≡ ys)
if_ok (Ok ws) xs ys is same = is ∙ same
if_ok (Err e) xs ys is same = tt

pub returns-clause-worlds : goal.returns-clause-worlds
returns-clause-worlds c =
    let a = addition c.args.features.now c.args.graph.now c.args.package c.args.span_offset in
    if_ok c.update_includes.result _ _ c.update_includes.ensures
    (ap (λ (p : NewIds). map (world_with p c.args.span_offset) c.in_ok-updated.updated) c.requires.new_ids ∙ ap (map (world_with (new_ids_of a) c.args.span_offset)) c.in_ok-updated.ensures.worlds ∙ worlds_ready a c.requires.shaped)
