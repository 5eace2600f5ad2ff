use Rattle.std.proofs.Common.{◌∙◌, ◌++◌, ℕ, Bool, ap, map}
use Rattle.wit_data.specs.declared.types.TypeDef.{TypeDef}
use Rattle.wit_remap_spec.specs.Image.{type_image}
use Rattle.wit_remap_spec.specs.Selected.{selected_with_index}
use Rattle.wit_merge_spec.specs.Merged.{merge_maps}
use Rattle.wit_merge_spec.specs.Matches.{counterpart_type}
use Rattle.wit_merge.specs.steps.MergeSteps.{merging_of}
use Rattle.wit_merge.proofs.Movable.{types_move}
use Rattle.wit_merge.proofs.MergedIs.{moves_is, without_places}
use Rattle.wit_merge.proofs.types.moved_types.Goals as goal
use Rattle.wit_merge_spec.specs.steps.Parts.{moves_type}

pub move_all-requires-clause-can : goal.move_all-requires-clause-can
move_all-requires-clause-can c x from at moves = types_move c.args.plan.now c.requires.ready x from at

pub returns : goal.returns
returns c =
    let u = c.args.plan.now in
    let m = merging_of u in
    let told =
    c.in_ok-types.ensures
    ∙ ap (λ (kept : ℕ → Bool). map (λ (e : ℕ × TypeDef). type_image (merge_maps m) e.1) (selected_with_index kept u.other.now.types)) (moves_is (counterpart_type m) _ u.matches.now.types c.requires.ready.matches.types)
    ∙ without_places (type_image (merge_maps m)) (selected_with_index (moves_type m) u.other.now.types) in
    c.in_ok-append.ensures.ok ∙ (λ j. told j ++ c.requires.owns j)
