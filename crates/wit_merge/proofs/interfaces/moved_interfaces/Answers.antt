use Rattle.std.proofs.Common.{◌∙◌, ℕ, Bool, ap, map}
use Rattle.std.proofs.lemmas.Result.{IfOk-weaker}
use Rattle.wit_data.specs.declared.interface.Interface.{Interface}
use Rattle.wit_remap_spec.specs.Image.{interface_image}
use Rattle.wit_merge_spec.specs.Merged.{merge_maps}
use Rattle.wit_remap_spec.specs.Selected.{selected_with_index}
use Rattle.wit_merge_spec.specs.Matches.{counterpart_interface}
use Rattle.wit_merge.specs.steps.MergeSteps.{merging_of}
use Rattle.wit_merge.proofs.Movable.{interfaces_move}
use Rattle.wit_merge.proofs.MergedIs.{moves_is, without_places}
use Rattle.wit_merge.proofs.interfaces.moved_interfaces.Goals as goal
use Rattle.wit_merge_spec.specs.steps.Parts.{moves_interface}

pub move_all-requires-clause-can : goal.move_all-requires-clause-can
move_all-requires-clause-can c x from at moves = interfaces_move c.args.plan.now c.requires x from at

pub returns : goal.returns
returns c =
    let u = c.args.plan.now in
    let m = merging_of u in
    let same =
    ap (λ (kept : ℕ → Bool). map (λ (e : ℕ × Interface). interface_image (merge_maps m) e.1) (selected_with_index kept u.other.now.interfaces)) (moves_is (counterpart_interface m) _ u.matches.now.interfaces c.requires.matches.interfaces)
    ∙ without_places (interface_image (merge_maps m)) (selected_with_index (moves_interface m) u.other.now.interfaces) in
    IfOk-weaker c.move_all.result _ _ (λ made is. is ∙ same) c.move_all.ensures
