use Rattle.std.proofs.Common.{◌∙◌, ℕ, Bool, ap, map}
use Rattle.std.proofs.lemmas.Result.{IfOk-weaker}
use Rattle.wit_data.specs.declared.world.World.{World}
use Rattle.wit_remap_spec.specs.Image.{world_image}
use Rattle.wit_remap_spec.specs.Selected.{selected_with_index}
use Rattle.wit_merge_spec.specs.Merged.{merge_maps}
use Rattle.wit_merge_spec.specs.Matches.{counterpart_world}
use Rattle.wit_merge.specs.steps.MergeSteps.{merging_of}
use Rattle.wit_merge.proofs.Movable.{worlds_move}
use Rattle.wit_merge.proofs.MergedIs.{moves_is}
use Rattle.wit_merge.proofs.worlds.moved_worlds.Goals as goal

pub move_all-requires-clause-can : goal.move_all-requires-clause-can
move_all-requires-clause-can c x from at moves = worlds_move c.args.plan.now c.requires x from at

pub returns : goal.returns
returns c =
    let u = c.args.plan.now in
    let m = merging_of u in
    let same = ap (λ (kept : ℕ → Bool). map (λ (e : ℕ × World). world_image (merge_maps m) e.0 e.1) (selected_with_index kept u.other.now.worlds)) (moves_is (counterpart_world m) _ u.matches.now.worlds c.requires.matches.worlds) in
    IfOk-weaker c.move_all.result _ _ (λ made is. is ∙ same) c.move_all.ensures
