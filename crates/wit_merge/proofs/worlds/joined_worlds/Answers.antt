use Rattle.std.proofs.Common.{◌∙◌, ℕ}
use Rattle.std.proofs.lemmas.Result.{IfOk-weaker}
use Rattle.wit_data.specs.declared.world.World.{World}
use Rattle.wit_remap_spec.specs.Image.{world_image}
use Rattle.wit_merge_spec.specs.Merged.{with_world, merge_maps}
use Rattle.wit_merge_spec.specs.Matches.{counterpart_world}
use Rattle.wit_merge.specs.steps.MergeSteps.{merging_of}
use Rattle.wit_merge.proofs.Movable.{worlds_join, worlds_move}
use Rattle.wit_merge.proofs.MergedIs.{merged_is}
use Rattle.wit_merge.proofs.worlds.joined_worlds.Goals as goal

pub joined_list-requires-clause-joining : goal.joined_list-requires-clause-joining
joined_list-requires-clause-joining c x x' from into at found there = worlds_join c.args.plan.now c.requires.ready x' into there

pub joined_list-requires-clause-moving : goal.joined_list-requires-clause-moving
joined_list-requires-clause-moving c x from at moves = worlds_move c.args.plan.now c.requires.ready x from at

pub returns : goal.returns
returns c =
    let u = c.args.plan.now in
    let m = merging_of u in
    let same = merged_is (counterpart_world m) _ u.matches.now.worlds c.requires.ready.matches.worlds (with_world m) (λ (e : ℕ × World). world_image (merge_maps m) e.0 e.1) u.other.now.worlds u.graph.now.worlds in
    IfOk-weaker c.joined_list.result _ _ (λ made is. is ∙ same) c.joined_list.ensures
