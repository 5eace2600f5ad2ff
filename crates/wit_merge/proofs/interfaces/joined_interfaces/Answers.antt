use Rattle.std.proofs.Common.{◌∙◌, ◌++◌, ℕ, List, ap, map, sym}
use Rattle.std.proofs.lemmas.Result.{IfOk-weaker}
use Rattle.std.specs.List.{enumerate_from}
use Rattle.wit_data.specs.declared.interface.Interface.{Interface}
use Rattle.wit_remap_spec.specs.Image.{interface_image}
use Rattle.wit_remap_spec.specs.Selected.{selected_with_index}
use Rattle.wit_merge_spec.specs.Merged.{with_interface, merge_maps}
use Rattle.wit_merge_spec.specs.Matches.{counterpart_interface}
use Rattle.wit_merge.specs.steps.MergeSteps.{merging_of}
use Rattle.wit_merge.proofs.Movable.{interfaces_join, interfaces_move}
use Rattle.wit_merge.proofs.MergedIs.{merged_is, without_places}
use Rattle.wit_merge.proofs.interfaces.joined_interfaces.Goals as goal
use Rattle.wit_merge_spec.specs.steps.Parts.{joined_interface, moves_interface}

pub joined_list-requires-clause-joining : goal.joined_list-requires-clause-joining
joined_list-requires-clause-joining c x x' from into at found there =
    interfaces_join c.args.plan.now c.requires.ready x x' from into at (sym (c.requires.ready.matches.interfaces.each x) ∙ found) there

pub joined_list-requires-clause-moving : goal.joined_list-requires-clause-moving
joined_list-requires-clause-moving c x from at moves = interfaces_move c.args.plan.now c.requires.ready x from at

pub returns : goal.returns
returns c =
    let u = c.args.plan.now in
    let m = merging_of u in
    let image = λ (e : ℕ × Interface). interface_image (merge_maps m) e.1 in
    let same =
    merged_is (counterpart_interface m) _ u.matches.now.interfaces c.requires.ready.matches.interfaces (λ (p : ℕ × Interface). with_interface m p.1) image u.other.now.interfaces u.graph.now.interfaces
    ∙ ap (λ (l : List Interface). map (joined_interface m) (enumerate_from 0 u.graph.now.interfaces) ++ l) (without_places (interface_image (merge_maps m)) (selected_with_index (moves_interface m) u.other.now.interfaces)) in
    IfOk-weaker c.joined_list.result _ _ (λ made is. is ∙ same) c.joined_list.ensures
