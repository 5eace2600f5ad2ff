use Rattle.std.proofs.Common.{◌∙◌, ◌++◌, ℕ, List, ap, append_assoc, map}
use Rattle.std.specs.List.{enumerate_from}
use Rattle.wit_data.specs.declared.types.TypeDef.{TypeDef}
use Rattle.wit_remap_spec.specs.Image.{type_image}
use Rattle.wit_remap_spec.specs.Selected.{selected_with_index}
use Rattle.wit_merge_spec.specs.Merged.{merge_maps, value_remap}
use Rattle.wit_merge_spec.specs.Matches.{counterpart_type}
use Rattle.wit_merge.specs.steps.MergeSteps.{merging_of}
use Rattle.wit_merge.proofs.Movable.{types_move}
use Rattle.wit_merge.proofs.MergedIs.{merged_is, without_places}
use Rattle.wit_merge.proofs.types.joined_types.Goals as goal
use Rattle.wit_remap_spec.specs.steps.Parts.{owns}
use Rattle.wit_merge_spec.specs.steps.Parts.{moved_types, with_type, joined_type, moves_type}

pub joined_list-requires-clause-moving : goal.joined_list-requires-clause-moving
joined_list-requires-clause-moving c x from at moves = types_move c.args.plan.now c.requires.ready x from at

pub returns : goal.returns
returns c =
    let u = c.args.plan.now in
    let m = merging_of u in
    let image = λ (e : ℕ × TypeDef). type_image (merge_maps m) e.1 in
    let kept = map (joined_type m) (enumerate_from 0 u.graph.now.types) in
    let told =
    c.in_ok-types.ensures
    ∙ merged_is (counterpart_type m) _ u.matches.now.types c.requires.ready.matches.types (λ (p : ℕ × TypeDef). with_type p.1) image u.other.now.types u.graph.now.types
    ∙ ap (λ (l : List TypeDef). kept ++ l) (without_places (type_image (merge_maps m)) (selected_with_index (moves_type m) u.other.now.types)) in
    c.in_ok-append.ensures.ok ∙ (λ j. told j ++ c.requires.owns j) ∙ append_assoc kept (map (type_image (merge_maps m)) (moved_types m)) (owns (value_remap m))
