use Rattle.std.proofs.Common.{◌∙◌, ℕ, Bool, ap, map, sym}
use Rattle.std.proofs.lemmas.Result.{IfOk-weaker}
use Rattle.wit_graph_data.specs.declared.graph.Package.{Package}
use Rattle.wit_merge_spec.specs.Merged.{package_image}
use Rattle.wit_remap_spec.specs.Selected.{selected_with_index}
use Rattle.wit_merge_spec.specs.Matches.{counterpart_package}
use Rattle.wit_merge.specs.steps.MergeSteps.{merging_of}
use Rattle.wit_merge.proofs.Movable.{packages_move}
use Rattle.wit_merge.proofs.MergedIs.{moves_is, without_places}
use Rattle.wit_merge.proofs.packages.moved_packages.Goals as goal
use Rattle.wit_merge_spec.specs.steps.Parts.{moves_package}

pub move_all-requires-clause-can : goal.move_all-requires-clause-can
move_all-requires-clause-can c x from at moves = packages_move c.args.plan.now c.requires x from at ((λ j. sym (moves_is (counterpart_package (merging_of c.args.plan.now)) _ c.args.plan.now.matches.now.packages c.requires.matches.packages) j x) ∙ moves)

pub returns : goal.returns
returns c =
    let u = c.args.plan.now in
    let m = merging_of u in
    let same =
    ap (λ (kept : ℕ → Bool). map (λ (e : ℕ × Package). package_image m e.1) (selected_with_index kept u.other.now.packages)) (moves_is (counterpart_package m) _ u.matches.now.packages c.requires.matches.packages)
    ∙ without_places (package_image m) (selected_with_index (moves_package m) u.other.now.packages) in
    IfOk-weaker c.move_all.result _ _ (λ made is. is ∙ same) c.move_all.ensures
