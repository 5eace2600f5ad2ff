use Rattle.std.proofs.Common.{◌∙◌, ◌++◌, ℕ, List, ap, map, sym}
use Rattle.std.proofs.lemmas.Result.{IfOk-weaker}
use Rattle.std.specs.List.{enumerate_from}
use Rattle.wit_graph_data.specs.declared.graph.Package.{Package}
use Rattle.wit_remap_spec.specs.Selected.{selected_with_index}
use Rattle.wit_merge_spec.specs.Merged.{package_image, with_package}
use Rattle.wit_merge_spec.specs.Matches.{counterpart_package}
use Rattle.wit_merge.specs.steps.MergeSteps.{merging_of}
use Rattle.wit_merge.proofs.Movable.{packages_join, packages_move}
use Rattle.wit_merge.proofs.MergedIs.{moves_is, merged_is, without_places}
use Rattle.wit_merge.proofs.packages.joined_packages.Goals as goal
use Rattle.wit_merge_spec.specs.steps.Parts.{joined_package, moves_package}

pub joined_list-requires-clause-joining : goal.joined_list-requires-clause-joining
joined_list-requires-clause-joining c x x' from into at found there =
    packages_join c.args.plan.now c.requires.ready x x' from into at (sym (c.requires.ready.matches.packages.each x) ∙ found) there

pub joined_list-requires-clause-moving : goal.joined_list-requires-clause-moving
joined_list-requires-clause-moving c x from at moves =
    let u = c.args.plan.now in
    packages_move u c.requires.ready x from at ((λ j. sym (moves_is (counterpart_package (merging_of u)) _ u.matches.now.packages c.requires.ready.matches.packages) j x) ∙ moves)

pub returns : goal.returns
returns c =
    let u = c.args.plan.now in
    let m = merging_of u in
    let same =
    merged_is (counterpart_package m) _ u.matches.now.packages c.requires.ready.matches.packages (λ (p : ℕ × Package). with_package m p.1) (λ (e : ℕ × Package). package_image m e.1) u.other.now.packages u.graph.now.packages
    ∙ ap (λ (l : List Package). map (joined_package m) (enumerate_from 0 u.graph.now.packages) ++ l) (without_places (package_image m) (selected_with_index (moves_package m) u.other.now.packages)) in
    IfOk-weaker c.joined_list.result _ _ (λ made is. is ∙ same) c.joined_list.ensures
