use Rattle.std.proofs.Common.{◌≡◌, ◌∙◌, ◌++◌, ℕ, List, false, ap, subst, fold}
use Rattle.wit_ways.specs.Conflicts.{AreSameLabels, exported_by, with_name}
use Rattle.wit_ways.specs.Ways.{IsChosen}
use Rattle.wit_ways.specs.declared.arrow.Arrow.{Arrow}
use Rattle.wit_ways.proofs.Outcomes.{if_ok}
use Rattle.wit_ways.proofs.conflict.label_way.Goals as goal

pub returns : goal.returns
returns c =
    let start = c.args.start.now in
    let labels = c.in_ok-labels.labels in
    let same = subst (λ (arrows : List Arrow). AreSameLabels arrows start labels) c.as_slice.ensures c.in_ok-labels.ensures in
    let under_are : c.in_ok-under.under ≡ exported_by labels c.args.arrows = c.in_ok-under.ensures ∙ ap (exported_by labels) c.as_slice-2.ensures in
    let goals = fold with_name (fold with_name c.args.goals labels) (exported_by labels c.args.arrows) in
    let goals_are : c.add_names-2.new.names ≡ goals =
    c.in_ok-add_names-2.ensures ∙ ap (λ (g : List (List ℕ)). fold with_name g c.in_ok-under.under) c.in_ok-add_names.ensures
    ∙ ap (fold with_name (fold with_name c.args.goals labels)) under_are in
    let arrows_are : c.as_slice-3.result.now ≡ c.args.arrows ++ c.args.included = c.as_slice-3.ensures ∙ c.in_ok-append.ensures.ok in
    if_ok c.find_way.result c.find_way.ensures
    (λ way chosen. (
      labels,
      same,
      subst (λ (arrows : List Arrow). IsChosen arrows goals start false way) arrows_are
          (subst (λ (g : List (List ℕ)). IsChosen c.as_slice-3.result.now g start false way) goals_are chosen),
    ))
