use Rattle.std.proofs.Common.{◌≡◌, ◌∙◌, ◌<◌, inl, inr, ℕ, List, [], Option, Some, false, length, rules, sym, subst}
use Rattle.wit_ways.specs.Asked.{chosen_keys, coming_includes, coming_worlds, known_arrows}
use Rattle.wit_ways.specs.Conflicts.{AreExported, IsLabelWay, IsWorldWay}
use Rattle.wit_ways.specs.Includes.{included_labels}
use Rattle.wit_ways.specs.Ways.{IsChosen}
use Rattle.wit_ways.specs.Worlds.{label_text, world_at}
use Rattle.wit_ways.specs.declared.arrow.Arrow.{Arrow}
use Rattle.wit_ways.specs.declared.world_name.WorldName.{WorldName}
use Rattle.wit_ways.proofs.Outcomes.{if_ok}
use Rattle.wit_ways.proofs.conflict.conflict_way.Goals as goal

pub returns-then-not-is_empty : goal.returns-then-not-is_empty
returns-then-not-is_empty c =
    let state = c.args.resolve.now in
    let asked = c.args.asked.now in
    let goals = c.in_ok-goals.goals in
    let way = c.in_ok-way.way in
    let known = known_arrows state asked in
    let keys = chosen_keys asked in
    let world_is : c.in_ok-world.world ≡ world_at state.graph (coming_worlds asked) c.args.span = search rules in
    let exported : AreExported asked known (world_at state.graph (coming_worlds asked) c.args.span) keys goals =
    subst (λ (w : Option WorldName). AreExported asked known w keys goals) world_is
    (subst (λ (xs : List Arrow). AreExported asked xs c.in_ok-world.world keys goals) (c.as_slice.ensures ∙ c.in_ok-arrows.ensures) c.in_ok-goals.ensures) in
    let chosen : IsChosen known goals c.args.name.now false way =
    subst (λ (xs : List Arrow). IsChosen xs goals c.args.name.now false way) (c.as_slice-2.ensures ∙ c.in_ok-arrows.ensures) c.in_ok-way.ensures in
    let some : 0 < length way = search rules in
    (goals, exported, inl (chosen, some))

pub returns-in_ok-included-in-Some : goal.returns-in_ok-included-in-Some
returns-in_ok-included-in-Some c =
    let state = c.args.resolve.now in
    let asked = c.args.asked.now in
    let span = c.args.span in
    let name = c.args.name.now in
    let goals = c.in_ok-goals.goals in
    let known = known_arrows state asked in
    let keys = chosen_keys asked in
    let world_is : c.in_ok-world.world ≡ world_at state.graph (coming_worlds asked) span = search rules in
    let exported : AreExported asked known (world_at state.graph (coming_worlds asked) span) keys goals =
    subst (λ (w : Option WorldName). AreExported asked known w keys goals) world_is
    (subst (λ (xs : List Arrow). AreExported asked xs c.in_ok-world.world keys goals) (c.as_slice.ensures ∙ c.in_ok-arrows.ensures) c.in_ok-goals.ensures) in
    let none : c.in_ok-way.way ≡ [] = search rules in
    let chosen : IsChosen known goals name false [] =
    subst (λ (xs : List Arrow). IsChosen xs goals name false []) (c.as_slice-2.ensures ∙ c.in_ok-arrows.ensures)
    (subst (λ (w : List Arrow). IsChosen c.as_slice-2.result.now goals name false w) none c.in_ok-way.ensures) in
    let there : world_at state.graph (coming_worlds asked) span ≡ Some c.in-Some.world = sym world_is ∙ c.in-Some.is in
    let labels = included_labels (coming_includes asked) in
    let included_are : c.in_ok-included-in-Some.included ≡ labels name = search rules in
    let start = c.in_ok-start-in-Some.start in
    let start_is : start ≡ label_text c.in-Some.world name = search rules in
    if_ok c.label_way.result c.label_way.ensures
    (λ way led. (
      goals,
      exported,
      inr (
        chosen,
        subst (λ (w : Option WorldName). IsWorldWay asked known goals name w way) (sym there)
            (subst (λ (s : List ℕ). IsLabelWay known (labels name) goals s way) start_is
            (subst (λ (i : List Arrow). IsLabelWay known i goals start way) included_are
            (subst (λ (xs : List Arrow). IsLabelWay xs c.in_ok-included-in-Some.included goals start way) c.in_ok-arrows.ensures led))),
      ),
    ))
