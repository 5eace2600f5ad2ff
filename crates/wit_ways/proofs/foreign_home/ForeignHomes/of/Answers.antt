use Rattle.std.proofs.Common.{◌∙◌, ◌+◌, ◌≤◌, ℕ, List, Option, ap, drop, length, option_map, rules, sym}
use Rattle.std.proofs.lemmas.List.{drop_all}
use Rattle.std.specs.Option.{option_or}
use Rattle.wit_data.specs.Foreign.{ForeignItem, ForeignItems}
use Rattle.wit_names.specs.declared.package_name.PackageName.{PackageName}
use Rattle.wit_ways.specs.steps.ForeignHomes.{home_place, place_in}
use Rattle.wit_ways.proofs.ForeignHomes.{or_first, or_nothing}
use Rattle.wit_ways.proofs.Ranges.{drop_next}
use Rattle.wit_ways.proofs.foreign_home.ForeignHomes.of.Goals as goal

pub loop-place-preserved : goal.loop-place-preserved
loop-place-preserved c = λ it.
    let deps = c.args.«package».now.foreign_deps in
    let place : ℕ = c.loop-place.place in
    let e : PackageName × List ForeignItem = (c.entry_at.result.0.now, c.entry_at.result.1.now) in
    let rest : ForeignItems = drop (place + 1) deps in
    ap (λ (noted : Option ℕ). option_or noted (option_map (λ j. place + 1 + j) (place_in it rest))) (c.in_ok-add_items.ensures it)
    ∙ or_first (home_place c.loop-place.homes it) it place e rest
    ∙ sym (ap (λ (left : ForeignItems). option_or (home_place c.loop-place.homes it) (option_map (λ j. place + j) (place_in it left))) (drop_next deps place e c.entry_at.ensures))
    ∙ c.loop-place.invariant it

pub returns : goal.returns
returns c = λ it.
    let deps = c.args.«package».now.foreign_deps in
    let place : ℕ = c.loop-place.place in
    let long : length deps ≤ place = search rules in
    let noted = home_place c.loop-place.homes it in
    sym (or_nothing noted) ∙ sym (ap (λ (left : ForeignItems). option_or noted (option_map (λ j. place + j) (place_in it left))) (drop_all place deps long)) ∙ c.loop-place.invariant it
