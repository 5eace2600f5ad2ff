use Rattle.std.proofs.Common.{subst, sym}
use Rattle.std.proofs.lemmas.Option.{slice_get_within}
use Rattle.wit_ways.specs.Ways.{IsChosen}
use Rattle.wit_ways.proofs.Searching.{answered, back_there, chosen_none}
use Rattle.wit_ways.proofs.way.find_way.Goals as goal

pub goal-requires : goal.goal-requires
goal-requires c = λ q r at.
    let s = c.in_ok-search.search in
    let found = back_there c.args.arrows.now s c.args.goals.now c.args.start.now c.args.met c.in_ok-search.ensures.searching q r at in
    slice_get_within c.args.arrows.now r.arrow found.0 found.1

pub way_to-requires-clause-at : goal.way_to-requires-clause-at
way_to-requires-clause-at c =
    let some = c.in-Some.ensures.some in
    slice_get_within c.in_ok-search.search.reached c.in-Some.at some.0 some.2

pub returns-in-Some : goal.returns-in-Some
returns-in-Some c =
    answered c.args.arrows.now c.args.goals.now c.args.start.now c.args.met c.in_ok-search.search c.in-Some.at c.way_to.result c.in_ok-search.ensures.searching c.in-Some.ensures.some c.way_to.ensures

pub returns : goal.returns
returns c =
    subst (IsChosen c.args.arrows.now c.args.goals.now c.args.start.now c.args.met) (sym c.new.ensures)
    (chosen_none c.args.arrows.now c.args.goals.now c.args.start.now c.args.met c.in_ok-search.search c.in_ok-search.ensures c.in-None.ensures.none)
