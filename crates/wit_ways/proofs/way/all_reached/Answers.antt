use Rattle.std.proofs.Common.{◌≡◌, ◌<◌, Some, arith, get_or, length, rules}
use Rattle.std.specs.Prelude.{slice_get}
use Rattle.std.proofs.lemmas.Option.{slice_get-get_or, slice_get_within}
use Rattle.wit_ways.specs.steps.Searching.{GoesOn}
use Rattle.wit_ways.proofs.Searching.{back_there, closed_kept, first_turn, searched, turn_closed, turn_searching, turn_within}
use Rattle.wit_ways.proofs.way.all_reached.Goals as goal

pub loop-next-init : goal.loop-next-init
loop-next-init c = record {
  searching = first_turn c.args.arrows.now c.args.goals.now c.args.start.now c.args.met c.new-search.result c.go_on.new.self c.new-search.ensures c.in_ok-go_on.ensures.on;
  begun = c.in_ok-go_on.ensures.closed;
  closed = λ q name met below at. absurd (omega (arith, below));
  within = omega arith;
}

pub bounds-arrows-reached : goal.bounds-arrows-reached
bounds-arrows-reached c =
    let at : slice_get c.loop-next.search.reached c.loop-next.next ≡ Some c.at-reached.result.now = search rules in
    let found = back_there c.args.arrows.now c.loop-next.search c.args.goals.now c.args.start.now c.args.met c.loop-next.invariant.searching c.loop-next.next c.at-reached.result.now at in
    slice_get_within c.args.arrows.now c.at-reached.result.now.arrow found.0 found.1

pub offset_bounds-arrows-reached : goal.offset_bounds-arrows-reached
offset_bounds-arrows-reached c =
    let at : slice_get c.loop-next.search.reached c.loop-next.next ≡ Some c.at-reached.result.now = search rules in
    let found = back_there c.args.arrows.now c.loop-next.search c.args.goals.now c.args.start.now c.args.met c.loop-next.invariant.searching c.loop-next.next c.at-reached.result.now at in
    let below : c.at-reached.result.now.arrow < length c.args.arrows.now = slice_get_within c.args.arrows.now c.at-reached.result.now.arrow found.0 found.1 in
    search rules

pub loop-next-preserved : goal.loop-next-preserved
loop-next-preserved c =
    let arrows = c.args.arrows.now in
    let goals = c.args.goals.now in
    let old = c.loop-next.search in
    let new = c.go_on-in-loop-next.new.self in
    let r = c.at-reached.result.now in
    let a = get_or arrows r.arrow c.index-arrows-reached.result in
    let at : slice_get old.reached c.loop-next.next ≡ Some r = search rules in
    let found = back_there arrows old goals c.args.start.now c.args.met c.loop-next.invariant.searching c.loop-next.next r at in
    let inside : r.arrow < length arrows = slice_get_within arrows r.arrow found.0 found.1 in
    let there : slice_get arrows r.arrow ≡ Some a = slice_get-get_or arrows r.arrow c.index-arrows-reached.result inside in
    let below : c.loop-next.next < length old.reached = slice_get_within old.reached c.loop-next.next r at in
    let on : GoesOn arrows goals a.to r.met (Some c.loop-next.next) old new = c.in_ok-go_on-2.ensures.on in
    record {
      searching = turn_searching arrows goals c.args.start.now c.args.met old new c.loop-next.next r a below at there on c.loop-next.invariant.searching;
      begun = closed_kept arrows goals c.args.start.now c.args.met old new on.kept c.args.start.now c.args.met c.loop-next.invariant.begun;
      closed = turn_closed arrows goals c.args.start.now c.args.met old new c.loop-next.next r a below at there on c.in_ok-go_on-2.ensures.closed c.loop-next.invariant.closed;
      within = turn_within arrows goals c.args.start.now c.args.met old new c.loop-next.next r a below at there on;
    }

pub returns : goal.returns
returns c =
    let past : length c.loop-next.search.reached ≡ c.loop-next.next = (search rules) in
    searched c.args.arrows.now c.args.goals.now c.args.start.now c.args.met c.loop-next.search c.loop-next.next past c.loop-next.invariant.searching c.loop-next.invariant.begun c.loop-next.invariant.closed
