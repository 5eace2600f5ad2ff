use Rattle.std.proofs.Common.{◌≡◌, ◌<◌, ◌||◌, ◌∙◌, Some, None, arith, length, rules, refl, subst, suc, sym, not}
use Rattle.std.specs.Prelude.{slice_get}
use Rattle.std.specs.Option.{option_map_or}
use Rattle.std.proofs.lemmas.Option.{slice_get_read, slice_get_within}
use Rattle.wit_ways.specs.Ways.{is_among}
use Rattle.wit_ways.specs.steps.Searching.{GoesOn, with_reached}
use Rattle.wit_ways.specs.declared.way.Search.{Search}
use Rattle.wit_ways.proofs.Searching.{AreDone, done_all, done_first, gone, next_arrow, next_before, on_refl}
use Rattle.wit_ways.proofs.way.Search.go_on.Goals as goal

pub loop-next-init : goal.loop-next-init
loop-next-init c = record {
  on = on_refl c.args.arrows.now c.args.goals.now c.args.from.now c.args.met c.args.before c.args.self.now;
  done = subst (AreDone c.args.arrows.now c.args.goals.now c.args.self.now c.args.from.now c.args.met) (sym (c.last_from-next.ensures ∙ c.requires.last_is c.args.from.now))
      (done_first c.args.arrows.now c.args.goals.now c.args.from.now c.args.met c.args.self.now);
}

pub bounds-arrows-arrow : goal.bounds-arrows-arrow
bounds-arrows-arrow c =
    let is : c.loop-next.next ≡ Some c.in-Some.arrow = search rules in
    let next = next_arrow c.args.arrows.now c.args.goals.now c.args.from.now c.args.met c.loop-next.self c.in-Some.arrow
    (subst (AreDone c.args.arrows.now c.args.goals.now c.loop-next.self c.args.from.now c.args.met) is c.loop-next.invariant.done) in
    slice_get_within c.args.arrows.now c.in-Some.arrow next.1.0 next.1.1

pub offset_bounds-arrows-arrow : goal.offset_bounds-arrows-arrow
offset_bounds-arrows-arrow c =
    let is : c.loop-next.next ≡ Some c.in-Some.arrow = search rules in
    let next = next_arrow c.args.arrows.now c.args.goals.now c.args.from.now c.args.met c.loop-next.self c.in-Some.arrow
    (subst (AreDone c.args.arrows.now c.args.goals.now c.loop-next.self c.args.from.now c.args.met) is c.loop-next.invariant.done) in
    let below : c.in-Some.arrow < length c.args.arrows.now = slice_get_within c.args.arrows.now c.in-Some.arrow next.1.0 next.1.1 in
    search rules

pub at-next-requires : goal.at-next-requires
at-next-requires c =
    let is : c.loop-next.next ≡ Some c.in-Some.arrow = search rules in
    let next = next_arrow c.args.arrows.now c.args.goals.now c.args.from.now c.args.met c.loop-next.self c.in-Some.arrow
    (subst (AreDone c.args.arrows.now c.args.goals.now c.loop-next.self c.args.from.now c.args.met) is c.loop-next.invariant.done) in
    omega (arith, slice_get_within c.args.arrows.now c.in-Some.arrow next.1.0 next.1.1, c.requires.long)

pub loop-next-smaller : goal.loop-next-smaller
loop-next-smaller c =
    let is : c.loop-next.next ≡ Some c.in-Some.arrow = search rules in
    let there : slice_get c.args.index.now.before c.in-Some.arrow ≡ Some c.at-next.result.now = search rules in
    let done = subst (AreDone c.args.arrows.now c.args.goals.now c.loop-next.self c.args.from.now c.args.met) is c.loop-next.invariant.done in
    let next = next_before c.args.arrows.now c.args.goals.now c.args.from.now c.args.met c.args.index.now c.requires c.loop-next.self c.in-Some.arrow done c.at-next.result.now there in
    subst (λ o. option_map_or suc c.at-next.result.now 0 < option_map_or suc o 0) (sym is) next.1

pub loop-next-preserved : goal.loop-next-preserved
loop-next-preserved c =
    let arrows = c.args.arrows.now in
    let goals = c.args.goals.now in
    let is : c.loop-next.next ≡ Some c.in-Some.arrow = search rules in
    let there : slice_get c.args.index.now.before c.in-Some.arrow ≡ Some c.at-next.result.now = search rules in
    let done = subst (AreDone arrows goals c.loop-next.self c.args.from.now c.args.met) is c.loop-next.invariant.done in
    let next = next_arrow arrows goals c.args.from.now c.args.met c.loop-next.self c.in-Some.arrow done in
    let below : c.in-Some.arrow < length arrows = slice_get_within arrows c.in-Some.arrow next.1.0 next.1.1 in
    let at : slice_get arrows c.in-Some.arrow ≡ Some c.index-arrows-arrow.result = slice_get_read arrows (length arrows) c.in-Some.arrow c.index-arrows-arrow.result refl below (search rules) in
    let past : c.if-met.past ≡ (c.args.met || not (is_among goals c.index-arrows-arrow.result.to)) = search rules in
    let reached : c.reach.new.self ≡ with_reached c.loop-next.self c.index-arrows-arrow.result.to (record { arrow = c.in-Some.arrow; before = c.args.before; met = c.if-met.past }) = search rules in
    let turn = gone arrows goals c.args.from.now c.args.met c.args.before c.args.index.now c.requires c.args.self.now c.loop-next.self c.in-Some.arrow c.index-arrows-arrow.result c.if-met.past c.at-next.result.now
    c.loop-next.invariant.on done at past there in
    record {
      on = subst (GoesOn arrows goals c.args.from.now c.args.met c.args.before c.args.self.now) (sym reached) turn.0;
      done = subst (λ (s : Search). AreDone arrows goals s c.args.from.now c.args.met c.at-next.result.now) (sym reached) turn.1;
    }

pub returns-clause-closed : goal.returns-clause-closed
returns-clause-closed c =
    let none : c.loop-next.next ≡ None = search rules in
    done_all c.args.arrows.now c.args.goals.now c.args.from.now c.args.met c.loop-next.self
    (subst (AreDone c.args.arrows.now c.args.goals.now c.loop-next.self c.args.from.now c.args.met) none c.loop-next.invariant.done)
