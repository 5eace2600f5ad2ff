use Rattle.std.proofs.Common.{◌≡◌, ◌<◌, List, Some, None, length, rules, refl, subst, suc, sym, ◌++◌, ◌∷◌, []}
use Rattle.std.specs.Prelude.{slice_get, reverse}
use Rattle.std.specs.Option.{option_map_or}
use Rattle.std.proofs.lemmas.Option.{slice_get_read, slice_get_within}
use Rattle.wit_ways.specs.Ways.{IsWay}
use Rattle.wit_ways.specs.declared.arrow.Arrow.{Arrow}
use Rattle.wit_ways.proofs.Searching.{IsBack, back_first, back_more, back_smaller, back_there, led}
use Rattle.wit_ways.proofs.way.Search.way_to.Goals as goal

pub loop-next-init : goal.loop-next-init
loop-next-init c = subst (IsBack c.args.arrows.now c.args.self.now c.args.at (Some c.args.at)) (sym c.new-way.ensures) (back_first c.args.arrows.now c.args.self.now c.args.at c.requires.at)

pub bounds-arrows-reached : goal.bounds-arrows-reached
bounds-arrows-reached c =
    let at : slice_get c.args.self.now.reached c.in-Some.place ≡ Some c.at-reached.result.now = search rules in
    let found = back_there c.args.arrows.now c.args.self.now c.requires.search.0 c.requires.search.1 c.requires.search.2 c.requires.search.3 c.in-Some.place c.at-reached.result.now at in
    slice_get_within c.args.arrows.now c.at-reached.result.now.arrow found.0 found.1

pub offset_bounds-arrows-reached : goal.offset_bounds-arrows-reached
offset_bounds-arrows-reached c =
    let at : slice_get c.args.self.now.reached c.in-Some.place ≡ Some c.at-reached.result.now = search rules in
    let found = back_there c.args.arrows.now c.args.self.now c.requires.search.0 c.requires.search.1 c.requires.search.2 c.requires.search.3 c.in-Some.place c.at-reached.result.now at in
    let below : c.at-reached.result.now.arrow < length c.args.arrows.now = slice_get_within c.args.arrows.now c.at-reached.result.now.arrow found.0 found.1 in
    search rules

pub loop-next-smaller : goal.loop-next-smaller
loop-next-smaller c =
    let at : slice_get c.args.self.now.reached c.in-Some.place ≡ Some c.at-reached.result.now = search rules in
    let is : c.loop-next.next ≡ Some c.in-Some.place = search rules in
    subst (λ o. option_map_or suc c.at-reached.result.now.before 0 < option_map_or suc o 0) (sym is)
    (back_smaller c.args.arrows.now c.args.self.now c.requires.search.0 c.requires.search.1 c.requires.search.2 c.requires.search.3 c.in-Some.place c.at-reached.result.now at)

pub loop-next-preserved : goal.loop-next-preserved
loop-next-preserved c =
    let at : slice_get c.args.self.now.reached c.in-Some.place ≡ Some c.at-reached.result.now = search rules in
    let is : c.loop-next.next ≡ Some c.in-Some.place = search rules in
    let found = back_there c.args.arrows.now c.args.self.now c.requires.search.0 c.requires.search.1 c.requires.search.2 c.requires.search.3 c.in-Some.place c.at-reached.result.now at in
    let below : c.at-reached.result.now.arrow < length c.args.arrows.now = slice_get_within c.args.arrows.now c.at-reached.result.now.arrow found.0 found.1 in
    let there : slice_get c.args.arrows.now c.at-reached.result.now.arrow ≡ Some c.index-arrows-reached.result =
    slice_get_read c.args.arrows.now (length c.args.arrows.now) c.at-reached.result.now.arrow c.index-arrows-reached.result refl below (search rules) in
    let longer : c.push.new.self ≡ c.loop-next.way ++ c.index-arrows-reached.result ∷ [] = search rules in
    subst (IsBack c.args.arrows.now c.args.self.now c.args.at c.at-reached.result.now.before) (sym longer)
    (back_more c.args.arrows.now c.args.self.now c.requires.search.0 c.requires.search.1 c.requires.search.2 c.requires.search.3 c.args.at c.in-Some.place c.at-reached.result.now c.index-arrows-reached.result c.loop-next.way at there
    (subst (λ o. IsBack c.args.arrows.now c.args.self.now c.args.at o c.loop-next.way) is c.loop-next.invariant))

pub returns : goal.returns
returns c = λ goals start name first met is at.
    let none : c.loop-next.next ≡ None = search rules in
    let whole : c.from_vec.result ≡ reverse c.loop-next.way = search rules in
    subst (λ (way : List Arrow). IsWay c.args.arrows.now goals start first way name met × (0 < length way)) (sym whole)
    (led c.args.arrows.now c.args.self.now c.args.at c.loop-next.way (subst (λ o. IsBack c.args.arrows.now c.args.self.now c.args.at o c.loop-next.way) none c.loop-next.invariant) goals start name first met is at)
