use Rattle.std.proofs.Common.{◌≡◌, [], None, Some, arith, codes, rules, slice_get, string_bytes, ◌∙◌, length}
use Rattle.wit_values.specs.Names.{deref_named}
use Rattle.std.proofs.lemmas.Map.Iter.{iter_end, iter_turn}
use Rattle.std.proofs.lemmas.List.{length_push}
use Rattle.wit_merge_match.specs.steps.Differing.{merging_of}
use Rattle.wit_merge_spec.specs.MismatchText.{part_links}
use Rattle.wit_merge_spec.specs.Matches.{world_pairs}
use Rattle.wit_merge_match.specs.steps.Structures.{world_part}
use Rattle.wit_merge_match.proofs.PairSteps.{first_is, first_next, first_part, world_behind, none_all, none_is, none_next, none_of_none, none_part, none_same, of_home, of_none}
use Rattle.wit_merge_match.proofs.matched_graphs.MatchedGraphs.package_worlds_differ.Goals as goal

pub returns-in_default-clause-none : goal.returns-in_default-clause-none
returns-in_default-clause-none c =
    let is : None ≡ slice_get c.args.self.now.other.now.packages c.args.id = search rules in
    none_is (merging_of c.args.self.now) _ (of_none (merging_of c.args.self.now) _ c.args.id is)

pub loop-name-init : goal.loop-name-init
loop-name-init c =
    record { of = c.requires.of; none = none_of_none (merging_of c.args.self.now) }

pub returns-in-Some-3-clause-some : goal.returns-in-Some-3-clause-some
returns-in-Some-3-clause-some c =
    let turn = iter_turn deref_named c.in-Some.home.now.worlds c.loop-name.yielded _ _ _ _ (c.into_iter-name-iterator.ensures.into_iter_gives ∙ c.iter-name-items.ensures.rest) c.loop-name.yielded_by _ c.in-Some-2.is c.next.ensures.steps in
    let home_is : Some c.in-Some.home.now ≡ slice_get c.args.self.now.other.now.packages c.args.id = search rules in
    let told = rw c.in-Some-3.is at c.in_ok-text.ensures.some in
    let part = first_part (merging_of c.args.self.now) (part_links c.in-Some.home.now.name (codes "world") c.in-Some-2.name.now) (world_pairs (merging_of c.args.self.now) [] c.in-Some-2.world.now) _ (world_behind (merging_of c.args.self.now) (part_links c.in-Some.home.now.name (codes "world") c.in-Some-2.name.now) c.in-Some-2.world.now) (string_bytes c.in-Some-3.text) _ told (rw c.deref.ensures at c.in_ok-in_part.ensures) in
    first_is (merging_of c.args.self.now) _ _ (of_home (merging_of c.args.self.now) _ c.args.id c.in-Some.home.now home_is) _ (first_next (merging_of c.args.self.now) (world_part (merging_of c.args.self.now) c.in-Some.home.now.name) c.in-Some.home.now.worlds (length c.loop-name.yielded) _ turn.1 _ c.loop-name.invariant.none part)

pub loop-name-preserved : goal.loop-name-preserved
loop-name-preserved c =
    let turn = iter_turn deref_named c.in-Some.home.now.worlds c.loop-name.yielded _ _ _ _ (c.into_iter-name-iterator.ensures.into_iter_gives ∙ c.iter-name-items.ensures.rest) c.loop-name.yielded_by _ c.in-Some-2.is c.next.ensures.steps in
    rw length_push
    (record {
      of = c.world_differs.ensures.of;
      none =
          none_next (merging_of c.args.self.now) (world_part (merging_of c.args.self.now) c.in-Some.home.now.name) c.in-Some.home.now.worlds (length c.loop-name.yielded) _ turn.1 c.loop-name.invariant.none
          (none_part (merging_of c.args.self.now) (part_links c.in-Some.home.now.name (codes "world") c.in-Some-2.name.now) (world_pairs (merging_of c.args.self.now) [] c.in-Some-2.world.now) _ (world_behind (merging_of c.args.self.now) (part_links c.in-Some.home.now.name (codes "world") c.in-Some-2.name.now) c.in-Some-2.world.now) (rw c.in_default-2.is at c.in_ok-text.ensures.none));
    })

pub returns-clause-none : goal.returns-clause-none
returns-clause-none c =
    let end = iter_end deref_named c.in-Some.home.now.worlds c.loop-name.yielded _ _ _ _ (c.into_iter-name-iterator.ensures.into_iter_gives ∙ c.iter-name-items.ensures.rest) c.loop-name.yielded_by c.in-None.is c.next.ensures.steps in
    let long = end.1 in
    let home_is : Some c.in-Some.home.now ≡ slice_get c.args.self.now.other.now.packages c.args.id = search rules in
    none_same (merging_of c.args.self.now) _ _ (of_home (merging_of c.args.self.now) _ c.args.id c.in-Some.home.now home_is) (none_all (merging_of c.args.self.now) (world_part (merging_of c.args.self.now) c.in-Some.home.now.name) c.in-Some.home.now.worlds (length c.loop-name.yielded) (omega arith) c.loop-name.invariant.none)
