use Rattle.std.proofs.Common.{◌≡◌, ◌∙◌, ℕ, List, None, Some, arith, length, refl, rules, slice_get, string_bytes, subst, sym}
use Rattle.wit_values.specs.Names.{deref_named}
use Rattle.std.proofs.lemmas.Map.Iter.{iter_end, iter_turn}
use Rattle.std.proofs.lemmas.List.{length_push}
use Rattle.wit_merge_match.specs.steps.Differing.{merging_of}
use Rattle.wit_graph_theory.specs.facts.ListFacts.{contained_at}
use Rattle.wit_merge_spec.specs.Matches.{matched_interface}
use Rattle.std.specs.List.{flat_map}
use Rattle.wit_merge_match.specs.steps.Structures.{FirstMismatch, NoneDiffer, common_pair}
use Rattle.wit_merge_match.proofs.PairSteps.{first_is, first_next, interface_absent, interface_alone, interface_is, none_all, none_is, none_next, none_of_none, none_same}
use Rattle.wit_merge_match.proofs.TypesCompared.{beside_lists, listed_there}
use Rattle.wit_merge_match.proofs.matched_graphs.MatchedGraphs.interface_differs.Goals as goal

pub returns-in_default-clause-none : goal.returns-in_default-clause-none
returns-in_default-clause-none c =
    let is : None ≡ slice_get c.args.self.now.other.now.interfaces c.args.id = search rules in
    none_is (merging_of c.args.self.now) _ (interface_absent (merging_of c.args.self.now) c.args.id is)

pub returns-in_default-matched_interface-clause-none : goal.returns-in_default-matched_interface-clause-none
returns-in_default-matched_interface-clause-none c =
    let from_is : Some c.in-Some.from.now ≡ slice_get c.args.self.now.other.now.interfaces c.args.id = search rules in
    let alone : None ≡ matched_interface (merging_of c.args.self.now) c.args.id = search rules in
    none_is (merging_of c.args.self.now) _ (interface_alone (merging_of c.args.self.now) c.args.id c.in-Some.from.now from_is alone)

pub loop-name-init : goal.loop-name-init
loop-name-init c =
    record { of = c.requires.of; none = none_of_none (merging_of c.args.self.now) }

pub type_differs-requires-clause-from : goal.type_differs-requires-clause-from
type_differs-requires-clause-from c =
    let turn = iter_turn deref_named c.in-Some.from.now.types c.loop-name.yielded _ _ _ _ (c.into_iter-name-iterator.ensures.into_iter_gives ∙ c.iter-name-items.ensures.rest) c.loop-name.yielded_by _ c.in-Some-2.is c.next.ensures.steps in
    let from_is : Some c.in-Some.from.now ≡ slice_get c.args.self.now.other.now.interfaces c.args.id = search rules in
    listed_there c.args.self.now.other.now c.requires.comparable.other c.args.id c.in-Some.from.now (sym from_is) _ _ (contained_at c.in-Some.from.now.types (length c.loop-name.yielded) _ turn.1)

pub type_differs-requires-clause-others : goal.type_differs-requires-clause-others
type_differs-requires-clause-others c =
    let into_is : Some c.in-Some-matched_interface.into.now ≡ matched_interface (merging_of c.args.self.now) c.args.id = search rules in
    beside_lists (merging_of c.args.self.now) c.requires.comparable.graph c.args.id c.in-Some-matched_interface.into.now into_is

pub returns-in-Some-3-clause-some : goal.returns-in-Some-3-clause-some
returns-in-Some-3-clause-some c =
    let turn = iter_turn deref_named c.into_iter-name-iterator.result c.loop-name.yielded _ _ _ _ refl c.loop-name.yielded_by _ c.in-Some-2.is c.next.ensures.steps in
    let from_is : Some c.in-Some.from.now ≡ slice_get c.args.self.now.other.now.interfaces c.args.id = search rules in
    let into_is : Some c.in-Some-matched_interface.into.now ≡ matched_interface (merging_of c.args.self.now) c.args.id = search rules in
    first_is (merging_of c.args.self.now) _ _ (interface_is (merging_of c.args.self.now) c.args.id c.in-Some.from.now c.in-Some-matched_interface.into.now from_is into_is) _
    (subst (λ (xs : List (List ℕ × ℕ)). FirstMismatch (merging_of c.args.self.now) (flat_map (common_pair c.in-Some-matched_interface.into.now.types) xs) (string_bytes c.in-Some-3.text)) (c.into_iter-name-iterator.ensures.into_iter_gives ∙ c.iter-name-items.ensures.rest)
    (first_next (merging_of c.args.self.now) (common_pair c.in-Some-matched_interface.into.now.types) c.into_iter-name-iterator.result (length c.loop-name.yielded) _ turn.1 _ c.loop-name.invariant.none (rw c.in-Some-3.is at c.in_ok-text.ensures.some)))

pub loop-name-preserved : goal.loop-name-preserved
loop-name-preserved c =
    let turn = iter_turn deref_named c.into_iter-name-iterator.result c.loop-name.yielded _ _ _ _ refl c.loop-name.yielded_by _ c.in-Some-2.is c.next.ensures.steps in
    rw length_push
    (record {
      of = c.type_differs.ensures.of;
      none = none_next (merging_of c.args.self.now) (common_pair c.in-Some-matched_interface.into.now.types) c.into_iter-name-iterator.result (length c.loop-name.yielded) _ turn.1 c.loop-name.invariant.none (rw c.in_default-2.is at c.in_ok-text.ensures.none);
    })

pub returns-clause-none : goal.returns-clause-none
returns-clause-none c =
    let end = iter_end deref_named c.into_iter-name-iterator.result c.loop-name.yielded _ _ _ _ refl c.loop-name.yielded_by c.in-None.is c.next.ensures.steps in
    let long = end.1 in
    let from_is : Some c.in-Some.from.now ≡ slice_get c.args.self.now.other.now.interfaces c.args.id = search rules in
    let into_is : Some c.in-Some-matched_interface.into.now ≡ matched_interface (merging_of c.args.self.now) c.args.id = search rules in
    none_same (merging_of c.args.self.now) _ _ (interface_is (merging_of c.args.self.now) c.args.id c.in-Some.from.now c.in-Some-matched_interface.into.now from_is into_is)
    (subst (λ (xs : List (List ℕ × ℕ)). NoneDiffer (merging_of c.args.self.now) (flat_map (common_pair c.in-Some-matched_interface.into.now.types) xs)) (c.into_iter-name-iterator.ensures.into_iter_gives ∙ c.iter-name-items.ensures.rest)
    (none_all (merging_of c.args.self.now) (common_pair c.in-Some-matched_interface.into.now.types) c.into_iter-name-iterator.result (length c.loop-name.yielded) (omega arith) c.loop-name.invariant.none))
