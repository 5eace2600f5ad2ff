use Rattle.std.proofs.Common.{[], arith, ◌∙◌, length}
use Rattle.std.specs.Map.Iter.{deref_pair}
use Rattle.std.proofs.lemmas.Map.Iter.{iter_end, iter_turn}
use Rattle.std.proofs.lemmas.List.{length_push}
use Rattle.wit_merge_match.specs.steps.Differing.{merging_of}
use Rattle.wit_graph_theory.specs.facts.ListFacts.{contained_at}
use Rattle.wit_merge_spec.specs.Matches.{entry_pairs}
use Rattle.wit_merge_match.proofs.PairSteps.{first_next, none_all, none_next, none_of_none}
use Rattle.wit_merge_match.proofs.matched_graphs.MatchedGraphs.entries_differ.Goals as goal

pub loop-key-init : goal.loop-key-init
loop-key-init c =
    record { of = c.requires.of; none = none_of_none (merging_of c.args.self.now) }

pub entry_differs-requires-clause-from : goal.entry_differs-requires-clause-from
entry_differs-requires-clause-from c =
    let turn = iter_turn deref_pair c.args.from.now c.loop-key.yielded _ _ _ _ (c.into_iter-key-iterator.ensures.into_iter_gives ∙ c.iter-key-items.ensures.rest) c.loop-key.yielded_by _ c.in-Some.is c.next.ensures.steps in
    c.requires.from _ (contained_at c.args.from.now (length c.loop-key.yielded) _ turn.1)

pub returns-in-Some-2-clause-some : goal.returns-in-Some-2-clause-some
returns-in-Some-2-clause-some c =
    let turn = iter_turn deref_pair c.args.from.now c.loop-key.yielded _ _ _ _ (c.into_iter-key-iterator.ensures.into_iter_gives ∙ c.iter-key-items.ensures.rest) c.loop-key.yielded_by _ c.in-Some.is c.next.ensures.steps in
    first_next (merging_of c.args.self.now) (entry_pairs (merging_of c.args.self.now) [] c.args.word.now c.args.into.now) c.args.from.now (length c.loop-key.yielded) _ turn.1 _ c.loop-key.invariant.none (rw c.in-Some-2.is at c.in_ok-text.ensures.some)

pub loop-key-preserved : goal.loop-key-preserved
loop-key-preserved c =
    let turn = iter_turn deref_pair c.args.from.now c.loop-key.yielded _ _ _ _ (c.into_iter-key-iterator.ensures.into_iter_gives ∙ c.iter-key-items.ensures.rest) c.loop-key.yielded_by _ c.in-Some.is c.next.ensures.steps in
    rw length_push
    (record {
      of = c.entry_differs.ensures.of;
      none = none_next (merging_of c.args.self.now) (entry_pairs (merging_of c.args.self.now) [] c.args.word.now c.args.into.now) c.args.from.now (length c.loop-key.yielded) _ turn.1 c.loop-key.invariant.none (rw c.in_default.is at c.in_ok-text.ensures.none);
    })

pub returns-clause-none : goal.returns-clause-none
returns-clause-none c =
    let end = iter_end deref_pair c.args.from.now c.loop-key.yielded _ _ _ _ (c.into_iter-key-iterator.ensures.into_iter_gives ∙ c.iter-key-items.ensures.rest) c.loop-key.yielded_by c.in-None.is c.next.ensures.steps in
    let long = end.1 in
    none_all (merging_of c.args.self.now) (entry_pairs (merging_of c.args.self.now) [] c.args.word.now c.args.into.now) c.args.from.now (length c.loop-key.yielded) (omega arith) c.loop-key.invariant.none
