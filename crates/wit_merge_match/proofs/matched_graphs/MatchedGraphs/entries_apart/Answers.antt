use Rattle.std.proofs.Common.{arith, ◌∙◌, length}
use Rattle.std.specs.Map.Iter.{deref_pair}
use Rattle.std.proofs.lemmas.Map.Iter.{iter_end, iter_turn}
use Rattle.std.proofs.lemmas.List.{length_push}
use Rattle.wit_merge_match.specs.steps.Differing.{merging_of}
use Rattle.wit_merge_match.proofs.Apart.{EntryApartAt, entries_apart, entries_fit, entry_fits}
use Rattle.wit_merge_match.proofs.Steps.{none_next}
use Rattle.wit_merge_match.proofs.matched_graphs.MatchedGraphs.entries_apart.Goals as goal

pub returns-in-Some-entry_apart-clause-some : goal.returns-in-Some-entry_apart-clause-some
returns-in-Some-entry_apart-clause-some c =
    let turn = iter_turn deref_pair c.args.from.now c.loop-key.yielded _ _ _ _ (c.into_iter-key-iterator.ensures.into_iter_gives ∙ c.iter-key-items.ensures.rest) c.loop-key.yielded_by _ c.in-Some.is c.next.ensures.steps in
    entries_apart (merging_of c.args.self.now) c.args.from.now c.args.into.now (length c.loop-key.yielded) _ turn.1 _ c.in-Some-entry_apart.ensures.some

pub loop-key-preserved : goal.loop-key-preserved
loop-key-preserved c =
    let turn = iter_turn deref_pair c.args.from.now c.loop-key.yielded _ _ _ _ (c.into_iter-key-iterator.ensures.into_iter_gives ∙ c.iter-key-items.ensures.rest) c.loop-key.yielded_by _ c.in-Some.is c.next.ensures.steps in
    rw length_push
    (let m = merging_of c.args.self.now in
    none_next (EntryApartAt m c.args.from.now c.args.into.now) (length c.loop-key.yielded) c.loop-key.invariant
    (entry_fits m c.args.from.now c.args.into.now (length c.loop-key.yielded) _ turn.1 c.in_default.ensures.none))

pub returns-clause-none : goal.returns-clause-none
returns-clause-none c =
    let end = iter_end deref_pair c.args.from.now c.loop-key.yielded _ _ _ _ (c.into_iter-key-iterator.ensures.into_iter_gives ∙ c.iter-key-items.ensures.rest) c.loop-key.yielded_by c.in-None.is c.next.ensures.steps in
    let long = end.1 in
    entries_fit (merging_of c.args.self.now) c.args.from.now c.args.into.now c.keys_differ.ensures.test (length c.loop-key.yielded) (omega arith) c.loop-key.invariant
