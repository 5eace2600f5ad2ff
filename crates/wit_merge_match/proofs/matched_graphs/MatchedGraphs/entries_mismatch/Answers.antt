use Rattle.std.proofs.Common.{◌≡◌, ◌≢◌, length, arith, ◌∙◌}
use Rattle.std.specs.Map.Iter.{deref_pair}
use Rattle.std.proofs.lemmas.Map.Iter.{iter_end, iter_turn}
use Rattle.std.proofs.lemmas.List.{length_push}
use Rattle.wit_merge_match.specs.steps.Differing.{merging_of}
use Rattle.wit_merge_match.proofs.Steps.{EntryDiffersAt, counts_differ, entries_alike, entry_at_alike, entry_differs, none_next}
use Rattle.wit_merge_match.proofs.matched_graphs.MatchedGraphs.entries_mismatch.Goals as goal

pub returns-then-len-clause-some : goal.returns-then-len-clause-some
returns-then-len-clause-some c =
    let apart : length c.args.from.now ≢ length c.args.into.now = omega arith in
    counts_differ (merging_of c.args.self.now) c.args.word.now c.args.into.now c.args.from.now apart _ c.in_ok-other_count.ensures

pub returns-in-Some-2-clause-some : goal.returns-in-Some-2-clause-some
returns-in-Some-2-clause-some c =
    let turn = iter_turn deref_pair c.args.from.now c.loop-key.yielded _ _ _ _ (c.into_iter-key-iterator.ensures.into_iter_gives ∙ c.iter-key-items.ensures.rest) c.loop-key.yielded_by _ c.in-Some.is c.next.ensures.steps in
    entry_differs (merging_of c.args.self.now) c.args.word.now c.args.into.now c.args.from.now (length c.loop-key.yielded) _ turn.1 _ (rw c.in-Some-2.is at c.in_ok-text.ensures.some)

pub loop-key-preserved : goal.loop-key-preserved
loop-key-preserved c =
    let turn = iter_turn deref_pair c.args.from.now c.loop-key.yielded _ _ _ _ (c.into_iter-key-iterator.ensures.into_iter_gives ∙ c.iter-key-items.ensures.rest) c.loop-key.yielded_by _ c.in-Some.is c.next.ensures.steps in
    rw length_push
    (let m = merging_of c.args.self.now in
    none_next (EntryDiffersAt m c.args.word.now c.args.into.now c.args.from.now) (length c.loop-key.yielded) c.loop-key.invariant
    (entry_at_alike m c.args.word.now c.args.into.now c.args.from.now (length c.loop-key.yielded) _ turn.1 (rw c.in_default.is at c.in_ok-text.ensures.none)))

pub returns-clause-none : goal.returns-clause-none
returns-clause-none c =
    let end = iter_end deref_pair c.args.from.now c.loop-key.yielded _ _ _ _ (c.into_iter-key-iterator.ensures.into_iter_gives ∙ c.iter-key-items.ensures.rest) c.loop-key.yielded_by c.in-None.is c.next.ensures.steps in
    let long = end.1 in
    let same : length c.args.from.now ≡ length c.args.into.now = omega arith in
    entries_alike (merging_of c.args.self.now) c.args.word.now c.args.into.now c.args.from.now (length c.loop-key.yielded) same (omega arith) c.loop-key.invariant
