use Rattle.std.proofs.Common.{◌≡◌, ◌∙◌, ◌<◌, ℕ, Some, arith, below_more, length, slice_get, subst, sym}
use Rattle.std.specs.Map.Iter.{deref_pair}
use Rattle.std.proofs.lemmas.Map.Iter.{iter_end, iter_turn}
use Rattle.std.proofs.lemmas.List.{length_push}
use Rattle.std.proofs.lemmas.Option.{slice_get_within}
use Rattle.wit_data.specs.Entries.{Entry}
use Rattle.wit_graph_theory.specs.facts.ListFacts.{place_of}
use Rattle.wit_graph_theory.specs.facts.OptionFacts.{some_same}
use Rattle.wit_merge_match.specs.steps.Differing.{merging_of}
use Rattle.wit_merge_match.specs.steps.Leaving.{EntryLeaves}
use Rattle.wit_merge_match.proofs.matched_graphs.MatchedGraphs.entries_stay.Goals as goal

pub loop-key-preserved : goal.loop-key-preserved
loop-key-preserved c =
    let m = merging_of c.args.self.now in
    let from = c.args.from.now in
    let into = c.args.into.now in
    let turn = iter_turn deref_pair from c.loop-key.yielded _ _ _ _ (c.into_iter-key-iterator.ensures.into_iter_gives ∙ c.iter-key-items.ensures.rest) c.loop-key.yielded_by _ c.in-Some.is c.next.ensures.steps in
    rw length_push
    (below_more (λ (k : ℕ). (e : Entry) → slice_get from k ≡ Some e → EntryLeaves m into e.0 e.1) (length c.loop-key.yielded) c.loop-key.invariant
    (λ e at. let same : (c.in-Some.key.now, c.in-Some.item.now) ≡ e = some_same _ e (sym turn.1 ∙ at) in subst (λ (d : Entry). EntryLeaves m into d.0 d.1) same (c.entry_stays.ensures c.if-not-entry_stays.false)))

pub returns : goal.returns
returns c = λ _.
    let from = c.args.from.now in
    let end = iter_end deref_pair from c.loop-key.yielded _ _ _ _ (c.into_iter-key-iterator.ensures.into_iter_gives ∙ c.iter-key-items.ensures.rest) c.loop-key.yielded_by c.in-None.is c.next.ensures.steps in
    let long = end.1 in
    record {
      distinct = c.keys_differ.ensures.test;
      each = λ e has.
          let place = place_of from e has in
          let within : place.0 < length from = slice_get_within from place.0 e place.1 in
          c.loop-key.invariant place.0 (omega (arith, long, within)) e place.1;
    }
