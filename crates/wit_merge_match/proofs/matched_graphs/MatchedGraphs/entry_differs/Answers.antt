use Rattle.std.proofs.Common.{◌≡◌, ◌∷◌, [], rules, string_bytes}
use Rattle.wit_merge_match.specs.steps.Differing.{merging_of}
use Rattle.wit_data.specs.declared.world.WorldKey.TheVariants as key
use Rattle.wit_merge_spec.specs.MismatchText.{entry_link}
use Rattle.wit_merge_spec.specs.Matches.{item_pairs}
use Rattle.wit_merge_match.proofs.PairSteps.{entry_absent, entry_is, entry_keyed, first_part, none_is, none_part}
use Rattle.wit_merge_match.proofs.TypesCompared.{item_there}
use Rattle.wit_merge_match.proofs.matched_graphs.MatchedGraphs.entry_differs.Goals as goal

pub returns-in-Interface-clause-none : goal.returns-in-Interface-clause-none
returns-in-Interface-clause-none c =
    none_is (merging_of c.args.self.now) _ (entry_keyed (merging_of c.args.self.now) c.args.word.now c.args.into.now c.args.key.now _ c.args.from.now c.in-Interface.is)

pub returns-in_default-clause-none : goal.returns-in_default-clause-none
returns-in_default-clause-none c =
    let key_is : c.args.key.now ≡ key.Name c.as_str-label.result.now = search rules in
    none_is (merging_of c.args.self.now) _ (entry_absent (merging_of c.args.self.now) c.args.word.now c.args.into.now c.args.key.now c.as_str-label.result.now c.args.from.now key_is c.in_default.ensures)

pub items_differ-requires-clause-into : goal.items_differ-requires-clause-into
items_differ-requires-clause-into c =
    item_there (merging_of c.args.self.now) c.args.self.now.graph.now.types c.args.into.now c.requires.into c.args.key.now c.in-Some.there.now c.in-Some.ensures

pub returns-in_ok-in_entry-in-Some-2-clause-some : goal.returns-in_ok-in_entry-in-Some-2-clause-some
returns-in_ok-in_entry-in-Some-2-clause-some c =
    let key_is : c.args.key.now ≡ key.Name c.as_str-label.result.now = search rules in
    first_part (merging_of c.args.self.now) (entry_link c.args.word.now c.as_str-label.result.now ∷ []) (item_pairs (merging_of c.args.self.now) [] c.as_str-label.result.now c.args.from.now c.in-Some.there.now) _ (entry_is (merging_of c.args.self.now) c.args.word.now c.args.into.now c.args.key.now c.as_str-label.result.now c.args.from.now c.in-Some.there.now key_is c.in-Some.ensures) (string_bytes c.in-Some-2.text) _ (rw c.in-Some-2.is at c.in_ok-text-in-Name.ensures.some) (rw c.deref.ensures at c.in_ok-in_entry-in-Some-2.ensures)

pub returns-in-None-clause-none : goal.returns-in-None-clause-none
returns-in-None-clause-none c =
    let key_is : c.args.key.now ≡ key.Name c.as_str-label.result.now = search rules in
    none_part (merging_of c.args.self.now) (entry_link c.args.word.now c.as_str-label.result.now ∷ []) (item_pairs (merging_of c.args.self.now) [] c.as_str-label.result.now c.args.from.now c.in-Some.there.now) _ (entry_is (merging_of c.args.self.now) c.args.word.now c.args.into.now c.args.key.now c.as_str-label.result.now c.args.from.now c.in-Some.there.now key_is c.in-Some.ensures) (rw c.in-None.is at c.in_ok-text-in-Name.ensures.none)
