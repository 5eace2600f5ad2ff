use Rattle.std.proofs.Common.{◌≡◌, None, Some, codes, rules, slice_get, string_bytes, sym}
use Rattle.std.proofs.lemmas.Option.{IfSome_then}
use Rattle.std.proofs.lemmas.Result.{IfOk-weaker}
use Rattle.wit_merge_match.specs.steps.Differing.{merging_of}
use Rattle.wit_merge_spec.specs.Matches.{matched_world}
use Rattle.wit_merge_match.specs.steps.Structures.{side_pairs}
use Rattle.wit_merge_match.proofs.PairSteps.{first_back, first_front, first_is, none_append, none_is, none_same, world_absent, world_alone, world_is}
use Rattle.wit_merge_match.proofs.Steps.{if_none}
use Rattle.wit_merge_match.proofs.TypesCompared.{beside_exports, beside_imports, exports_there, imports_there}
use Rattle.wit_merge_match.proofs.matched_graphs.MatchedGraphs.world_differs.Goals as goal

pub returns-in_default-clause-none : goal.returns-in_default-clause-none
returns-in_default-clause-none c =
    let is : None ≡ slice_get c.args.self.now.other.now.worlds c.args.id = search rules in
    none_is (merging_of c.args.self.now) _ (world_absent (merging_of c.args.self.now) c.args.id is)

pub returns-in_default-matched_world-clause-none : goal.returns-in_default-matched_world-clause-none
returns-in_default-matched_world-clause-none c =
    let from_is : Some c.in-Some.from.now ≡ slice_get c.args.self.now.other.now.worlds c.args.id = search rules in
    let alone : None ≡ matched_world (merging_of c.args.self.now) c.args.id = search rules in
    none_is (merging_of c.args.self.now) _ (world_alone (merging_of c.args.self.now) c.args.id c.in-Some.from.now from_is alone)

pub entries_differ-requires-clause-from : goal.entries_differ-requires-clause-from
entries_differ-requires-clause-from c =
    let from_is : Some c.in-Some.from.now ≡ slice_get c.args.self.now.other.now.worlds c.args.id = search rules in
    imports_there c.args.self.now.other.now c.requires.comparable.other c.args.id c.in-Some.from.now (sym from_is)

pub entries_differ-requires-clause-into : goal.entries_differ-requires-clause-into
entries_differ-requires-clause-into c =
    let into_is : Some c.in-Some-matched_world.into.now ≡ matched_world (merging_of c.args.self.now) c.args.id = search rules in
    beside_imports (merging_of c.args.self.now) c.requires.comparable.graph c.args.id c.in-Some-matched_world.into.now into_is

pub entries_differ-requires-in-None-clause-from : goal.entries_differ-requires-in-None-clause-from
entries_differ-requires-in-None-clause-from c =
    let from_is : Some c.in-Some.from.now ≡ slice_get c.args.self.now.other.now.worlds c.args.id = search rules in
    exports_there c.args.self.now.other.now c.requires.comparable.other c.args.id c.in-Some.from.now (sym from_is)

pub entries_differ-requires-in-None-clause-into : goal.entries_differ-requires-in-None-clause-into
entries_differ-requires-in-None-clause-into c =
    let into_is : Some c.in-Some-matched_world.into.now ≡ matched_world (merging_of c.args.self.now) c.args.id = search rules in
    beside_exports (merging_of c.args.self.now) c.requires.comparable.graph c.args.id c.in-Some-matched_world.into.now into_is

pub returns-in-Some-2-clause-some : goal.returns-in-Some-2-clause-some
returns-in-Some-2-clause-some c =
    let from_is : Some c.in-Some.from.now ≡ slice_get c.args.self.now.other.now.worlds c.args.id = search rules in
    let into_is : Some c.in-Some-matched_world.into.now ≡ matched_world (merging_of c.args.self.now) c.args.id = search rules in
    first_is (merging_of c.args.self.now) _ _ (world_is (merging_of c.args.self.now) c.args.id c.in-Some.from.now c.in-Some-matched_world.into.now from_is into_is) _ (first_front (merging_of c.args.self.now) (side_pairs (merging_of c.args.self.now) (codes "import") c.in-Some.from.now.imports c.in-Some-matched_world.into.now.imports) (side_pairs (merging_of c.args.self.now) (codes "export") c.in-Some.from.now.exports c.in-Some-matched_world.into.now.exports) _ (rw c.in-Some-2.is at c.in_ok-text.ensures.some))

pub returns-in-None-clause-some : goal.returns-in-None-clause-some
returns-in-None-clause-some c =
    let from_is : Some c.in-Some.from.now ≡ slice_get c.args.self.now.other.now.worlds c.args.id = search rules in
    let into_is : Some c.in-Some-matched_world.into.now ≡ matched_world (merging_of c.args.self.now) c.args.id = search rules in
    IfOk-weaker c.entries_differ-in-None.result _ _ (λ found some. IfSome_then found some (λ text first. first_is (merging_of c.args.self.now) _ _ (world_is (merging_of c.args.self.now) c.args.id c.in-Some.from.now c.in-Some-matched_world.into.now from_is into_is) (string_bytes text) (first_back (merging_of c.args.self.now) (side_pairs (merging_of c.args.self.now) (codes "import") c.in-Some.from.now.imports c.in-Some-matched_world.into.now.imports) (side_pairs (merging_of c.args.self.now) (codes "export") c.in-Some.from.now.exports c.in-Some-matched_world.into.now.exports) (string_bytes text) (rw c.in-None.is at c.in_ok-text.ensures.none) first))) c.entries_differ-in-None.ensures.some

pub returns-in-None-clause-none : goal.returns-in-None-clause-none
returns-in-None-clause-none c =
    let from_is : Some c.in-Some.from.now ≡ slice_get c.args.self.now.other.now.worlds c.args.id = search rules in
    let into_is : Some c.in-Some-matched_world.into.now ≡ matched_world (merging_of c.args.self.now) c.args.id = search rules in
    IfOk-weaker c.entries_differ-in-None.result _ _ (λ found. if_none (λ none. none_same (merging_of c.args.self.now) _ _ (world_is (merging_of c.args.self.now) c.args.id c.in-Some.from.now c.in-Some-matched_world.into.now from_is into_is) (none_append (merging_of c.args.self.now) (side_pairs (merging_of c.args.self.now) (codes "import") c.in-Some.from.now.imports c.in-Some-matched_world.into.now.imports) (side_pairs (merging_of c.args.self.now) (codes "export") c.in-Some.from.now.exports c.in-Some-matched_world.into.now.exports) (rw c.in-None.is at c.in_ok-text.ensures.none) none)) found) c.entries_differ-in-None.ensures.none
