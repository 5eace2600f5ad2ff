use Rattle.std.proofs.Common.{true, false}
use Rattle.std.proofs.lemmas.Option.{IfSome_then}
use Rattle.wit_merge_match.specs.steps.Differing.{merging_of}
use Rattle.wit_merge_match.specs.steps.Stabilities as stabilities
use Rattle.wit_merge_match.proofs.Apart.{worlds_fit}
use Rattle.wit_merge_match.proofs.Steps.{if_none}
use Rattle.wit_merge_match.proofs.matched_graphs.MatchedGraphs.lists_apart.Goals as goal

pub returns-in-Some-entries_apart-clause-some : goal.returns-in-Some-entries_apart-clause-some
returns-in-Some-entries_apart-clause-some c = stabilities.entries false c.in-Some-entries_apart.ensures.some

pub returns-clause-some : goal.returns-clause-some
returns-clause-some c = IfSome_then c.entries_apart-2.result c.entries_apart-2.ensures.some (λ d apart. stabilities.entries true apart)

pub returns-clause-none : goal.returns-clause-none
returns-clause-none c =
    if_none (worlds_fit (merging_of c.args.self.now) c.args.from.now c.args.into.now c.in_default.ensures.none c.in_default-entries_apart.ensures.none) c.entries_apart-2.result c.entries_apart-2.ensures.none
