use Rattle.std.proofs.lemmas.Option.{IfSome_then}
use Rattle.wit_merge_match.specs.steps.Differing.{merging_of}
use Rattle.wit_merge_match.proofs.Apart.{interfaces_mismatch, none_mismatch, types_mismatch, worlds_mismatch}
use Rattle.wit_merge_match.proofs.Steps.{if_none}
use Rattle.wit_merge_match.proofs.matched_graphs.MatchedGraphs.disagreement.Goals as goal

pub returns-in-Some-clause-some : goal.returns-in-Some-clause-some
returns-in-Some-clause-some c = types_mismatch (merging_of c.args.self.now) c.in-Some.ensures.some.0 _ c.in-Some.ensures.some.1

pub returns-in-Some-interfaces_apart-clause-some : goal.returns-in-Some-interfaces_apart-clause-some
returns-in-Some-interfaces_apart-clause-some c = interfaces_mismatch (merging_of c.args.self.now) c.in-Some-interfaces_apart.ensures.some.0 _ c.in-Some-interfaces_apart.ensures.some.1

pub returns-clause-some : goal.returns-clause-some
returns-clause-some c = IfSome_then c.worlds_apart.result c.worlds_apart.ensures.some (λ d at. worlds_mismatch (merging_of c.args.self.now) at.0 _ at.1)

pub returns-clause-none : goal.returns-clause-none
returns-clause-none c =
    if_none (none_mismatch (merging_of c.args.self.now) c.in_default.ensures.none c.in_default-interfaces_apart.ensures.none) c.worlds_apart.result c.worlds_apart.ensures.none
