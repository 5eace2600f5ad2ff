use Rattle.wit_merge_match.specs.steps.Differing.{merging_of}
use Rattle.wit_merge_match.proofs.Apart.{entry_agrees}
use Rattle.wit_merge_match.proofs.Steps.{if_none}
use Rattle.wit_merge_match.proofs.matched_graphs.MatchedGraphs.entry_apart.Goals as goal

pub returns-clause-none : goal.returns-clause-none
returns-clause-none c =
    if_none (entry_agrees (merging_of c.args.self.now) c.args.entries.now c.args.key.now c.args.item.now c.in_ok-from.from.now c.in_ok-into.into.now c.in_ok-from.ensures c.in_ok-into.ensures)
    c.compare.result c.compare.ensures.none
