use Rattle.std.proofs.Common.{◌∙◌, sym}
use Rattle.wit_merge_match.specs.steps.Differing.{merging_of}
use Rattle.wit_merge_match.proofs.NoPairs.{no_pairs}
use Rattle.wit_merge_match.proofs.matched_graphs.MatchedGraphs.has_pairs.Goals as goal

pub returns-else-any_matched : goal.returns-else-any_matched
returns-else-any_matched c = λ none.
    no_pairs (merging_of c.args.self.now) (λ i. sym (c.requires.interfaces.each i) ∙ c.any_matched.ensures c.if-any_matched.false i) (λ w. sym (c.requires.worlds.each w) ∙ c.any_matched-else-any_matched.ensures none w)
