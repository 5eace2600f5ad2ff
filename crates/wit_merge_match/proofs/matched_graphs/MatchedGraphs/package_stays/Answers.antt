use Rattle.std.proofs.Common.{◌≡◌, ◌∙◌, subst}
use Rattle.wit_graph_data.specs.declared.graph.Package.{Package}
use Rattle.wit_graph_theory.specs.facts.OptionFacts.{some_same}
use Rattle.wit_merge_match.specs.steps.Differing.{merging_of}
use Rattle.wit_merge_match.specs.steps.Leaving.{PackageLeaves}
use Rattle.wit_merge_match.proofs.matched_graphs.MatchedGraphs.package_stays.Goals as goal

pub returns-in-Some-match_at : goal.returns-in-Some-match_at
returns-in-Some-match_at c = λ yes from into at matched.
    let same : c.in-Some.from.now ≡ from = some_same c.in-Some.from.now from (c.in-Some.ensures ∙ at) in
    subst (λ (x : Package). PackageLeaves (merging_of c.args.self.now) x into) same (c.moves_nothing.ensures yes into)
