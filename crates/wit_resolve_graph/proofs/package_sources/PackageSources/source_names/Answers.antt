use Rattle.std.proofs.Common.{◌≡◌, ◌∙◌, ℕ, List, [], ap, take, arith}
use Rattle.std.proofs.lemmas.Grind.{common_steps}
use Rattle.std.specs.List.{flat_map}
use Rattle.wit_resolve_graph.specs.SourceNames.{NamesOf, all_names}
use Rattle.wit_resolve_graph.specs.steps.Seen.{with_all}
use Rattle.wit_resolve_graph.proofs.SourceNamesLemmas.{with_all_once}
use Rattle.wit_resolve_graph.proofs.package_sources.PackageSources.source_names.Goals as goal

pub returns-clause-ok : goal.returns-clause-ok
returns-clause-ok c =
    let whole : take c.loop-names.names-index c.as_slice-names-items.result.now ≡ c.self.inside.sources = grind (arith, common_steps) in
    c.loop-names.invariant.found ∙ c.loop-names.invariant.seen ∙ ap (λ (sources : List (List (List ℕ))). with_all [] (flat_map (λ names. names) sources)) whole
    ∙ with_all_once (flat_map (λ names. names) c.self.inside.sources) ∙ ap (λ (s : NamesOf). all_names s) c.self.view_is
