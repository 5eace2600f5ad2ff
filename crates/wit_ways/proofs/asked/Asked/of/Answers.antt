use Rattle.std.proofs.Common.{◌≡◌, ◌∙◌, ℕ, ap, sym}
use Rattle.wit_sources.specs.SourceMap.{Sources}
use Rattle.wit_ways.specs.Asked.{asked_of}
use Rattle.wit_ways.specs.Coming.{coming_graph}
use Rattle.wit_ways.specs.declared.asked.Asked.TheVariants as asks
use Rattle.wit_ways.proofs.asked.Asked.of.Goals as goal

pub returns-in_ok-coming-in-Merge : goal.returns-in_ok-coming-in-Merge
returns-in_ok-coming-in-Merge c =
    let state = c.args.resolve.now in
    let offset : c.end-offset.result ≡ state.source_map.end = c.end-offset.ensures.value ∙ ap (λ (s : Sources). s.end) c.source_map.ensures in
    ap asks.Merge (c.in_ok-coming-in-Merge.ensures ∙ ap (λ (o : ℕ). coming_graph o c.graph.result.now) offset ∙ ap (coming_graph state.source_map.end) c.graph.ensures.value)
    ∙ ap (asked_of state) (sym c.in-Merge.is)
