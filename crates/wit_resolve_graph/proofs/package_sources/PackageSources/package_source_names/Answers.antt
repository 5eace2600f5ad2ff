use Rattle.std.proofs.Common.{length, sym}
use Rattle.wit_resolve_graph.proofs.SourceNamesLemmas.{placed_at}
use Rattle.wit_resolve_graph.proofs.package_sources.PackageSources.package_source_names.Goals as goal

pub at-names-requires : goal.at-names-requires
at-names-requires c = placed_at c.self.inside.places.entries (length c.self.inside.sources) _ c.in_ok-place.field-0.now c.self.invariant (sym c.in_ok-place.ensures.value)
