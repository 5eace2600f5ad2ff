use Rattle.std.proofs.Common.{◌≡◌, ℕ, Bor, List, [], map, take}
use Rattle.std.specs.List.{flat_map}
use Rattle.wit_resolve_graph.specs.steps.Seen.{with_all}
use Rattle.wit_resolve_graph.proofs.package_sources.PackageSources.source_names.Given as goal

abbrev pub invariant-loop-names : goal.invariant-loop-names
invariant-loop-names l = record {
  seen : l.seen ≡ with_all [] (flat_map (λ (names : List (List ℕ)). names) (take l.names-index l.names-items));
  found : map (λ (name : Bor (List ℕ)). name.now) l.found.items ≡ l.seen;
}
