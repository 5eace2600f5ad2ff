use Rattle.std.proofs.Common.{sym}
use Rattle.std.specs.Map.{lookup}
use Rattle.wit_values.specs.facts.Lists.{map-next}
use Rattle.wit_names.specs.PackageName.{same_package}
use Rattle.wit_graph_data.specs.declared.graph.Package.{Package}
use Rattle.wit_merge_match.proofs.Mapped.{stands}
use Rattle.wit_merge_match.proofs.tables.package_matches.Goals as goal

pub loop-home-preserved : goal.loop-home-preserved
loop-home-preserved c =
    rw (c.in_ok-push.ensures.ok, c.loop-home.invariant, c.copied.ensures, c.get.ensures) (sym (map-next (λ (home : Package). lookup (same_package home.name) c.args.graph.now.package_names) _ _ _ (stands c.args.other.now.packages c.as_slice-home-items.result.now c.loop-home.home-index c.home-item.result c.as_slice-home-items.ensures c.loop-home-test.true c.home-item.is)))
