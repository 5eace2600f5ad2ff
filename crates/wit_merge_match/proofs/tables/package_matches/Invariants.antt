use Rattle.std.proofs.Common.{◌≡◌, map, take}
use Rattle.std.specs.Map.{lookup}
use Rattle.wit_names.specs.PackageName.{same_package}
use Rattle.wit_graph_data.specs.declared.graph.Package.{Package}
use Rattle.wit_merge_match.proofs.tables.package_matches.Given as goal

-- those of the first ones
abbrev pub invariant-loop-home : goal.invariant-loop-home
invariant-loop-home l = l.found ≡ map (λ (home : Package). lookup (same_package home.name) l.graph.package_names) (take l.home-index l.other.packages)
