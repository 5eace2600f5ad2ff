-- What comes with a command: packages, or a graph.
use Rattle.std.specs.Prelude.{ℕ, ◌+◌, ◌^◌, nat_lt, List, [], ◌∷◌, ◌++◌, map, flat_map, if◌then◌else◌}
use Rattle.wit_data.specs.declared.unresolved.UnresolvedPackage.{UnresolvedPackage}
use Rattle.wit_data.specs.declared.unresolved.UnresolvedPackageGroup.{UnresolvedPackageGroup}
use Rattle.wit_graph_data.specs.declared.features.Features.{Features}
use Rattle.wit_graph_data.specs.declared.graph.Graph.{Graph}
use Rattle.wit_ways.specs.Arrows.{graph_arrows}
use Rattle.wit_ways.specs.Packages.{package_arrows, package_dependencies, package_includes, package_worlds}
use Rattle.wit_ways.specs.Worlds.{graph_worlds}
use Rattle.wit_ways.specs.declared.coming.Coming.{Coming}
use Rattle.wit_ways.specs.declared.entries.WorldSide.TheVariants.{Exports}

-- a graph, with spans so many positions further on
abbrev pub coming_graph : ℕ → Graph → Coming
coming_graph offset g =
    record {
      dependencies = [];
      arrows = graph_arrows offset g Exports;
      includes = [];
      worlds = graph_worlds offset g;
    }

-- packages, each with the position at which its files begin, under features
abbrev pub coming_packages : Features → List (ℕ × UnresolvedPackage) → Coming
coming_packages features packages = record {
  dependencies = flat_map (λ (x : ℕ × UnresolvedPackage). package_dependencies x.0 x.1) packages;
  arrows = flat_map (λ (x : ℕ × UnresolvedPackage). package_arrows features x.0 x.1) packages;
  includes = flat_map (λ (x : ℕ × UnresolvedPackage). package_includes features x.0 x.1) packages;
  worlds = flat_map (λ (x : ℕ × UnresolvedPackage). package_worlds x.0 x.1) packages;
}

-- one, and then another
abbrev pub joined : Coming → Coming → Coming
joined a b = record {
  dependencies = a.dependencies ++ b.dependencies;
  arrows = a.arrows ++ b.arrows;
  includes = a.includes ++ b.includes;
  worlds = a.worlds ++ b.worlds;
}

-- the packages of groups, in each the nested ones before the main one, each with the position at which its files begin: those of
-- the first group at this one, and those of the others follow. Groups whose files begin past 4294967295 are left out
abbrev pub placed_packages : ℕ → List UnresolvedPackageGroup → List (ℕ × UnresolvedPackage)
placed_packages at [] = []
placed_packages at (group ∷ groups) =
    if nat_lt at (2 ^ 32)
    then map (λ p. (at, p)) (group.nested ++ group.main ∷ [])
    ++ placed_packages (at + group.source_map.end) groups
    else []
