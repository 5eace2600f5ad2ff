use Rattle.std.proofs.Common.{◌≡◌, ◌++◌, drop}
use Rattle.std.specs.List.{flat_map}
use Rattle.witgraph_dot.specs.Listed.{with_links}
use Rattle.witgraph_dot.specs.Pushed.{line_imports, line_includes, links_in_package}
use Rattle.witgraph_dot.proofs.package_lines.list_packages.Given as goal

-- with what the lines of the packages that are left list it has all
abbrev pub invariant-loop-package : goal.invariant-loop-package
invariant-loop-package l = record {
  listed :
      with_links l.listing.imports (flat_map (links_in_package line_imports l.resolve.graph) (drop l.package-index l.packages))
      ≡ with_links l.fn.listing.imports (flat_map (links_in_package line_imports l.resolve.graph) l.packages);
  added :
      with_links l.listing.includes (flat_map (links_in_package line_includes l.resolve.graph) (drop l.package-index l.packages))
      ≡ with_links l.fn.listing.includes (flat_map (links_in_package line_includes l.resolve.graph) l.packages);
  gathered :
      l.includes.items ++ flat_map (links_in_package line_includes l.resolve.graph) (drop l.package-index l.packages)
      ≡ l.fn.includes.items ++ flat_map (links_in_package line_includes l.resolve.graph) l.packages;
}
