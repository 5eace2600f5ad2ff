use Rattle.std.proofs.Common.{◌≡◌, ◌++◌, drop, filter_map}
use Rattle.wit_data.specs.declared.world.WorldInclude.{WorldInclude}
use Rattle.witgraph_dot.specs.Listed.{with_links}
use Rattle.witgraph_dot.specs.Pushed.{line_includes, graph_world}
use Rattle.witgraph_dot.proofs.package_lines.list_includes.Given as goal
use Rattle.witgraph_dot.specs.steps.Parts.{links_for}

-- with what the lines that are left include it has all
abbrev pub invariant-loop-include : goal.invariant-loop-include
invariant-loop-include l = record {
  kept : l.listing.imports ≡ l.fn.listing.imports;
  added :
      with_links l.listing.includes
      (links_for (filter_map (λ (include : WorldInclude). graph_world l.resolve.graph l.«package» include.id) (drop l.include-index l.include-items)) l.id)
      ≡ with_links l.fn.listing.includes (links_for (line_includes l.resolve.graph l.«package» l.world) l.id);
  gathered :
      l.includes.items ++ links_for (filter_map (λ (include : WorldInclude). graph_world l.resolve.graph l.«package» include.id) (drop l.include-index l.include-items)) l.id
      ≡ l.fn.includes.items ++ links_for (line_includes l.resolve.graph l.«package» l.world) l.id;
}
