use Rattle.std.proofs.Common.{◌≡◌, ◌++◌, ℕ, drop}
use Rattle.std.specs.List.{enumerate_from, flat_map}
use Rattle.wit_data.specs.declared.world.World.{World}
use Rattle.witgraph_dot.specs.Listed.{with_links}
use Rattle.witgraph_dot.specs.Pushed.{line_imports, line_includes, links_in_package, graph_world}
use Rattle.witgraph_dot.proofs.package_lines.list_package.Given as goal
use Rattle.witgraph_dot.specs.steps.Parts.{world_links}

-- with what the lines of the worlds that are left list it has all
abbrev pub invariant-loop-index : goal.invariant-loop-index
invariant-loop-index l = record {
  listed :
      with_links l.listing.imports
      (flat_map (λ (at : ℕ × World). world_links (line_imports l.resolve.graph l.«package» at.1) (graph_world l.resolve.graph l.«package» at.0)) (enumerate_from l.index (drop l.index l.world-items)))
      ≡ with_links l.fn.listing.imports (links_in_package line_imports l.resolve.graph l.«package»);
  added :
      with_links l.listing.includes
      (flat_map (λ (at : ℕ × World). world_links (line_includes l.resolve.graph l.«package» at.1) (graph_world l.resolve.graph l.«package» at.0)) (enumerate_from l.index (drop l.index l.world-items)))
      ≡ with_links l.fn.listing.includes (links_in_package line_includes l.resolve.graph l.«package»);
  gathered :
      l.includes.items ++ flat_map (λ (at : ℕ × World). world_links (line_includes l.resolve.graph l.«package» at.1) (graph_world l.resolve.graph l.«package» at.0)) (enumerate_from l.index (drop l.index l.world-items))
      ≡ l.fn.includes.items ++ links_in_package line_includes l.resolve.graph l.«package»;
}
