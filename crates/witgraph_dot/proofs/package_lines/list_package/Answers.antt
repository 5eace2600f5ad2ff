use Rattle.std.proofs.Common.{◌+◌, ℕ, drop}
use Rattle.std.specs.List.{enumerate_from}
use Rattle.wit_data.specs.declared.world.World.{World}
use Rattle.witgraph_dot.proofs.Gathered.{first-left, others-end, others-make}
use Rattle.witgraph_dot.specs.Listed.{and_link}
use Rattle.witgraph_dot.specs.Pushed.{graph_world, line_imports, line_includes}
use Rattle.witgraph_dot.proofs.package_lines.list_package.Goals as goal
use Rattle.witgraph_dot.specs.steps.Parts.{world_links}

pub loop-index-preserved : goal.loop-index-preserved
loop-index-preserved c =
    let g = c.args.resolve.now.graph in
    let p = c.args.package.now in
    let i = c.loop-index.index in
    let worlds = c.as_slice-world-items.result.now in
    let first : ℕ × World = (i, c.world-item.result) in
    let left = enumerate_from i (drop i worlds) in
    let others = enumerate_from (i + 1) (drop (i + 1) worlds) in
    let split = first-left worlds i c.world-item.result c.loop-index-test.true c.world-item.is in
    record {
      listed =
          others-make (λ (at : ℕ × World). world_links (line_imports g p at.1) (graph_world g p at.0)) first left others split (λ all (one : ℕ × ℕ). and_link all one.0 one.1) c.loop-index.listing.imports
          c.list_world.new.listing.imports _ c.loop-index.invariant.listed c.in_ok-list_world.ensures.imports;
      added =
          others-make (λ (at : ℕ × World). world_links (line_includes g p at.1) (graph_world g p at.0)) first left others split (λ all (one : ℕ × ℕ). and_link all one.0 one.1) c.loop-index.listing.includes
          c.list_world.new.listing.includes _ c.loop-index.invariant.added c.in_ok-list_world.ensures.includes;
      gathered =
          others-end (λ (at : ℕ × World). world_links (line_includes g p at.1) (graph_world g p at.0)) first left others split c.loop-index.includes.items c.list_world.new.includes.items _ c.loop-index.invariant.gathered
          c.in_ok-list_world.ensures.gathered;
    }
