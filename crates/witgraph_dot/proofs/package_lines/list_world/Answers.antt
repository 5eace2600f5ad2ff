use Rattle.std.proofs.Common.{◌≡◌, ◌∙◌, Some, rules}
use Rattle.witgraph_dot.proofs.Gathered.{world-listed}
use Rattle.witgraph_dot.specs.Pushed.{line_imports, graph_world}
use Rattle.witgraph_dot.proofs.package_lines.list_world.Goals as goal

pub returns-clause-imports : goal.returns-clause-imports
returns-clause-imports c =
    let g = c.args.resolve.now.graph in
    let p = c.args.package.now in
    let found : graph_world g p c.args.index ≡ Some c.in-Some.id = search rules in
    world-listed c.list_includes.result c.args.listing.now.imports c.list_includes.new.listing.imports (line_imports g p c.args.world.now) (graph_world g p c.args.index) c.in-Some.id found
    (c.list_includes.ensures.imports ∙ c.in_ok-list_imports.ensures.imports)
