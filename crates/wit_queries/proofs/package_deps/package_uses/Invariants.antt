use Rattle.std.proofs.Common.{◌≡◌, take}
use Rattle.wit_graph_data.specs.Queries.{package_uses}
use Rattle.wit_queries.proofs.package_deps.package_uses.Given as goal

-- the rows so far
abbrev pub invariant-loop-index : goal.invariant-loop-index
invariant-loop-index l =
    l.rows
    ≡ take l.index (package_uses l.graph.types l.graph.interfaces l.graph.worlds l.graph.packages)
