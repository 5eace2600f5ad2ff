use Rattle.std.proofs.Common.{◌≡◌, ◌++◌}
use Rattle.wit_graph_data.specs.Queries.{package_direct_deps}
use Rattle.wit_queries.proofs.package_deps.package_row.Given as goal

-- those so far, with those to come
abbrev pub invariant-loop-used : goal.invariant-loop-used
invariant-loop-used l =
    l.row ++ l.used-iterator
    ≡ package_direct_deps l.fn.graph.types l.fn.graph.interfaces l.fn.graph.worlds
    l.fn.graph.packages l.fn.id
