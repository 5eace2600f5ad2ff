use Rattle.std.proofs.Common.{◌≡◌, ◌++◌}
use Rattle.wit_graph_data.specs.Queries.{package_direct_deps}
use Rattle.wit_json_commands.proofs.questions.dependencies.packages_of.Given as goal

-- those so far, and those that are left
abbrev pub invariant-loop-other : goal.invariant-loop-other
invariant-loop-other l = l.ids ++ l.other-iterator ≡ package_direct_deps l.graph.types l.graph.interfaces l.graph.worlds l.graph.packages l.fn.id
