use Rattle.std.proofs.Common.{◌≡◌, ◌++◌}
use Rattle.wit_sources.specs.SourceMap.{paths_of}
use Rattle.wit_resolve_graph.proofs.source_names.names_in.Given as goal

-- the names so far and those to come
abbrev pub invariant-loop-name : goal.invariant-loop-name
invariant-loop-name l = l.names ++ l.name-iterator ≡ paths_of l.map.files
