use Rattle.std.proofs.Common.{◌≡◌, take}
use Rattle.wit_resolve_graph.specs.SourceNames.{names_of}
use Rattle.wit_resolve_graph.proofs.source_names.names_of.Given as goal

abbrev pub invariant-loop-map : goal.invariant-loop-map
invariant-loop-map l = l.names ≡ names_of (take l.map-index l.maps)
