use Rattle.std.proofs.Common.{◌≡◌, drop}
use Rattle.wit_queries.specs.Selection.{versions_of}
use Rattle.wit_queries.proofs.selection.version_from.Given as goal

-- none so far
abbrev pub invariant-loop-index : goal.invariant-loop-index
invariant-loop-index l =
    versions_of l.name (drop l.from l.names) ≡ versions_of l.name (drop l.index l.names)
