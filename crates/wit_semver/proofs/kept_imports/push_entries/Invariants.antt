use Rattle.std.proofs.Common.{◌≡◌, ◌++◌, take, length}
use Rattle.std.specs.List.{flat_map}
use Rattle.wit_semver.specs.SemverMerged.{entry_types}
use Rattle.wit_semver.proofs.kept_imports.push_entries.Given as goal

abbrev pub invariant-loop-item : goal.invariant-loop-item
invariant-loop-item l = l.ids ≡ l.fn.ids ++ flat_map (entry_types l.graph.interfaces) (take (length l.yielded) l.entries)
