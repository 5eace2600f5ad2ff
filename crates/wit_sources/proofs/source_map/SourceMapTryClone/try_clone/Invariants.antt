use Rattle.std.proofs.Common.{◌≡◌, take}
use Rattle.wit_sources.proofs.source_map.SourceMapTryClone.try_clone.Given as goal

abbrev pub invariant-loop-file : goal.invariant-loop-file
invariant-loop-file l = l.files.items ≡ take l.file-index l.file-items
