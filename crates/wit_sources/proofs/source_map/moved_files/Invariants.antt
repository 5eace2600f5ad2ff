use Rattle.std.proofs.Common.{◌≡◌}
use Rattle.wit_sources.specs.SourceMap.{moved_file}
use Rattle.wit_sources.proofs.SourceMapLemmas.{map_first}
use Rattle.wit_sources.proofs.source_map.moved_files.Given as goal

-- the files before the index have moved
abbrev pub invariant-loop-file : goal.invariant-loop-file
invariant-loop-file l = l.file-items ≡ map_first (moved_file l.offset) l.file-index l.fn.files.items
