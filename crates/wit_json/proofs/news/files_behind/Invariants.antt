use Rattle.std.proofs.Common.{◌≡◌, drop}
use Rattle.wit_sources.specs.SourceMap.{files_of}
use Rattle.wit_json.proofs.news.files_behind.Given as goal

-- the files that are left
abbrev pub invariant-loop-file : goal.invariant-loop-file
invariant-loop-file l = l.left ≡ drop l._file (files_of l.files.files)
