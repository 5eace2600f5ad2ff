use Rattle.std.proofs.Common.{◌≡◌}
use Rattle.wit_sources.specs.SourceMap.{files_of}
use Rattle.wit_script_explain.specs.Places.{place_at}
use Rattle.wit_script_explain.proofs.place.place_at.Given as goal

-- in the files that are left it stands where it stands in all
abbrev pub invariant-loop-path : goal.invariant-loop-path
invariant-loop-path l = place_at l.path-iterator l.left l.rest ≡ place_at (files_of l.source_map.files) l.file_starts l.position
