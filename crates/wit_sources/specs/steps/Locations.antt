-- Words of inner contracts and proofs, beside `Locations`.
use Rattle.std.specs.Prelude.{ℕ, ◌+◌, ◌≤◌, length, Option, Some, None, if◌then◌else◌}
use Rattle.wit_sources.specs.Locations.{has_position}
use Rattle.wit_sources.specs.Span.{start_of}
use Rattle.wit_sources.specs.declared.source_map.SourceFile.{SourceFile}

-- the span begins in the file
pub record IsIn (file : SourceFile) (span : Option (ℕ × ℕ)) : Type 0 where
  pub from : file.start ≤ start_of span
  pub to : start_of span ≤ file.start + length file.contents

-- the file, if it has a position
abbrev pub if_it_has : ℕ → SourceFile → Option SourceFile
if_it_has position file = if has_position position file then Some file else None
