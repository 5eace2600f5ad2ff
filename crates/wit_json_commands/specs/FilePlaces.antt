-- Places in files by path, line and column, as data.
use Rattle.std.specs.Prelude.{ℕ, List, Option, option_map}
use Rattle.wit_sources.specs.Locations.{location_data}
use Rattle.wit_sources.specs.Span.{OptionalSpan}
use Rattle.wit_sources.specs.declared.source_map.SourceFile.{SourceFile}
use Rattle.wit_json_commands.specs.declared.replies.file_places.FilePlace.{FilePlace}

-- where a span begins; nowhere where it is unknown or in no file
abbrev pub file_place : List SourceFile → OptionalSpan → Option FilePlace
file_place files span =
    option_map (λ (it : List ℕ × ℕ × ℕ). record { path = it.0; line = it.1; column = it.2 })
    (location_data files span)
