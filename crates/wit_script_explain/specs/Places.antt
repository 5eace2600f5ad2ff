-- Where in a script a span of the sources of its packages stands.
use Rattle.std.specs.Prelude.{ℕ, ◌+◌, ◌-◌, nat_le, Bool, false, List, [], ◌∷◌, length, take, drop, count_by, slice_get, Option, Some, None, option_and_then, option_map, if◌then◌else◌}
use Rattle.std.specs.Option.{option_or}
use Rattle.wit_names.specs.PackageName.{same_package}
use Rattle.wit_names.specs.declared.package_name.PackageName.{PackageName}
use Rattle.wit_script_lines.specs.Statement.{statement_of}
use Rattle.wit_script_lines.specs.declared.statement.Statement.{Statement}
use Rattle.wit_script_lines.specs.declared.statement.Statement.TheVariants as says
use Rattle.wit_sources.specs.Lines.{is_line_feed}
use Rattle.wit_sources.specs.SourceMap.{files_of}
use Rattle.wit_script_explain.specs.declared.desk.TrackedGraph.{TrackedGraph}
use Rattle.wit_script_explain.specs.declared.lines.ScriptLines.{ScriptLines}

-- a position in one of some files: the file's path, the place of its first line, and the line in the file, from 0. Each file
-- has a path, its contents, and the place of its first line; it takes its length plus one positions
abbrev pub place_at : List (List ℕ × List ℕ) → List ℕ → ℕ → Option (List ℕ × ℕ × ℕ)
place_at [] file_starts position = None
place_at (file ∷ files) [] position = None
place_at (file ∷ files) (start ∷ file_starts) position =
    if nat_le position (length file.1)
    then Some (file.0, start, count_by is_line_feed (take position file.1))
    else place_at files file_starts (position - (length file.1 + 1))

-- the line of a span by its index in the script, the name of the file into which it goes, and the index of the file's first
-- line; None where the span is unknown or in no file
abbrev pub span_place : ScriptLines → TrackedGraph → Option (ℕ × ℕ) → Option (ℕ × List ℕ × ℕ)
span_place script tracked None = None
span_place script tracked (Some range) =
    option_and_then (λ (place : List ℕ × ℕ × ℕ).
    let own = drop place.1 script.filed in
    option_and_then (λ index. option_map (λ first. (index, place.0, first)) (slice_get own 0))
    (slice_get own place.2))
    (place_at (files_of tracked.resolve.source_map.files) tracked.file_starts range.0)

-- a line begins the package of a name, by what it says
abbrev pub begins : PackageName → Option (Option Statement) → Bool
begins name (Some (Some (says.Package begun))) = same_package begun name
begins name _ = false

-- the line at a place of those that go into files, where it begins the package of a name
abbrev pub begins_at : ScriptLines → PackageName → ℕ → Option ℕ
begins_at script name place =
    option_and_then (λ index.
    option_and_then (λ line. if begins name (statement_of line) then Some index else None)
    (slice_get script.lines index)) (slice_get script.filed place)

-- the line that begins the package of a name, among those that begin packages at these places
abbrev pub defined_line : ScriptLines → PackageName → List ℕ → Option ℕ
defined_line script name [] = None
defined_line script name (place ∷ places) =
    option_or (begins_at script name place) (defined_line script name places)
