-- Lines of a script as they are shown. An index counts from 0, a number from 1.
use Rattle.std.specs.Prelude.{ℕ, ◌+◌, ◌-◌, ◌==◌, false, List, [], ◌++◌, length, slice_get, codes, decimal, if◌then◌else◌, Option}
use Rattle.std.specs.Option.{option_map_or}
use Rattle.wit_script_lines.specs.Line.{content_end_of, content_start_of}
use Rattle.wit_sources.specs.Locations.{location_text}
use Rattle.wit_sources.specs.Shown.{marked_line}
use Rattle.wit_script_explain.specs.declared.lines.ScriptLines.{ScriptLines}
use Rattle.wit_script_explain.specs.declared.desk.TrackedGraph.{TrackedGraph}
use Rattle.wit_script_explain.specs.Places.{span_place}

-- a line with its number, and a mark under what it says; of a line over 500 bytes its beginning
abbrev pub snippet_text : ℕ → List ℕ → List ℕ
snippet_text number line =
    marked_line number line (content_start_of line) (content_end_of line) ++ codes "\n"

-- a line as it is shown, and under it what is said of a carriage return that ends it, which can't be seen there
abbrev pub noted_text : ℕ → List ℕ → List ℕ
noted_text number line =
    snippet_text number line
    ++ (if option_map_or (λ b. b == 13) (slice_get line (length line - 1)) false
    then codes "      = a carriage return ends it: lines end with a line feed alone\n"
    else [])

-- where a command stands: its number in the script
abbrev pub command_text : ScriptLines → ℕ → List ℕ
command_text script index =
    option_map_or (λ line.
    codes "     --> line " ++ (decimal (index + 1) ++ (codes "\n" ++ noted_text (index + 1) line)))
    (slice_get script.lines index) []

-- where a line stands that goes into the file of a package: its number in the script, and in brackets the file, its number
-- in the file, and the column at which it begins to say something
abbrev pub file_line_text : ScriptLines → ℕ × List ℕ × ℕ → List ℕ
file_line_text script place =
    option_map_or (λ line.
    codes "     --> line "
    ++ (decimal (place.0 + 1)
    ++ (codes " (" ++ (location_text place.1 (place.0 - place.2 + 1) (content_start_of line + 1)
    ++ (codes ")\n" ++ noted_text (place.0 + 1) line)))))
    (slice_get script.lines place.0) []

-- the line of a span, or nothing where it is unknown
abbrev pub span_text : ScriptLines → TrackedGraph → Option (ℕ × ℕ) → List ℕ
span_text script tracked span =
    option_map_or (file_line_text script) (span_place script tracked span) []
