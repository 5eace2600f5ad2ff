-- Places of a source map as they are told, and texts that show them.
use Rattle.std.specs.Prelude.{ℕ, ◌+◌, ◌-◌, ◌&&◌, nat_le, nat_lt, Bool, List, ◌++◌, length, Option, option_and_then, codes, decimal, if◌then◌else◌, find, option_map}
use Rattle.std.specs.Option.{option_map_or}
use Rattle.wit_sources.specs.Lines.{column, len_in_line, line_before, line_number, line_text}
use Rattle.wit_sources.specs.Shown.{marked_line}
use Rattle.wit_sources.specs.Span.{end_of, start_of}
use Rattle.wit_sources.specs.declared.source_map.SourceFile.{SourceFile}

-- a position belongs to the file that has it, the end of its text included
abbrev pub has_position : ℕ → SourceFile → Bool
has_position position file =
    nat_le file.start position && nat_le position (file.start + length file.contents)

-- the file in which a span begins, None where the span is unknown or in no file
abbrev pub file_at : List SourceFile → Option (ℕ × ℕ) → Option SourceFile
file_at files span = option_and_then (λ (range : ℕ × ℕ). find (has_position range.0) files) span

-- how far after the beginning of its file a position stands
abbrev pub offset_in : SourceFile → ℕ → ℕ
offset_in file position = position - file.start

-- `path:line:column`
abbrev pub location_text : List ℕ → ℕ → ℕ → List ℕ
location_text path line column =
    path ++ (codes ":" ++ (decimal line ++ (codes ":" ++ decimal column)))

-- where a position of a file stands
abbrev pub location_in : SourceFile → ℕ → List ℕ
location_in file position =
    location_text file.path (line_number file.contents (offset_in file position))
    (column file.contents (offset_in file position))

-- where a span begins
abbrev pub location_of : List SourceFile → Option (ℕ × ℕ) → List ℕ
location_of files span =
    option_map_or (λ (file : SourceFile). location_in file (start_of span)) (file_at files span)
    (codes "<unknown>")

-- the path, the line and the column at which a span begins, None where the span is unknown or in no file
abbrev pub location_data : List SourceFile → Option (ℕ × ℕ) → Option (List ℕ × ℕ × ℕ)
location_data files span =
    option_map (λ (file : SourceFile). let start = offset_in file (start_of span) in
    (file.path, line_number file.contents start, column file.contents start)) (file_at files span)

-- the place at which a span of a file begins, and below it its line with a mark under the span; of a line over 500 bytes its
-- beginning
abbrev pub shown_in : SourceFile → Option (ℕ × ℕ) → List ℕ
shown_in file span =
    let start = offset_in file (start_of span) in
    let before = length (line_before file.contents start) in
    codes "     --> " ++ (location_in file (start_of span) ++ (codes "\n"
    ++ marked_line (line_number file.contents start) (line_text file.contents start) before
    (before + len_in_line file.contents start (offset_in file (end_of span)))))

-- the same, None where the span is unknown or in no file
abbrev pub shown_span : List SourceFile → Option (ℕ × ℕ) → Option (List ℕ)
shown_span files span = option_map (λ (file : SourceFile). shown_in file span) (file_at files span)

-- a text with the line of a file in which a span begins; of a line over 500 bytes the place alone
abbrev pub highlight_text_in : SourceFile → Option (ℕ × ℕ) → List ℕ → List ℕ
highlight_text_in file span text =
    if nat_lt 500 (length (line_text file.contents (offset_in file (start_of span))))
    then location_in file (start_of span) ++ (codes ": " ++ text)
    else text ++ (codes "\n" ++ shown_in file span)

-- a text with the line in which a span begins, None where the span is unknown or in no file
abbrev pub highlight_text : List SourceFile → Option (ℕ × ℕ) → List ℕ → Option (List ℕ)
highlight_text files span text =
    option_map (λ (file : SourceFile). highlight_text_in file span text) (file_at files span)
