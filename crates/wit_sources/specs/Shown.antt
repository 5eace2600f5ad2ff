-- Lines as they are shown: each with its number, and a mark under a part of it. Positions in a line are bytes before them.
use Rattle.std.specs.Prelude.{ℕ, zero, suc, ◌-◌, min, nat_le, nat_lt, List, [], ◌++◌, length, replicate, take, count_by, slice_index, codes, decimal, if◌then◌else◌}
use Rattle.std.specs.Fmt.{is_char_start}
use Rattle.wit_sources.specs.Lines.{text_between}

-- the last position up to this one, where it isn't the first of all, at which a character begins
unfoldable pub start_up_to : ℕ → List ℕ → ℕ
start_up_to zero text = zero
start_up_to (suc k) text =
    if is_char_start (slice_index text (suc k)) then suc k else start_up_to k text

-- how many bytes of a line are shown: all, or of more than 500 those of the characters that 500 bytes hold
abbrev pub shown_len : List ℕ → ℕ
shown_len line = if nat_le (length line) 500 then length line else start_up_to 500 line

-- what stands behind the first so many bytes of a line, where it isn't shown whole
abbrev pub dots_text : ℕ → List ℕ → List ℕ
dots_text len line = if nat_lt len (length line) then codes " .." else []

-- what is shown of a line
abbrev pub shown_text : List ℕ → List ℕ
shown_text line = take (shown_len line) line ++ dots_text (shown_len line) line

-- the mark under the first character of something, after so many spaces and before so many dashes
abbrev pub mark_text : ℕ → ℕ → List ℕ
mark_text spaces dashes = replicate spaces 32 ++ (codes "^" ++ replicate dashes 45)

-- a mark under what is shown of what stands between two positions of a line: a `^` under its first character, and a dash
-- under each other
abbrev pub mark_under : List ℕ → ℕ → ℕ → List ℕ
mark_under line start end =
    let from = min start (shown_len line) in
    mark_text (count_by is_char_start (take from line))
    (count_by is_char_start (text_between line from (min end (shown_len line))) - 1)

-- a number in four places, the last of which is its last digit
abbrev pub in_four : ℕ → List ℕ
in_four n = replicate (4 - length (decimal n)) 32 ++ decimal n

-- a line with its number, and a mark under what stands between two positions; of a line over 500 bytes its beginning
abbrev pub marked_line : ℕ → List ℕ → ℕ → ℕ → List ℕ
marked_line number line start end =
    codes "      |\n "
    ++ (in_four number
    ++ (codes " | " ++ (shown_text line ++ (codes "\n      | " ++ mark_under line start end))))
