-- Lines and columns of texts. A text is the list of its bytes in UTF-8; a position in it is the number of
-- bytes before it. What is no position of the text, as one past its end, has no line of its own.
use Rattle.std.specs.Prelude.{ℕ, ◌+◌, ◌-◌, ◌==◌, ◌&&◌, nat_le, Bool, not, List, ◌++◌, length, take, drop, slice_index, count_by, if◌then◌else◌}
use Rattle.std.specs.Fmt.{is_char_start}
use Rattle.std.specs.List.{after_last, before_first, list_any}

-- the byte that ends a line
abbrev pub is_line_feed : ℕ → Bool
is_line_feed b = b == 10

-- the number of the line of a position, from 1: each line feed before it begins one
abbrev pub line_number : List ℕ → ℕ → ℕ
line_number text position = count_by is_line_feed (take position text) + 1

-- what stands before a position in its line
abbrev pub line_before : List ℕ → ℕ → List ℕ
line_before text position = after_last is_line_feed (take position text)

-- what stands after a position in its line; a position before a line feed is in the line that it ends
abbrev pub line_after : List ℕ → ℕ → List ℕ
line_after text position = before_first is_line_feed (drop position text)

-- the line of a position, without its line feed
abbrev pub line_text : List ℕ → ℕ → List ℕ
line_text text position = line_before text position ++ line_after text position

-- the column of a position, from 1: one more than the characters of its line that begin before it
abbrev pub column : List ℕ → ℕ → ℕ
column text position = count_by is_char_start (line_before text position) + 1

-- the position is in the text or at its end, and no character goes over it
abbrev pub is_char_boundary_at : List ℕ → ℕ → Bool
is_char_boundary_at text position =
    if nat_le (length text) position then position == length text
    else is_char_start (slice_index text position)

-- what stands between two positions
abbrev pub text_between : List ℕ → ℕ → ℕ → List ℕ
text_between text start end = take (end - start) (drop start text)

-- what stands between two positions is of whole characters of one line
abbrev pub is_in_line : List ℕ → ℕ → ℕ → Bool
is_in_line text start end =
    is_char_boundary_at text start
    && (is_char_boundary_at text end && not (list_any is_line_feed (text_between text start end)))

-- how many bytes stand between two positions, none where these aren't whole characters of one line
abbrev pub len_in_line : List ℕ → ℕ → ℕ → ℕ
len_in_line text start end = if is_in_line text start end then end - start else 0
