-- The lines of a script and the tokens of a line. Only the byte 32, a space, separates tokens.
use Rattle.std.specs.Prelude.{ℕ, ◌-◌, max, List, [], ◌∷◌, length, ◌==◌, not, filter, Bool, true, false}
use Rattle.std.specs.List.{slice_split, prefix_len, suffix_len}

-- the parts of a text between its newlines
abbrev pub lines_of : List ℕ → List (List ℕ)
lines_of text = slice_split (λ b. b == 10) text

-- the parts of a line between its spaces that are not empty
abbrev pub tokens_of : List ℕ → List (List ℕ)
tokens_of line = filter (λ token. not (length token == 0)) (slice_split (λ b. b == 32) line)

-- a token that makes its line a comment, when it is the first: its first byte is a `#`
abbrev pub is_comment : List ℕ → Bool
is_comment [] = false
is_comment (b ∷ bs) = b == 35

-- whether a line says nothing: it has no token, or is a comment
abbrev pub is_blank_or_comment_of : List (List ℕ) → Bool
is_blank_or_comment_of [] = true
is_blank_or_comment_of (token ∷ tokens) = is_comment token

-- how many lines there are up to the last that says something, that one included
abbrev pub last_statement_line : List (List ℕ) → ℕ
last_statement_line lines =
    length lines - suffix_len (λ line. is_blank_or_comment_of (tokens_of line)) lines

-- where what a line says begins: after the spaces that lead it
abbrev pub content_start_of : List ℕ → ℕ
content_start_of line = prefix_len (λ b. b == 32) line

-- where what a line says ends: after its last byte that isn't a space, or at its end where it has spaces alone
abbrev pub content_end_of : List ℕ → ℕ
content_end_of line =
    max (length line - suffix_len (λ b. b == 32) line) (content_start_of line)
