-- What stands at the front of a text. A text is the list of its bytes in UTF-8.
use Rattle.std.specs.Char.{is_ascii_digit, len_utf8}
use Rattle.std.specs.List.{prefix_len, slice_get}
use Rattle.std.specs.Prelude.{ℕ, zero, suc, ◌+◌, ◌<◌, ◌==◌, ◌&&◌, ◌||◌, Bool, true, false, take, drop, nat_lt, List, [], ◌∷◌, Option, None, Some, Result, Ok, Err, option_map, if◌then◌else◌}
use Rattle.std.specs.Str.{IsCharBoundary, chars}
use Rattle.wit_text.specs.Character.{begins_word, word_len}
use Rattle.wit_text.specs.Keyword.{keyword_of}
use Rattle.wit_text.specs.declared.fault.FaultKind.{FaultKind}
use Rattle.wit_text.specs.declared.fault.FaultKind.TheVariants as fault
use Rattle.wit_text.specs.declared.front.Front.{Front}
use Rattle.wit_text.specs.declared.keyword.Keyword.{Keyword}
use Rattle.wit_text.specs.declared.token.Sign.{Sign}
use Rattle.wit_text.specs.declared.token.Sign.TheVariants as sign
use Rattle.wit_text.specs.declared.token.TokenKind.{TokenKind}
use Rattle.wit_text.specs.declared.token.TokenKind.TheVariants as kind

-- a token of a kind, and how many bytes it has
abbrev pub front : TokenKind → ℕ → Front
front kind len = record { kind = kind; len = len }

-- whether a text begins with a byte
abbrev pub begins_with : ℕ → List ℕ → Bool
begins_with byte [] = false
begins_with byte (b ∷ bs) = b == byte

-- a byte is white space before the rest: a space, a tab, a newline, or a carriage return right
-- before a newline
abbrev pub is_blank : ℕ → List ℕ → Bool
is_blank b rest = b == 32 || (b == 9 || (b == 10 || (b == 13 && begins_with 10 rest)))

-- how many bytes of white space a text begins with
abbrev pub blank_len : List ℕ → ℕ
blank_len [] = 0
blank_len (b ∷ bs) = if is_blank b bs then 1 + blank_len bs else 0

-- how many bytes a text has up to its first newline, that included; all of them where it has none
abbrev pub line_len : List ℕ → ℕ
line_len [] = 0
line_len (b ∷ bs) = if b == 10 then 1 else 1 + line_len bs

-- so many bytes more
abbrev pub more : ℕ → Option ℕ → Option ℕ
more n len = option_map (λ k. n + k) len

-- two bytes open a comment, or close one
abbrev pub opens : ℕ → ℕ → Bool
opens a b = a == 47 && b == 42

abbrev pub closes : ℕ → ℕ → Bool
closes a b = a == 42 && b == 47

-- how many bytes there are up to the end of a comment, from within it, where so many others are
-- open in it: `/*` opens one more, `*/` closes the last one. None where the text ends before.
abbrev pub comment_len : ℕ → List ℕ → Option ℕ
comment_len inner [] = None
comment_len inner (a ∷ []) = None
comment_len inner (a ∷ b ∷ bs) = elim (opens a b) [
  | true ↦ more 2 (comment_len (suc inner) bs)
  | false ↦ elim (closes a b) [
    | true ↦ elim inner [ zero ↦ Some 2 | suc n ↦ more 2 (comment_len n bs) ]
    | false ↦ more 1 (comment_len inner (b ∷ bs))
  ]
]

-- how many bytes a string has after its first quote, the last one included: it has no newline and
-- no `\`. None where there is no last quote.
abbrev pub string_len : List ℕ → Option ℕ
string_len [] = None
string_len (b ∷ bs) =
    if b == 34 then Some 1
    else if b == 10 || b == 92 then None
    else more 1 (string_len bs)

-- a comment with so many bytes after its `/*`
abbrev pub block_comment : Option ℕ → Result Front FaultKind
block_comment None = Err fault.UnterminatedComment
block_comment (Some len) = Ok (front kind.BlockComment (2 + len))

-- what begins with a `/`, by what follows: a comment, or the sign. A comment has to end.
abbrev pub after_slash : List ℕ → Result Front FaultKind
after_slash [] = Ok (front (kind.Sign sign.Slash) 1)
after_slash (b ∷ bs) =
    if b == 47 then Ok (front kind.LineComment (2 + line_len bs))
    else if b == 42 then block_comment (comment_len 0 bs)
    else Ok (front (kind.Sign sign.Slash) 1)

-- what begins with a `-`, by what follows
abbrev pub after_minus : List ℕ → Front
after_minus rest =
    if begins_with 62 rest then front (kind.Sign sign.Arrow) 2 else front (kind.Sign sign.Minus) 1

-- what begins with a `"`: a string that has so many bytes more, or a character that is no token
abbrev pub after_quote : Option ℕ → Result Front FaultKind
after_quote None = Err (fault.Unexpected 34)
after_quote (Some len) = Ok (front kind.Text (1 + len))

-- the character with which a text begins, None where it is empty
abbrev pub first_char : List ℕ → Option ℕ
first_char text = slice_get (chars text) 0

-- how many bytes the word after a `%` has, by its first character, which may be a `-` too
abbrev pub explicit_by : List ℕ → Option ℕ → ℕ
explicit_by rest None = 0
explicit_by rest (Some c) = if begins_word c || c == 45 then word_len rest else 0

abbrev pub explicit_len : List ℕ → ℕ
explicit_len rest = explicit_by rest (first_char rest)

-- the sign that a character is whatever follows it, or None
abbrev pub sign_of : ℕ → Option Sign
sign_of c =
    if c == 61 then Some sign.Equals
    else if c == 44 then Some sign.Comma
    else if c == 58 then Some sign.Colon
    else if c == 59 then Some sign.Semicolon
    else if c == 46 then Some sign.Period
    else if c == 40 then Some sign.LeftParen
    else if c == 41 then Some sign.RightParen
    else if c == 123 then Some sign.LeftBrace
    else if c == 125 then Some sign.RightBrace
    else if c == 60 then Some sign.LessThan
    else if c == 62 then Some sign.GreaterThan
    else if c == 42 then Some sign.Star
    else if c == 64 then Some sign.At
    else if c == 43 then Some sign.Plus
    else None

-- a word is a keyword or a name
abbrev pub kind_of_word : Option Keyword → TokenKind
kind_of_word None = kind.Id
kind_of_word (Some keyword) = kind.Keyword keyword

-- the word that a character begins, with what goes on behind it
abbrev pub word : List ℕ → ℕ → Front
word text len = front (kind_of_word (keyword_of (take len text))) len

-- a sign, or else a word, which has to begin with this character
abbrev pub sign_or_word : List ℕ → ℕ → List ℕ → Option Sign → Result Front FaultKind
sign_or_word text c rest (Some s) = Ok (front (kind.Sign s) 1)
sign_or_word text c rest None =
    if begins_word c then Ok (word text (len_utf8 c + word_len rest)) else Err (fault.Unexpected c)

-- what stands at the front of a text that begins with a character, before the rest
abbrev pub token_at : List ℕ → ℕ → List ℕ → Result Front FaultKind
token_at text c rest =
    if nat_lt 0 (blank_len text) then Ok (front kind.Whitespace (blank_len text))
    else if c == 47 then after_slash rest
    else if c == 45 then Ok (after_minus rest)
    else if c == 37 then Ok (front kind.ExplicitId (1 + explicit_len rest))
    else if c == 34 then after_quote (string_len rest)
    else if is_ascii_digit c then Ok (front kind.Integer (prefix_len is_ascii_digit text))
    else sign_or_word text c rest (sign_of c)

-- what stands at the front of a text: a token, or why there is none; None where the text is empty
abbrev pub front_by : List ℕ → Option ℕ → Option (Result Front FaultKind)
front_by text None = None
front_by text (Some c) = Some (token_at text c (drop (len_utf8 c) text))

abbrev pub front_of : List ℕ → Option (Result Front FaultKind)
front_of text = front_by text (first_char text)

-- a token has a byte at least, and the text may be cut behind it
abbrev pub Fits : List ℕ → ℕ → Type 0
Fits text len = (0 < len) × IsCharBoundary text len
