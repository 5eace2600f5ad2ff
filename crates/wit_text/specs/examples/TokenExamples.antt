-- Texts with their tokens, and near misses beside them.
use Rattle.std.specs.Prelude.{◌≡◌, ◌+◌, ℕ, List, [], ◌∷◌, ◌++◌, Ok, Err, codes}
use Rattle.wit_text.specs.Tokens.{mark, tokens_of}
use Rattle.wit_text.specs.declared.fault.FaultKind.{FaultKind}
use Rattle.wit_text.specs.declared.fault.FaultKind.TheVariants as fault
use Rattle.wit_text.specs.declared.keyword.Keyword.TheVariants as keyword
use Rattle.wit_text.specs.declared.token.Sign.{Sign}
use Rattle.wit_text.specs.declared.token.Sign.TheVariants as sign
use Rattle.wit_text.specs.declared.token.Token.{Token}
use Rattle.wit_text.specs.declared.token.TokenKind.{TokenKind}
use Rattle.wit_text.specs.declared.token.TokenKind.TheVariants as kind

-- kinds with their lengths, one behind another from a position on
abbrev pub row : ℕ → List (TokenKind × ℕ) → List Token
row at [] = []
row at (k ∷ ks) = record { kind = k.0; start = at; end = at + k.1 } ∷ row (at + k.1) ks

-- a text has these tokens
abbrev pub Has : List ℕ → List (TokenKind × ℕ) → Type 0
Has text kinds = tokens_of text ≡ Ok (row 0 kinds)

-- a text has a fault behind so many bytes, in this line and column
abbrev pub Fails : List ℕ → FaultKind → ℕ → ℕ → ℕ → Type 0
Fails text fault at line column =
    tokens_of text ≡ Err (record { kind = fault; at = at; line = line; column = column })

-- signs, words and white space with their lengths
abbrev pub signed : Sign → TokenKind × ℕ
signed s = (kind.Sign s, 1)

abbrev pub word : ℕ → TokenKind × ℕ
word len = (kind.Id, len)

abbrev pub use_word : TokenKind × ℕ
use_word = (kind.Keyword keyword.Use, 3)

abbrev pub blank : TokenKind × ℕ
blank = (kind.Whitespace, 1)

abbrev pub digit : TokenKind × ℕ
digit = (kind.Integer, 1)

-- a newline, a carriage return, a quote and a backslash
abbrev pub newline : List ℕ
newline = 10 ∷ []

abbrev pub return : List ℕ
return = 13 ∷ []

abbrev pub quote : List ℕ
quote = 34 ∷ []

abbrev pub backslash : List ℕ
backslash = 92 ∷ []

-- the character U+202E, which turns the order of those behind it
abbrev pub override : List ℕ
override = 226 ∷ 128 ∷ 174 ∷ []

pub record ExamplesOfTokens : Type 0 where
  pub nothing : Has [] []
  pub use_line : Has (codes "use a;") (use_word ∷ blank ∷ word 1 ∷ signed sign.Semicolon ∷ [])
  pub longer_word : Has (codes "used") (word 4 ∷ [])
  pub word_with_dash : Has (codes "use-a") (word 5 ∷ [])
  pub large_word : Has (codes "Use") (word 3 ∷ [])
  pub explicit : Has (codes "%use") ((kind.ExplicitId, 4) ∷ [])
  pub explicit_alone : Has (codes "% use") ((kind.ExplicitId, 1) ∷ blank ∷ use_word ∷ [])
  pub explicit_dash : Has (codes "%-a") ((kind.ExplicitId, 3) ∷ [])
  pub dash : Has (codes "-a") (signed sign.Minus ∷ word 1 ∷ [])
  pub underscore : Has (codes "_") ((kind.Keyword keyword.Underscore, 1) ∷ [])
  pub two_underscores : Has (codes "__") (word 2 ∷ [])
  pub arrow : Has (codes "->") ((kind.Sign sign.Arrow, 2) ∷ [])
  pub parted_arrow : Has (codes "- >") (signed sign.Minus ∷ blank ∷ signed sign.GreaterThan ∷ [])
  pub version : Has (codes "@1.0-a")
      (signed sign.At ∷ digit ∷ signed sign.Period ∷ digit ∷ signed sign.Minus ∷ word 1 ∷ [])
  pub digits_first : Has (codes "1u8") (digit ∷ (kind.Keyword keyword.U8, 2) ∷ [])
  pub digits_last : Has (codes "u81") (word 3 ∷ [])
  pub blanks : Has (codes " " ++ (return ++ (newline ++ codes " "))) ((kind.Whitespace, 4) ∷ [])
  pub line_comment : Has (codes "// a" ++ (newline ++ codes "a"))
      ((kind.LineComment, 5) ∷ word 1 ∷ [])
  pub last_comment : Has (codes "//") ((kind.LineComment, 2) ∷ [])
  pub slash : Has (codes "/ /") (signed sign.Slash ∷ blank ∷ signed sign.Slash ∷ [])
  pub block_comment : Has (codes "/**/a") ((kind.BlockComment, 4) ∷ word 1 ∷ [])
  pub inner_comment : Has (codes "/*/**/*/") ((kind.BlockComment, 8) ∷ [])
  pub string : Has (quote ++ (codes "a" ++ quote)) ((kind.Text, 3) ∷ [])
  pub with_mark : tokens_of (mark ++ codes "a") ≡ Ok (row 3 (word 1 ∷ []))

-- faults, each with its place; what stands before them is read, and no token is told
pub record ExamplesOfFaults : Type 0 where
  pub unexpected : Fails (codes "a $") (fault.Unexpected 36) 2 1 3
  pub lone_return : Fails (codes "a" ++ (return ++ codes "b")) (fault.Unexpected 13) 1 1 2
  pub second_line : Fails (codes "a" ++ (newline ++ codes " #")) (fault.Unexpected 35) 3 2 2
  pub open_comment : Fails (codes "a /*") fault.UnterminatedComment 2 1 3
  pub short_comment : Fails (codes "/*/") fault.UnterminatedComment 0 1 1
  pub inner_open : Fails (codes "/*/**/") fault.UnterminatedComment 0 1 1
  pub open_string : Fails (quote ++ codes "a") (fault.Unexpected 34) 0 1 1
  pub string_of_two_lines : Fails (quote ++ (newline ++ quote)) (fault.Unexpected 34) 0 1 1
  pub string_with_escape : Fails (quote ++ (backslash ++ quote)) (fault.Unexpected 34) 0 1 1
  pub control : Fails (0 ∷ []) (fault.ControlCode 0) 0 1 1
  pub override_in_comment :
      Fails (codes "$//" ++ override) (fault.BidirectionalOverride 0x202E) 3 1 4
  pub discouraged : Fails (197 ∷ 137 ∷ []) (fault.Discouraged 0x149) 0 1 1
