-- Why a file isn't read, in words: those of wit-parser.
use Rattle.std.specs.Fmt.{debug_char}
use Rattle.std.specs.Prelude.{ℕ, List, ◌++◌, Option, None, Some, option_map, codes}
use Rattle.wit_text.specs.Fault.{fault_text}
use Rattle.wit_text.specs.Keyword.{keyword_text}
use Rattle.wit_text.specs.declared.read_fault.Found.{Found}
use Rattle.wit_text.specs.declared.read_fault.Found.TheVariants as found
use Rattle.wit_text.specs.declared.read_fault.ReadFault.{ReadFault}
use Rattle.wit_text.specs.declared.read_fault.ReadFault.TheVariants as read
use Rattle.wit_text.specs.declared.read_fault.ReadFaultKind.{ReadFaultKind}
use Rattle.wit_text.specs.declared.read_fault.ReadFaultKind.TheVariants as fault
use Rattle.wit_text.specs.declared.read_fault.Wanted.{Wanted}
use Rattle.wit_text.specs.declared.read_fault.Wanted.TheVariants as wanted
use Rattle.wit_text.specs.declared.token.Sign.{Sign}
use Rattle.wit_text.specs.declared.token.Sign.TheVariants as sign
use Rattle.wit_text.specs.declared.token.TokenKind.{TokenKind}
use Rattle.wit_text.specs.declared.token.TokenKind.TheVariants as kind

-- what messages call a sign
abbrev pub sign_text : Sign → List ℕ
sign_text sign.Equals = codes "'='"
sign_text sign.Comma = codes "','"
sign_text sign.Colon = codes "':'"
sign_text sign.Semicolon = codes "';'"
sign_text sign.Period = codes "'.'"
sign_text sign.LeftParen = codes "'('"
sign_text sign.RightParen = codes "')'"
sign_text sign.LeftBrace = codes "'{'"
sign_text sign.RightBrace = codes "'}'"
sign_text sign.LessThan = codes "'<'"
sign_text sign.GreaterThan = codes "'>'"
sign_text sign.Star = codes "`*`"
sign_text sign.At = codes "`@`"
sign_text sign.Slash = codes "`/`"
sign_text sign.Plus = codes "`+`"
sign_text sign.Minus = codes "`-`"
sign_text sign.Arrow = codes "`->`"

-- what messages call a token
abbrev pub token_text : TokenKind → List ℕ
token_text kind.Whitespace = codes "whitespace"
token_text kind.LineComment = codes "a comment"
token_text kind.BlockComment = codes "a comment"
token_text (kind.Keyword k) = codes "keyword `" ++ (keyword_text k ++ codes "`")
token_text kind.Id = codes "an identifier"
token_text kind.ExplicitId = codes "an '%' identifier"
token_text kind.Integer = codes "an integer"
token_text kind.Text = codes "a string"
token_text (kind.Sign s) = sign_text s

-- what should stand at a place
abbrev pub words_of_wanted : Wanted → List ℕ
words_of_wanted (wanted.Token k) = token_text k
words_of_wanted wanted.Name = codes "an identifier or string"
words_of_wanted wanted.Type_ = codes "a type"
words_of_wanted wanted.Item = codes "`world`, `interface` or `use`"
words_of_wanted wanted.InterfaceStatement = codes "`type`, `resource` or `func`"
words_of_wanted wanted.WorldStatement =
    codes "`import`, `export`, `include`, `use`, or type definition"
words_of_wanted wanted.ResourceFunction = codes "`constructor` or identifier"
words_of_wanted wanted.ListLength = codes "fixed-length"
words_of_wanted wanted.Version = codes "`version`"
words_of_wanted wanted.Feature = codes "`feature`"

-- what stands there
abbrev pub found_text : Found → List ℕ
found_text found.End = codes "eof"
found_text (found.Token k) = token_text k
found_text (found.Word word) = codes "`" ++ (word ++ codes "`")

-- what a fault says; how std shows a character past ASCII, and what the `semver` crate says of a
-- version, isn't said
abbrev pub read_fault_text : ReadFaultKind → Option (List ℕ)
read_fault_text (fault.Token f) = fault_text f
read_fault_text (fault.Expected w f) =
    Some (codes "expected " ++ (words_of_wanted w ++ (codes ", found " ++ found_text f)))
read_fault_text (fault.CharacterInName c) =
    option_map (λ shown. codes "invalid character in identifier " ++ shown) (debug_char c)
read_fault_text fault.EmptyPart = Some (codes "identifiers must have characters between '-'s")
read_fault_text (fault.NoVersion e) = None
read_fault_text fault.ListLength =
    Some (codes "invalid list size: number too large to fit in target type")
read_fault_text fault.EmptyList =
    Some (codes "a fixed-length list must have more than zero elements")
read_fault_text (fault.UnknownAttribute name) =
    Some (codes "unknown attribute `" ++ (name ++ codes "`"))
read_fault_text fault.AttributesOnPackage =
    Some (codes "cannot place attributes on nested packages")

abbrev pub unread_text : ReadFault → Option (List ℕ)
unread_text (read.At span f) = read_fault_text f
unread_text read.OutOfMemory = Some (codes "out of memory")
