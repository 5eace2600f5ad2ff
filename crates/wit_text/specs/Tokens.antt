-- The tokens of a text.
use Rattle.std.specs.Prelude.{◌≡◌, ℕ, zero, suc, ◌-◌, ◌<◌, length, drop, List, [], ◌∷◌, Option, None, Some, Result, Ok, Err, nat_eq, if◌then◌else◌}
use Rattle.std.specs.List.{starts_with}
use Rattle.std.specs.Str.{IsUtf8}
use Rattle.wit_text.specs.Character.{first_refused}
use Rattle.wit_text.specs.Fault.{fault_at}
use Rattle.wit_text.specs.Front.{front_of}
use Rattle.wit_text.specs.declared.fault.FaultKind.{FaultKind}
use Rattle.wit_text.specs.declared.fault.TokenFault.{TokenFault}
use Rattle.wit_text.specs.declared.fault.TokensFault.{TokensFault}
use Rattle.wit_text.specs.declared.fault.TokensFault.TheVariants as fault
use Rattle.wit_text.specs.declared.front.Front.{Front}
use Rattle.wit_text.specs.declared.token.Token.{Token}
use Rattle.wit_text.specs.declared.token.TokenKind.{TokenKind}
use Rattle.wit_text.specs.declared.tokenizer.Tokenizer.{Tokenizer}

-- a byte order mark, U+FEFF, with which a text may begin
abbrev pub mark : List ℕ
mark = 239 ∷ 187 ∷ 191 ∷ []

-- a text without its byte order mark
abbrev pub after_mark : List ℕ → List ℕ
after_mark text = if starts_with nat_eq text mark then drop 3 text else text

-- how many bytes of a text stand before the rest of it
abbrev pub offset : List ℕ → List ℕ → ℕ
offset text rest = length text - length rest

-- the token of a kind that stands between what was left of a text and what is left behind it
abbrev pub token_between : List ℕ → TokenKind → List ℕ → List ℕ → Token
token_between text kind before after =
    record { kind = kind; start = offset text before; end = offset text after }

-- a token, or the fault that stands in its place; None at the end of a text
abbrev pub Next : Type 0
Next = Result (Option Token) TokenFault

-- the next token of a text of which a rest is left, by what stands at the front of that
abbrev pub next_by : List ℕ → List ℕ → Option (Result Front FaultKind) → Next
next_by text rest None = Ok None
next_by text rest (Some (Err kind)) = Err (fault_at text (offset text rest) kind)
next_by text rest (Some (Ok front)) =
    Ok (Some (token_between text front.kind rest (drop front.len rest)))

abbrev pub next_of : List ℕ → List ℕ → Next
next_of text rest = next_by text rest (front_of rest)

-- what is left then: all of it where there is no token
abbrev pub left_by : List ℕ → Option (Result Front FaultKind) → List ℕ
left_by rest None = rest
left_by rest (Some (Err kind)) = rest
left_by rest (Some (Ok front)) = drop front.len rest

abbrev pub left_of : List ℕ → List ℕ
left_of rest = left_by rest (front_of rest)

-- tokens, or the first fault
abbrev pub Read : Type 0
Read = Result (List Token) TokenFault

-- tokens that are led by one
abbrev pub led_by : Token → Read → Read
led_by token (Ok tokens) = Ok (token ∷ tokens)
led_by token (Err fault) = Err fault

-- the tokens from the next one on, by those behind it
abbrev pub tokens_by : Read → Next → Read
tokens_by later (Err fault) = Err fault
tokens_by later (Ok None) = Ok []
tokens_by later (Ok (Some token)) = led_by token later

-- the tokens of what is left of a text. A token has a byte at least, so there are no more turns
-- than bytes.
abbrev pub tokens_within : ℕ → List ℕ → List ℕ → Read
tokens_within zero text rest = Ok []
tokens_within (suc turns) text rest =
    tokens_by (tokens_within turns text (left_of rest)) (next_of text rest)

-- the tokens of a text, or its first fault: a character that no text may have comes before all
-- others
abbrev pub tokens_after : List ℕ → Option (ℕ × FaultKind) → Read
tokens_after text None = tokens_within (length text) text (after_mark text)
tokens_after text (Some refused) = Err (fault_at text refused.0 refused.1)

abbrev pub tokens_of : List ℕ → Read
tokens_of text = tokens_after text (first_refused text)

-- what a function answers is what a definition says, unless memory runs out
abbrev pub Gives : {X Y : Type 0} → (X → Y) → Result X TokensFault → Result Y TokenFault → Type 0
Gives view (Ok value) said = said ≡ Ok (view value)
Gives view (Err (fault.Fault told)) said = said ≡ Err told
Gives view (Err fault.OutOfMemory) said = Unit {0}

-- a tokenizer begins behind the byte order mark of a text, unless that has a character that no text
-- may have
abbrev pub Begins : List ℕ → Result Tokenizer TokenFault → Type 0
Begins text (Ok tokenizer) =
    (first_refused text ≡ None) × (tokenizer.text.now ≡ text)
    × (tokenizer.rest.now ≡ after_mark text)
Begins text (Err fault) =
    (refused : ℕ × FaultKind) × (first_refused text ≡ Some refused)
    × (fault ≡ fault_at text refused.0 refused.1)

-- what holds where there is a next token
abbrev pub IfToken : Next → Type 0 → Type 0
IfToken (Ok (Some token)) P = P
IfToken (Ok None) P = Unit {0}
IfToken (Err fault) P = Unit {0}

-- tokens stand one behind another between two positions, each with a byte at least
abbrev pub AreInARow : ℕ → List Token → ℕ → Type 0
AreInARow from [] end = from ≡ end
AreInARow from (token ∷ tokens) end =
    (token.start ≡ from) × (from < token.end) × AreInARow token.end tokens end

-- the tokens of a text are all of it, from behind its byte order mark to its end
abbrev pub AreTheText : Type 0
AreTheText = (text : List ℕ) (tokens : List Token) → IsUtf8 text → tokens_of text ≡ Ok tokens
    → AreInARow (offset text (after_mark text)) tokens (length text)
