-- Characters: which a text may have, and which a word has. A character is its code.
use Rattle.std.specs.Char.{is_ascii, is_ascii_alphabetic, is_ascii_alphanumeric, is_control, len_utf8}
use Rattle.std.specs.Int.{is_in_range}
use Rattle.std.specs.List.{list_any}
use Rattle.std.specs.Option.{option_or}
use Rattle.std.specs.Prelude.{ℕ, ◌+◌, ◌==◌, ◌||◌, Bool, List, [], ◌∷◌, Option, None, Some, option_map, if◌then◌else◌}
use Rattle.std.specs.Str.{chars}
use Rattle.unicode_ident.specs.Ident.{is_xid_continue, is_xid_start}
use Rattle.wit_text.specs.declared.fault.FaultKind.{FaultKind}
use Rattle.wit_text.specs.declared.fault.FaultKind.TheVariants as fault

-- the control characters that a text may have: a tab, a newline and a carriage return
abbrev pub is_layout : ℕ → Bool
is_layout c = c == 9 || (c == 10 || c == 13)

-- the characters that turn the order in which others are shown
abbrev pub is_bidirectional : ℕ → Bool
is_bidirectional c = is_in_range 0x202A 0x202E c || is_in_range 0x2066 0x2069 c

-- the characters of whose use Unicode advises against
abbrev pub discouraged : List ℕ
discouraged = 0x149 ∷ 0x673 ∷ 0xF77 ∷ 0xF79 ∷ 0x17A3 ∷ 0x17A4 ∷ 0x17B4 ∷ 0x17B5 ∷ []

-- why a text may not have a character, None where it may
abbrev pub refusal_of : ℕ → Option FaultKind
refusal_of c =
    if is_layout c then None
    else if is_control c then Some (fault.ControlCode c)
    else if is_bidirectional c then Some (fault.BidirectionalOverride c)
    else if list_any (λ d. c == d) discouraged then Some (fault.Discouraged c)
    else None

-- the first of some characters that a text may not have, with the bytes before it
abbrev pub refused_among : ℕ → List ℕ → Option (ℕ × FaultKind)
refused_among at [] = None
refused_among at (c ∷ cs) =
    option_or (option_map (λ kind. (at, kind)) (refusal_of c)) (refused_among (at + len_utf8 c) cs)

-- the first character that a text may not have
abbrev pub first_refused : List ℕ → Option (ℕ × FaultKind)
first_refused text = refused_among 0 (chars text)

-- a word begins with a letter or a `_`; past ASCII with what begins an identifier in Unicode
abbrev pub begins_word : ℕ → Bool
begins_word c = if is_ascii c then is_ascii_alphabetic c || c == 95 else is_xid_start c

-- a word goes on with letters, digits, `_` and `-`; past ASCII with what continues an identifier
-- in Unicode
abbrev pub continues_word : ℕ → Bool
continues_word c =
    if is_ascii c then is_ascii_alphanumeric c || (c == 95 || c == 45) else is_xid_continue c

-- how many bytes the first of some characters have with which a word goes on
abbrev pub run_len : List ℕ → ℕ
run_len [] = 0
run_len (c ∷ cs) = if continues_word c then len_utf8 c + run_len cs else 0

-- how many bytes a text has up to where no word goes on
abbrev pub word_len : List ℕ → ℕ
word_len text = run_len (chars text)
