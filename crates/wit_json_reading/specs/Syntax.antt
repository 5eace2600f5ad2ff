-- What may come next in a JSON text (RFC 8259), byte by byte.
use Rattle.std.specs.Prelude.{ℕ, ◌+◌, Bool, true, false, ◌&&◌, ◌||◌, ◌==◌, nat_lt, nat_le, List, length, slice_index, Option, Some, None, codes, if◌then◌else◌, is_none}
use Rattle.std.specs.Char.{is_ascii_digit, is_ascii_hexdigit}
use Rattle.wit_json_reading.specs.declared.syntax.Bracket.{Bracket}
use Rattle.wit_json_reading.specs.declared.syntax.Bracket.TheVariants as bracket
use Rattle.wit_json_reading.specs.declared.syntax.Escape.{Escape}
use Rattle.wit_json_reading.specs.declared.syntax.Escape.TheVariants as escape
use Rattle.wit_json_reading.specs.declared.syntax.Inside.{Inside}
use Rattle.wit_json_reading.specs.declared.syntax.Inside.TheVariants as inside
use Rattle.wit_json_reading.specs.declared.syntax.JsonPart.{JsonPart}
use Rattle.wit_json_reading.specs.declared.syntax.JsonPart.TheVariants as part
use Rattle.wit_json_reading.specs.declared.syntax.Move.{Move}
use Rattle.wit_json_reading.specs.declared.syntax.Move.TheVariants.{To, Open, Close, Stop}
use Rattle.wit_json_reading.specs.declared.syntax.Number.{Number}
use Rattle.wit_json_reading.specs.declared.syntax.Number.TheVariants as number
use Rattle.wit_json_reading.specs.declared.syntax.Role.{Role}
use Rattle.wit_json_reading.specs.declared.syntax.Role.TheVariants as role
use Rattle.wit_json_reading.specs.declared.syntax.State.{State}
use Rattle.wit_json_reading.specs.declared.syntax.State.TheVariants as state
use Rattle.wit_json_reading.specs.declared.syntax.Word.{Word}
use Rattle.wit_json_reading.specs.declared.syntax.Word.TheVariants as word

-- ---- around values

-- a space, a tab, a line feed or a carriage return stays where it is
abbrev pub or_space : State → ℕ → Move → Move
or_space s b other = if (b == 32) || (b == 9) || (b == 10) || (b == 13) then To s else other

abbrev pub or_close : ℕ → ℕ → Move → Move
or_close closing b other = if b == closing then Close else other

abbrev pub comma_or : State → ℕ → Move → Move
comma_or s b other = if b == 44 then To s else other

abbrev pub digit_or : ℕ → Number → Move → Move
digit_or b n other = if is_ascii_digit b then To (state.Number n) else other

-- `"`, `[`, `{`, `-`, `0`, the first letter of a word, or another digit
unfoldable pub begin_value : ℕ → Move
begin_value b =
    if b == 34 then To (state.String role.Value inside.Characters)
    else if b == 91 then Open bracket.List
    else if b == 123 then Open bracket.Object
    else if b == 45 then To (state.Number number.Minus)
    else if b == 48 then To (state.Number number.Zero)
    else if b == 116 then To (state.Word word.True 1)
    else if b == 102 then To (state.Word word.False 1)
    else if b == 110 then To (state.Word word.Null 1)
    else digit_or b number.Whole Stop

abbrev pub begin_name : ℕ → Move
begin_name b = if b == 34 then To (state.String role.Name inside.Characters) else Stop

abbrev pub colon : ℕ → Move
colon b = if b == 58 then To state.Value else Stop

-- a comma, or the bracket that closes what holds the value
abbrev pub behind_item : Option Bracket → ℕ → Move
behind_item None b = Stop
behind_item (Some bracket.List) b = comma_or state.Value b (or_close 93 b Stop)
behind_item (Some bracket.Object) b = comma_or state.Name b (or_close 125 b Stop)

abbrev pub end_value : Option Bracket → ℕ → Move
end_value around b = or_space state.ValueEnded b (behind_item around b)

-- ---- strings

abbrev pub string_ended : Role → State
string_ended role.Name = state.NameEnded
string_ended role.Value = state.ValueEnded

-- `"`, `\`, or a character that is no control character
abbrev pub in_characters : Role → ℕ → Move
in_characters r b =
    if b == 34 then To (string_ended r)
    else if b == 92 then To (state.String r (inside.Escape escape.Backslash))
    else if nat_lt b 32 then Stop
    else To (state.String r inside.Characters)

abbrev pub in_string : Role → Option Inside → Move
in_string r None = Stop
in_string r (Some i) = To (state.String r i)

-- `u`, or one of `"\/bfnrt`
unfoldable pub letter : ℕ → Option Inside
letter b =
    if b == 117 then Some (inside.Escape escape.Code)
    else if (b == 34) || (b == 92) || (b == 47) || (b == 98) || (b == 102) || (b == 110)
    || (b == 114) || (b == 116) then Some inside.Characters
    else None

abbrev pub hex_digit : ℕ → Inside → Option Inside
hex_digit b i = if is_ascii_hexdigit b then Some i else None

-- `c` to `f`, or a capital of these
abbrev pub is_c_or_more : ℕ → Bool
is_c_or_more b = (nat_le 99 b && nat_le b 102) || (nat_le 67 b && nat_le b 70)

abbrev pub is_d : ℕ → Bool
is_d b = (b == 100) || (b == 68)

abbrev pub next_escape : Bool → Escape → Option Inside
next_escape may e = if may then Some (inside.Escape e) else None

abbrev pub code_digit : ℕ → Option Inside
code_digit b =
    if is_d b then Some (inside.Escape escape.CodeD)
    else hex_digit b (inside.Escape escape.Three)

-- d8 to db begin a first half of a pair, dc to df a second half, which doesn't stand alone
abbrev pub code_digit_behind_d : ℕ → Option Inside
code_digit_behind_d b =
    if is_c_or_more b then None
    else if nat_lt b 56 then hex_digit b (inside.Escape escape.Two)
    else hex_digit b (inside.Escape escape.FirstHalfTwo)

abbrev pub in_escape : Escape → ℕ → Option Inside
in_escape escape.Backslash b = letter b
in_escape escape.Code b = code_digit b
in_escape escape.CodeD b = code_digit_behind_d b
in_escape escape.Three b = hex_digit b (inside.Escape escape.Two)
in_escape escape.Two b = hex_digit b (inside.Escape escape.One)
in_escape escape.One b = hex_digit b inside.Characters
in_escape escape.FirstHalfTwo b = hex_digit b (inside.Escape escape.FirstHalfOne)
in_escape escape.FirstHalfOne b = hex_digit b (inside.Escape escape.FirstHalf)
in_escape escape.FirstHalf b = next_escape (b == 92) escape.SecondBackslash
in_escape escape.SecondBackslash b = next_escape (b == 117) escape.SecondCode
in_escape escape.SecondCode b = next_escape (is_d b) escape.SecondCodeD
in_escape escape.SecondCodeD b = next_escape (is_c_or_more b) escape.Two

-- ---- numbers and words

-- `e` or `E`, or what follows a value
abbrev pub past_fraction : Option Bracket → ℕ → Move
past_fraction around b =
    if (b == 101) || (b == 69) then To (state.Number number.Mark) else end_value around b

-- `.`, or what follows a fraction
abbrev pub past_whole : Option Bracket → ℕ → Move
past_whole around b =
    if b == 46 then To (state.Number number.Dot) else past_fraction around b

abbrev pub in_number : Number → Option Bracket → ℕ → Move
in_number number.Minus around b =
    if b == 48 then To (state.Number number.Zero) else digit_or b number.Whole Stop
in_number number.Zero around b = past_whole around b
in_number number.Whole around b = digit_or b number.Whole (past_whole around b)
in_number number.Dot around b = digit_or b number.Fraction Stop
in_number number.Fraction around b = digit_or b number.Fraction (past_fraction around b)
in_number number.Mark around b =
    if (b == 43) || (b == 45) then To (state.Number number.Sign)
    else digit_or b number.Exponent Stop
in_number number.Sign around b = digit_or b number.Exponent Stop
in_number number.Exponent around b = digit_or b number.Exponent (end_value around b)

abbrev pub word_text : Word → List ℕ
word_text word.True = codes "true"
word_text word.False = codes "false"
word_text word.Null = codes "null"

-- one more letter of a word
abbrev pub in_letters : List ℕ → Word → ℕ → ℕ → Move
in_letters letters w n b =
    if nat_le (length letters) n then Stop
    else if slice_index letters n == b then
    (if n + 1 == length letters then To state.ValueEnded else To (state.Word w (n + 1)))
    else Stop

abbrev pub in_word : Word → ℕ → ℕ → Move
in_word w n b = in_letters (word_text w) w n b

-- ---- what a byte does

abbrev pub next : State → Option Bracket → ℕ → Move
next state.Value around b = or_space state.Value b (begin_value b)
next state.ListBegun around b = or_space state.ListBegun b (or_close 93 b (begin_value b))
next state.ObjectBegun around b = or_space state.ObjectBegun b (or_close 125 b (begin_name b))
next state.Name around b = or_space state.Name b (begin_name b)
next state.NameEnded around b = or_space state.NameEnded b (colon b)
next state.ValueEnded around b = end_value around b
next (state.String r inside.Characters) around b = in_characters r b
next (state.String r (inside.Escape e)) around b = in_string r (in_escape e b)
next (state.Number n) around b = in_number n around b
next (state.Word w n) around b = in_word w n b

abbrev pub begun : Bracket → State
begun bracket.List = state.ListBegun
begun bracket.Object = state.ObjectBegun

-- ---- what may stand next

abbrev pub behind_value : Option Bracket → JsonPart
behind_value None = part.TextEnd
behind_value (Some bracket.List) = part.CommaOrListEnd
behind_value (Some bracket.Object) = part.CommaOrObjectEnd

abbrev pub awaited_in_escape : Escape → JsonPart
awaited_in_escape escape.Backslash = part.Escape
awaited_in_escape escape.Code = part.HexDigit
awaited_in_escape escape.CodeD = part.HexDigitBelowC
awaited_in_escape escape.Three = part.HexDigit
awaited_in_escape escape.Two = part.HexDigit
awaited_in_escape escape.One = part.HexDigit
awaited_in_escape escape.FirstHalfTwo = part.HexDigit
awaited_in_escape escape.FirstHalfOne = part.HexDigit
awaited_in_escape escape.FirstHalf = part.SecondHalf
awaited_in_escape escape.SecondBackslash = part.SecondHalf
awaited_in_escape escape.SecondCode = part.SecondHalf
awaited_in_escape escape.SecondCodeD = part.SecondHalf

abbrev pub awaited_in_number : Number → Option Bracket → JsonPart
awaited_in_number number.Minus around = part.Digit
awaited_in_number number.Zero around = behind_value around
awaited_in_number number.Whole around = behind_value around
awaited_in_number number.Dot around = part.Digit
awaited_in_number number.Fraction around = behind_value around
awaited_in_number number.Mark around = part.DigitOrSign
awaited_in_number number.Sign around = part.Digit
awaited_in_number number.Exponent around = behind_value around

abbrev pub word_part : Word → JsonPart
word_part word.True = part.True
word_part word.False = part.False
word_part word.Null = part.Null

abbrev pub awaited : State → Option Bracket → JsonPart
awaited state.Value around = part.Value
awaited state.ListBegun around = part.ValueOrListEnd
awaited state.ObjectBegun around = part.NameOrObjectEnd
awaited state.Name around = part.Name
awaited state.NameEnded around = part.Colon
awaited state.ValueEnded around = behind_value around
awaited (state.String r inside.Characters) around = part.Character
awaited (state.String r (inside.Escape e)) around = awaited_in_escape e
awaited (state.Number n) around = awaited_in_number n around
awaited (state.Word w n) around = word_part w

-- ---- where a text may end

abbrev pub is_whole_number : Number → Bool
is_whole_number number.Minus = false
is_whole_number number.Zero = true
is_whole_number number.Whole = true
is_whole_number number.Dot = false
is_whole_number number.Fraction = true
is_whole_number number.Mark = false
is_whole_number number.Sign = false
is_whole_number number.Exponent = true

abbrev pub ends_value : State → Bool
ends_value state.Value = false
ends_value state.ListBegun = false
ends_value state.ObjectBegun = false
ends_value state.Name = false
ends_value state.NameEnded = false
ends_value state.ValueEnded = true
ends_value (state.String r i) = false
ends_value (state.Number n) = is_whole_number n
ends_value (state.Word w n) = false

-- behind a value that nothing holds
abbrev pub may_end : State → Option Bracket → Bool
may_end s around = ends_value s && is_none around
