-- Names: words of one case each, with `-` between, of which the first begins with a letter.
use Rattle.std.specs.Char.{is_ascii_digit, is_ascii_lowercase, is_ascii_uppercase}
use Rattle.std.specs.Prelude.{ℕ, ◌==◌, List, [], ◌∷◌, Option, None, Some, Result, Ok, Err, if◌then◌else◌}
use Rattle.std.specs.Str.{chars}
use Rattle.wit_text.specs.declared.read_fault.ReadFaultKind.{ReadFaultKind}
use Rattle.wit_text.specs.declared.read_fault.ReadFaultKind.TheVariants as fault
use Rattle.wit_text.specs.declared.reading.name.Word.{Word}
use Rattle.wit_text.specs.declared.reading.name.Word.TheVariants as word

-- what a word has had with a `-` behind it: that ends it, so it has had something
abbrev pub after_dash : Word → Result Word ReadFaultKind
after_dash word.First = Err fault.EmptyPart
after_dash word.Next = Err fault.EmptyPart
after_dash word.Digits = Ok word.Next
after_dash word.Lower = Ok word.Next
after_dash word.Upper = Ok word.Next

-- with a digit behind it, with which the first word doesn't begin
abbrev pub after_digit : ℕ → Word → Result Word ReadFaultKind
after_digit c word.First = Err (fault.CharacterInName c)
after_digit c word.Next = Ok word.Digits
after_digit c word.Digits = Ok word.Digits
after_digit c word.Lower = Ok word.Lower
after_digit c word.Upper = Ok word.Upper

-- with a small letter behind it, of which a word with large ones has none
abbrev pub after_lower : ℕ → Word → Result Word ReadFaultKind
after_lower c word.First = Ok word.Lower
after_lower c word.Next = Ok word.Lower
after_lower c word.Digits = Ok word.Lower
after_lower c word.Lower = Ok word.Lower
after_lower c word.Upper = Err (fault.CharacterInName c)

-- with a large letter behind it, of which a word with small ones has none
abbrev pub after_upper : ℕ → Word → Result Word ReadFaultKind
after_upper c word.First = Ok word.Upper
after_upper c word.Next = Ok word.Upper
after_upper c word.Digits = Ok word.Upper
after_upper c word.Lower = Err (fault.CharacterInName c)
after_upper c word.Upper = Ok word.Upper

-- with a character behind it; a name has no others
abbrev pub after : Word → ℕ → Result Word ReadFaultKind
after w c =
    if c == 45 then after_dash w
    else if is_ascii_digit c then after_digit c w
    else if is_ascii_lowercase c then after_lower c w
    else if is_ascii_uppercase c then after_upper c w
    else Err (fault.CharacterInName c)

-- what is wrong with a name that ends behind a word
abbrev pub at_end : Word → Option ReadFaultKind
at_end word.First = Some fault.EmptyPart
at_end word.Next = Some fault.EmptyPart
at_end word.Digits = None
at_end word.Lower = None
at_end word.Upper = None

-- what is wrong with a name, from a word on: the first character that doesn't fit there
abbrev pub fault_from : Word → List ℕ → Option ReadFaultKind
fault_from w [] = at_end w
fault_from w (c ∷ cs) = elim (after w c) [ Ok v ↦ fault_from v cs | Err f ↦ Some f ]

-- what is wrong with a name, None where nothing is
abbrev pub name_fault : List ℕ → Option ReadFaultKind
name_fault name = fault_from word.First (chars name)
