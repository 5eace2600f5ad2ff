-- A step over the first character of what is left of a name.
use Rattle.std.proofs.Common.{◌≡◌, ◌∙◌, ℕ, List, ◌∷◌, ◌++◌, Option, Some, Result, Ok, Err, length, sym, ap}
use Rattle.std.proofs.lemmas.Str.{chars-nil, chars_past_char}
use Rattle.std.specs.Char.{encode_utf8}
use Rattle.std.specs.Str.{IsUtf8, chars}
use Rattle.wit_text.specs.Name.{after, at_end, fault_from}
use Rattle.wit_text.specs.declared.read_fault.ReadFaultKind.{ReadFaultKind}
use Rattle.wit_text.specs.declared.reading.name.Word.{Word}
use Rattle.wit_text.proofs.Characters.{empty_is}

-- at the end
pub ended : (rest : List ℕ) (w : Word) (whole : Option ReadFaultKind) → length rest ≡ 0 → fault_from w (chars rest) ≡ whole → at_end w ≡ whole
ended rest w whole none left = sym (ap (λ xs. fault_from w (chars xs)) (empty_is rest none) ∙ ap (fault_from w) chars-nil) ∙ left

module _ (rest later : List ℕ) (c : ℕ) (w : Word) (whole : Option ReadFaultKind) (utf8 : IsUtf8 rest) (step : rest ≡ encode_utf8 c ++ later) (left : fault_from w (chars rest) ≡ whole) where
  here : fault_from w (c ∷ chars later) ≡ whole
  here = sym (ap (fault_from w) (chars_past_char rest later c utf8 step)) ∙ left

  told : Result Word ReadFaultKind → Option ReadFaultKind
  told (Ok v) = fault_from v (chars later)
  told (Err f) = Some f

  told_here : told (after w c) ≡ whole
  unfolding told
  told_here = here

  -- a character that fits, and one that doesn't
  pub goes_on : (v : Word) → after w c ≡ Ok v → fault_from v (chars later) ≡ whole
  unfolding told
  goes_on v is = sym (ap told is) ∙ told_here

  pub stops : (f : ReadFaultKind) → after w c ≡ Err f → Some f ≡ whole
  unfolding told
  stops f is = sym (ap told is) ∙ told_here
