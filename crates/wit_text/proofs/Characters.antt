-- A step over the first character of what is left of a text.
use Rattle.std.proofs.Common.{◌≡◌, ◌∙◌, ℕ, ◌+◌, List, [], ◌∷◌, ◌++◌, Option, Some, None, true, false, cond, length, refl, sym, ap, option_map, arith}
use Rattle.std.proofs.lemmas.Str.{chars-nil, chars_past_char, length-encode}
use Rattle.std.specs.Char.{encode_utf8, len_utf8}
use Rattle.std.specs.Option.{option_or}
use Rattle.std.specs.Str.{IsUtf8, chars}
use Rattle.wit_text.specs.Character.{continues_word, refusal_of, refused_among, run_len}
use Rattle.wit_text.specs.declared.fault.FaultKind.{FaultKind}

-- nothing stands in what has no length
pub empty_is : {X : Type 0} (xs : List X) → length xs ≡ 0 → xs ≡ []
empty_is [] none = refl
empty_is (x ∷ xs) none = absurd (omega arith)

-- at the end nothing is refused, and no word goes on
pub refused_end : (rest : List ℕ) (at : ℕ) (whole : Option (ℕ × FaultKind)) → length rest ≡ 0 → refused_among at (chars rest) ≡ whole → None ≡ whole
refused_end rest at whole none left = sym (ap (λ xs. refused_among at (chars xs)) (empty_is rest none) ∙ ap (refused_among at) chars-nil) ∙ left

pub run_end : (rest : List ℕ) → length rest ≡ 0 → run_len (chars rest) ≡ 0
run_end rest none = ap (λ xs. run_len (chars xs)) (empty_is rest none) ∙ ap run_len chars-nil

module _ (rest later : List ℕ) (c : ℕ) (utf8 : IsUtf8 rest) (step : rest ≡ encode_utf8 c ++ later) where
  pub step_chars : chars rest ≡ c ∷ chars later
  step_chars = chars_past_char rest later c utf8 step

  told : ℕ → Option FaultKind → Option (ℕ × FaultKind)
  told at refused = option_or (option_map (λ (k : FaultKind). (at, k)) refused) (refused_among (at + len_utf8 c) (chars later))

  here : (at : ℕ) (refused : Option FaultKind) (whole : Option (ℕ × FaultKind)) → refusal_of c ≡ refused → refused_among at (chars rest) ≡ whole → told at refused ≡ whole
  unfolding told
  here at refused whole is left = sym (ap (told at) is) ∙ sym (ap (refused_among at) step_chars) ∙ left

  -- a character that is refused, and one that isn't
  pub refused_here : (at : ℕ) (kind : FaultKind) (whole : Option (ℕ × FaultKind)) → refusal_of c ≡ Some kind → refused_among at (chars rest) ≡ whole → Some (at, kind) ≡ whole
  unfolding told
  refused_here at kind whole is left = here at (Some kind) whole is left

  pub refused_later : (at next : ℕ) (whole : Option (ℕ × FaultKind)) → refusal_of c ≡ None → next ≡ at + length (encode_utf8 c) → refused_among at (chars rest) ≡ whole
      → refused_among next (chars later) ≡ whole
  unfolding told
  refused_later at next whole is moved left =
      ap (λ n. refused_among n (chars later)) (moved ∙ ap (λ n. at + n) (length-encode c)) ∙ here at None whole is left

  -- a character with which a word doesn't go on, and one with which it does
  pub word_stops : (at whole : ℕ) → continues_word c ≡ false → at + run_len (chars rest) ≡ whole → at ≡ whole
  word_stops at whole stops left =
      let none : run_len (chars rest) ≡ 0 = ap run_len step_chars ∙ ap (λ b. cond b (len_utf8 c + run_len (chars later)) 0) stops in omega arith

  pub word_goes_on : (at next whole : ℕ) → continues_word c ≡ true → next ≡ at + length (encode_utf8 c) → at + run_len (chars rest) ≡ whole
      → next + run_len (chars later) ≡ whole
  word_goes_on at next whole on moved left =
      let some : run_len (chars rest) ≡ len_utf8 c + run_len (chars later) = ap run_len step_chars ∙ ap (λ b. cond b (len_utf8 c + run_len (chars later)) 0) on in
      let width : length (encode_utf8 c) ≡ len_utf8 c = length-encode c in
      omega arith
