-- The tokens of a text stand one behind another.
use Rattle.std.proofs.Common.{◌≡◌, ◌∙◌, ℕ, zero, suc, ◌-◌, ◌<◌, ◌≤◌, List, [], ◌∷◌, ◌++◌, Option, Some, None, Result, Ok, Err, Bool, true, false, cond, nat_eq, length, take, drop, refl, sym, ap, subst, length-drop, arith}
use Rattle.std.proofs.lemmas.List.{take-append-drop}
use Rattle.std.proofs.lemmas.Slice.Eq.{bytes_eq-Decides}
use Rattle.std.proofs.lemmas.Str.{IsUtf8-drop, IsUtf8-past_char, encodes-chars}
use Rattle.std.specs.Char.{encode_utf8}
use lib.Utf8.{encode}
use Rattle.std.specs.List.{slice_get, starts_with}
use Rattle.std.specs.Str.{IsUtf8, chars, encode_utf8_all}
use Rattle.wit_text.specs.Character.{first_refused}
use Rattle.wit_text.specs.Front.{Fits, front_by, front_of}
use Rattle.wit_text.specs.Tokens.{AreInARow, after_mark, led_by, left_by, mark, next_by, offset, token_between, tokens_after, tokens_by, tokens_of, tokens_within}
use Rattle.wit_text.specs.declared.fault.FaultKind.{FaultKind}
use Rattle.wit_text.specs.declared.fault.TokenFault.{TokenFault}
use Rattle.wit_text.specs.declared.front.Front.{Front}
use Rattle.wit_text.specs.declared.token.Token.{Token}
use Rattle.wit_text.proofs.Fits.{front_fits}
use Rattle.wit_text.proofs.Turns.{mark_short}

-- a text at whose front nothing stands is empty
empty_front : (rest : List ℕ) → IsUtf8 rest → front_of rest ≡ None → length rest ≡ 0
empty_front rest utf8 none = by (chars rest) (encodes-chars rest utf8) none where
  by : (cs : List ℕ) → encode_utf8_all cs ≡ rest → front_by rest (slice_get cs 0) ≡ None → length rest ≡ 0
  by [] same is = sym (ap length same)
  by (c ∷ cs) same is = absurd (cc)

module _ (text : List ℕ) where
  row : (n : ℕ) (rest : List ℕ) (ts : List Token) → length rest ≤ n → IsUtf8 rest → length rest ≤ length text → tokens_within n text rest ≡ Ok ts
      → AreInARow (offset text rest) ts (length text)
  row zero rest ts enough utf8 within is =
      let none : [] ≡ ts = cc in
      let all : offset text rest ≡ length text = omega arith in
      subst (λ (xs : List Token). AreInARow (offset text rest) xs (length text)) none all
  row (suc n) rest ts enough utf8 within is = by (front_of rest) refl is (row n) where
    one : (f : Front) (read : Result (List Token) TokenFault) → front_of rest ≡ Some (Ok f) → tokens_within n text (drop f.len rest) ≡ read
        → led_by (token_between text f.kind rest (drop f.len rest)) read ≡ Ok ts
        → ((rest : List ℕ) (ts : List Token) → length rest ≤ n → IsUtf8 rest → length rest ≤ length text → tokens_within n text rest ≡ Ok ts → AreInARow (offset text rest) ts (length text))
        → AreInARow (offset text rest) ts (length text)
    one f (Err fault) there read is later = absurd (cc)
    one f (Ok us) there read is later =
        let fits : Fits rest f.len = front_fits rest f utf8 there in
        let less : length (drop f.len rest) ≡ length rest - f.len = length-drop f.len rest in
        let some : 0 < f.len = fits.0 in
        let upto : f.len ≤ length rest = fits.1.0 in
        let grows : offset text rest < offset text (drop f.len rest) = omega arith in
        let first : token_between text f.kind rest (drop f.len rest) ∷ us ≡ ts = cc in
        let behind : AreInARow (offset text (drop f.len rest)) us (length text) =
        later (drop f.len rest) us (omega arith) (IsUtf8-drop rest f.len utf8 fits.1) (omega arith) read in
        subst (λ (xs : List Token). AreInARow (offset text rest) xs (length text)) first (refl, grows, behind)

    by : (found : Option (Result Front FaultKind)) → front_of rest ≡ found → tokens_by (tokens_within n text (left_by rest found)) (next_by text rest found) ≡ Ok ts
        → ((rest : List ℕ) (ts : List Token) → length rest ≤ n → IsUtf8 rest → length rest ≤ length text → tokens_within n text rest ≡ Ok ts → AreInARow (offset text rest) ts (length text))
        → AreInARow (offset text rest) ts (length text)
    by None there is later =
        let none : [] ≡ ts = cc in
        let all : offset text rest ≡ length text = omega (arith, empty_front rest utf8 there) in
        subst (λ (xs : List Token). AreInARow (offset text rest) xs (length text)) none all
    by (Some (Err k)) there is later = absurd (cc)
    by (Some (Ok f)) there is later = one f (tokens_within n text (drop f.len rest)) there refl is later

-- what is left behind a byte order mark is a text
mark_utf8 : (text : List ℕ) → IsUtf8 text → IsUtf8 (after_mark text)
unfolding encode
mark_utf8 text utf8 = by (starts_with nat_eq text mark) refl where
  by : (v : Bool) → starts_with nat_eq text mark ≡ v → IsUtf8 (cond v (drop 3 text) text)
  by true is =
      let front : mark ≡ take 3 text = (bytes_eq-Decides mark (take 3 text)).0 is in
      let whole : text ≡ encode_utf8 0xFEFF ++ drop 3 text = sym (take-append-drop 3 text) ∙ ap (λ xs. xs ++ drop 3 text) (sym front) in
      IsUtf8-past_char text (drop 3 text) 0xFEFF utf8 whole
  by false is = utf8

pub tokens_row : (text : List ℕ) (ts : List Token) → IsUtf8 text → tokens_of text ≡ Ok ts → AreInARow (length text - length (after_mark text)) ts (length text)
tokens_row text ts utf8 is = by (first_refused text) is where
  by : (refused : Option (ℕ × FaultKind)) → tokens_after text refused ≡ Ok ts → AreInARow (length text - length (after_mark text)) ts (length text)
  by None is = row text (length text) (after_mark text) ts (mark_short text) (mark_utf8 text utf8) (mark_short text) is
  by (Some r) is = absurd (cc)
