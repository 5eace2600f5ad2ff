-- Tokens turn by turn.
use Rattle.std.proofs.Common.{◌≡◌, ◌∙◌, ℕ, zero, suc, ◌<◌, ◌≤◌, List, [], ◌∷◌, ◌++◌, Some, None, Result, Ok, Err, Bool, true, false, length, drop, refl, sym, ap, append_assoc, length-drop, nat_eq, cond, arith}
use Rattle.std.proofs.lemmas.List.{append-nil}
use Rattle.std.proofs.lemmas.Str.{chars-nil}
use Rattle.std.specs.List.{slice_get, starts_with}
use Rattle.wit_text.specs.Front.{front_by}
use Rattle.wit_text.specs.Tokens.{after_mark, led_by, left_of, mark, next_by, next_of, tokens_by, tokens_within}
use Rattle.wit_text.specs.declared.fault.TokenFault.{TokenFault}
use Rattle.wit_text.specs.declared.token.Token.{Token}
use Rattle.wit_text.proofs.Characters.{empty_is}

-- tokens behind others
abbrev pub after : List Token → Result (List Token) TokenFault → Result (List Token) TokenFault
after front (Ok tokens) = Ok (front ++ tokens)
after front (Err fault) = Err fault

after-led : (front : List Token) (token : Token) (later : Result (List Token) TokenFault) → after front (led_by token later) ≡ after (front ++ token ∷ []) later
after-led front token (Ok tokens) = ap Ok (sym (append_assoc front (token ∷ []) tokens))
after-led front token (Err fault) = refl

pub after-nothing : (later : Result (List Token) TokenFault) → after [] later ≡ later
after-nothing (Ok tokens) = refl
after-nothing (Err fault) = refl

-- the rest behind the byte order mark is no longer than the text
pub mark_short : (text : List ℕ) → length (after_mark text) ≤ length text
mark_short text = by (starts_with nat_eq text mark) where
  by : (v : Bool) → length (cond v (drop 3 text) text) ≤ length text
  by true = omega (arith, length-drop 3 text)
  by false = omega arith

-- at the end of a text there is no next token
nothing_next : (text rest : List ℕ) → length rest ≡ 0 → next_of text rest ≡ Ok None
nothing_next text rest none =
    ap (λ xs. next_of text xs) (empty_is rest none) ∙ ap (λ cs. next_by text [] (front_by [] (slice_get cs 0))) chars-nil

module _ (text rest : List ℕ) (front : List Token) (whole : Result (List Token) TokenFault) where
  pub turns_end : (turns : ℕ) → after front (tokens_within turns text rest) ≡ whole → next_of text rest ≡ Ok None → whole ≡ Ok front
  turns_end zero left none = sym left ∙ ap Ok (append-nil front)
  turns_end (suc turns) left none =
      sym left ∙ ap (λ next. after front (tokens_by (tokens_within turns text (left_of rest)) next)) none ∙ ap Ok (append-nil front)

  pub turns_fault : (turns : ℕ) (fault : TokenFault) → length rest ≤ turns → after front (tokens_within turns text rest) ≡ whole → next_of text rest ≡ Err fault → whole ≡ Err fault
  turns_fault zero fault enough left is =
      let empty : length rest ≡ 0 = omega arith in
      let clash : Ok None ≡ Err fault = sym (nothing_next text rest empty) ∙ is in absurd (cc)
  turns_fault (suc turns) fault enough left is = sym left ∙ ap (λ next. after front (tokens_by (tokens_within turns text (left_of rest)) next)) is

  pub turns_more : (turns : ℕ) (token : Token) → length rest ≤ turns → length (left_of rest) < length rest → after front (tokens_within turns text rest) ≡ whole
      → next_of text rest ≡ Ok (Some token)
      → (n : ℕ) × (length (left_of rest) ≤ n) × (after (front ++ token ∷ []) (tokens_within n text (left_of rest)) ≡ whole)
  turns_more zero token enough shorter left is = absurd (omega arith)
  turns_more (suc turns) token enough shorter left is = (
    turns,
    omega arith,
    sym (after-led front token (tokens_within turns text (left_of rest)))
        ∙ sym (ap (λ next. after front (tokens_by (tokens_within turns text (left_of rest)) next)) is) ∙ left,
  )
