-- A token has a byte at least, and the text may be cut where it ends.
use Rattle.std.proofs.Common.{◌≡◌, ◌∙◌, ℕ, zero, suc, ◌+◌, ◌<◌, ◌≤◌, ◌==◌, ◌||◌, ◌⊎◌, inl, inr, List, [], ◌∷◌, ◌++◌, Option, Some, None, Result, Ok, Err, Bool, true, false, cond, length, get_or, drop, nat_lt, refl, sym, ap, subst, zero-add, length-append, arith}
use Rattle.std.proofs.lemmas.Bool.{eqb-true}
use Rattle.std.proofs.lemmas.Bool.Decides.{nat_tests}
use Rattle.std.proofs.lemmas.Str.{IsCharBoundary-after_ascii, IsCharBoundary-end, IsCharBoundary-from_rest, IsCharBoundary-start, IsUtf8-past_char, drop_past_char, encode_ascii, encodes-chars, len_utf8_bounds, length-encode}
use Rattle.std.specs.Char.{encode_utf8, is_ascii_digit, len_utf8}
use Rattle.std.specs.List.{prefix_len, slice_get}
use Rattle.std.specs.Result.{IfOk}
use Rattle.std.specs.Str.{IsCharBoundary, IsUtf8, chars, encode_utf8_all}
use Rattle.wit_text.specs.Character.{begins_word, continues_word, run_len, word_len}
use Rattle.wit_text.specs.Front.{Fits, after_minus, after_quote, after_slash, begins_with, blank_len, block_comment, closes, comment_len, explicit_by, explicit_len, first_char, front_by, front_of, is_blank, line_len, more, opens, sign_of, sign_or_word, string_len, token_at}
use Rattle.wit_text.specs.declared.fault.FaultKind.{FaultKind}
use Rattle.wit_text.specs.declared.front.Front.{Front}
use Rattle.wit_text.specs.declared.token.Sign.{Sign}
use Rattle.wit_text.proofs.Lengths.{comment_closed, comment_goes_on, comment_opened, inner_closed}

-- the front of a text ends with an ASCII byte, the one behind m others
abbrev pub Ends : List ℕ → ℕ → Type 0
Ends text n = (m : ℕ) × (n ≡ suc m) × (m < length text) × (get_or text m 0 < 128)

ends_one : (b : ℕ) (bs : List ℕ) → b < 128 → Ends (b ∷ bs) 1
ends_one b bs plain = (0, refl, omega arith, plain)

ends_behind : (b : ℕ) (bs : List ℕ) (n : ℕ) → Ends bs n → Ends (b ∷ bs) (1 + n)
ends_behind b bs n e = (suc e.0, omega (arith, e.1), omega (arith, e.2), e.3)

-- which side of a choice was taken
chosen : {A : Type 0} (b : Bool) (x y z : A) → cond b x y ≡ z → ((b ≡ true) × (x ≡ z)) ⊎ ((b ≡ false) × (y ≡ z))
chosen true x y z is = inl (refl, is)
chosen false x y z is = inr (refl, is)

both : (a b : Bool) → cond a b false ≡ true → (a ≡ true) × (b ≡ true)
both true b is = (refl, is)
both false b is = absurd (cc)

module _ (F : List ℕ → ℕ) (t : ℕ → List ℕ → Bool) (nil : F [] ≡ 0) (cons : (b : ℕ) (bs : List ℕ) → F (b ∷ bs) ≡ cond (t b bs) (1 + F bs) 0)
    (plain : (b : ℕ) (bs : List ℕ) → t b bs ≡ true → b < 128) where
  run_more : (b : ℕ) (bs : List ℕ) (n : ℕ) → F bs ≡ n → b < 128 → (0 < F bs → Ends bs (F bs)) → Ends (b ∷ bs) (1 + F bs)
  run_more b bs zero none low later = (0, ap (λ k. 1 + k) none, omega arith, low)
  run_more b bs (suc n) some low later = ends_behind b bs (F bs) (later (omega arith))

  run_by : (b : ℕ) (bs : List ℕ) (v : Bool) → t b bs ≡ v → 0 < F (b ∷ bs) → (0 < F bs → Ends bs (F bs)) → Ends (b ∷ bs) (F (b ∷ bs))
  run_by b bs true is some later =
      let goes : F (b ∷ bs) ≡ 1 + F bs = cons b bs ∙ ap (λ v. cond v (1 + F bs) 0) is in
      subst (λ n. Ends (b ∷ bs) n) (sym goes) (run_more b bs (F bs) refl (plain b bs is) later)
  run_by b bs false is some later =
      let stops : F (b ∷ bs) ≡ 0 = cons b bs ∙ ap (λ v. cond v (1 + F bs) 0) is in absurd (omega arith)

  run_ends : (bs : List ℕ) → 0 < F bs → Ends bs (F bs)
  run_ends [] some = absurd (omega arith)
  run_ends (b ∷ bs) some = run_by b bs (t b bs) refl some (run_ends bs)

blank_plain : (b : ℕ) (bs : List ℕ) → is_blank b bs ≡ true → b < 128
blank_plain b bs is = grind (arith, nat_tests)

digit_plain : (b : ℕ) (bs : List ℕ) → is_ascii_digit b ≡ true → b < 128
digit_plain b bs is = grind (arith, nat_tests)

blanks_fit : (bs : List ℕ) → 0 < blank_len bs → Ends bs (blank_len bs)
blanks_fit bs some = run_ends blank_len is_blank refl (λ b bs. refl) blank_plain bs some

digits_fit : (bs : List ℕ) → 0 < prefix_len is_ascii_digit bs → Ends bs (prefix_len is_ascii_digit bs)
digits_fit bs some = run_ends (prefix_len is_ascii_digit) (λ b bs. is_ascii_digit b) refl (λ b bs. refl) digit_plain bs some

-- a line ends with the text, or with its newline
line_ends : (bs : List ℕ) → (line_len bs ≡ length bs) ⊎ Ends bs (line_len bs)
line_ends [] = inl refl
line_ends (b ∷ bs) = by (b == 10) refl (line_ends bs) where
  by : (v : Bool) → (b == 10) ≡ v → ((line_len bs ≡ length bs) ⊎ Ends bs (line_len bs)) → (line_len (b ∷ bs) ≡ length (b ∷ bs)) ⊎ Ends (b ∷ bs) (line_len (b ∷ bs))
  by true is later =
      let ten : b ≡ 10 = eqb-true b 10 is in
      let one : 1 ≡ line_len (b ∷ bs) = rw is refl in
      inr (subst (λ n. Ends (b ∷ bs) n) one (ends_one b bs (omega arith)))
  by false is later =
      let more_is : 1 + line_len bs ≡ line_len (b ∷ bs) = rw is refl in
      elim later [
        | inl all ↦ inl (omega (arith, all, more_is))
        | inr e ↦ inr (subst (λ n. Ends (b ∷ bs) n) more_is (ends_behind b bs (line_len bs) e))
      ]

-- what ends behind some bytes more
behind : (k : ℕ) (o : Option ℕ) (n : ℕ) → more k o ≡ Some n → (m : ℕ) × (o ≡ Some m) × (n ≡ k + m)
behind k None n is = absurd (cc)
behind k (Some m) n is = (m, refl, cc)

string_ends : (bs : List ℕ) (n : ℕ) → string_len bs ≡ Some n → Ends bs n
string_ends [] n is = absurd (cc)
string_ends (b ∷ bs) n is = by (b == 34) (b == 10 || b == 92) refl is (string_ends bs) where
  by : (quote stop : Bool) → (b == 34) ≡ quote → cond quote (Some 1) (cond stop None (more 1 (string_len bs))) ≡ Some n
      → ((k : ℕ) → string_len bs ≡ Some k → Ends bs k) → Ends (b ∷ bs) n
  by true stop quote is later = let one : 1 ≡ n = cc in subst (λ k. Ends (b ∷ bs) k) one (ends_one b bs (grind (arith, nat_tests)))
  by false true quote is later = absurd (cc)
  by false false quote is later =
      let rest = behind 1 (string_len bs) n is in
      subst (λ k. Ends (b ∷ bs) k) (sym rest.2) (ends_behind b bs rest.0 (later rest.0 rest.1))

closes_slash : (a b : ℕ) → closes a b ≡ true → b < 128
closes_slash a b is = grind (arith, nat_tests)

comment_ends : (bs : List ℕ) (inner n : ℕ) → comment_len inner bs ≡ Some n → Ends bs n
comment_ends [] inner n is = absurd (cc)
comment_ends (a ∷ []) inner n is = absurd (cc)
comment_ends (a ∷ b ∷ bs) inner n is = by (opens a b) (closes a b) inner refl refl is (comment_ends bs) (comment_ends (b ∷ bs)) where
  two_more : (o : Option ℕ) → ((k : ℕ) → o ≡ Some k → Ends bs k) → more 2 o ≡ Some n → Ends (a ∷ b ∷ bs) n
  two_more o later is =
      let rest = behind 2 o n is in
      let long : 1 + (1 + rest.0) ≡ n = omega (arith, rest.2) in
      subst (λ k. Ends (a ∷ b ∷ bs) k) long (ends_behind a (b ∷ bs) (1 + rest.0) (ends_behind b bs rest.0 (later rest.0 rest.1)))

  by : (opened closed : Bool) (inner : ℕ) → opens a b ≡ opened → closes a b ≡ closed → comment_len inner (a ∷ b ∷ bs) ≡ Some n
      → ((inner k : ℕ) → comment_len inner bs ≡ Some k → Ends bs k) → ((inner k : ℕ) → comment_len inner (b ∷ bs) ≡ Some k → Ends (b ∷ bs) k) → Ends (a ∷ b ∷ bs) n
  by true closed inner open_is close_is is later next =
      two_more (comment_len (suc inner) bs) (later (suc inner)) (sym (comment_opened inner a b bs open_is) ∙ is)
  by false true zero open_is close_is is later next =
      let last : Some 2 ≡ Some n = sym (comment_closed a b bs open_is close_is) ∙ is in
      let two : 2 ≡ n = cc in
      let long : 1 + 1 ≡ n = omega (arith, two) in
      subst (λ k. Ends (a ∷ b ∷ bs) k) long (ends_behind a (b ∷ bs) 1 (ends_one b bs (closes_slash a b close_is)))
  by false true (suc inner) open_is close_is is later next =
      two_more (comment_len inner bs) (later inner) (sym (inner_closed inner a b bs open_is close_is) ∙ is)
  by false false inner open_is close_is is later next =
      let rest = behind 1 (comment_len inner (b ∷ bs)) n (sym (comment_goes_on inner a b bs open_is close_is) ∙ is) in
      subst (λ k. Ends (a ∷ b ∷ bs) k) (sym rest.2) (ends_behind a (b ∷ bs) rest.0 (next inner rest.0 rest.1))

fits_plain : (text : List ℕ) (n : ℕ) → IsUtf8 text → Ends text n → Fits text n
fits_plain text n utf8 e =
    let next : e.0 + 1 ≡ n = omega (arith, e.1) in
    (omega (arith, e.1), subst (λ k. IsCharBoundary text k) next (IsCharBoundary-after_ascii text e.0 utf8 e.2 e.3))

-- a text that begins with an ASCII character
module _ (text rest : List ℕ) (c : ℕ) (utf8 : IsUtf8 text) (low : c < 128) (whole : text ≡ c ∷ rest) where
  fits_first : Fits text 1
  fits_first = fits_plain text 1 utf8 (subst (λ xs. Ends xs 1) (sym whole) (ends_one c rest low))

  fits_more : (n : ℕ) → Ends rest n → Fits text (1 + n)
  fits_more n e = fits_plain text (1 + n) utf8 (subst (λ xs. Ends xs (1 + n)) (sym whole) (ends_behind c rest n e))

  fits_two : (b : ℕ) (bs : List ℕ) (n : ℕ) → b < 128 → rest ≡ b ∷ bs → Ends bs n → Fits text (2 + n)
  fits_two b bs n plain next e =
      let e2 : Ends rest (1 + n) = subst (λ xs. Ends xs (1 + n)) (sym next) (ends_behind b bs n e) in
      let long : 1 + (1 + n) ≡ 2 + n = omega arith in
      subst (λ k. Fits text k) long (fits_more (1 + n) e2)

  fits_all : (n : ℕ) → n ≡ length text → Fits text n
  fits_all n is =
      let some : 0 < length text = omega (arith, ap length whole) in
      subst (λ k. Fits text k) (sym is) (some, IsCharBoundary-end text)

  -- behind a rest that may be cut
  fits_behind : (n : ℕ) → IsCharBoundary rest n → Fits text (1 + n)
  fits_behind n cut =
      let there : IsCharBoundary (drop 1 text) n = subst (λ xs. IsCharBoundary (drop 1 xs) n) (sym whole) cut in
      (omega arith, IsCharBoundary-from_rest text 1 n (omega (arith, ap length whole)) there)

  line_fits : (b : ℕ) (bs : List ℕ) → b < 128 → rest ≡ b ∷ bs → Fits text (2 + line_len bs)
  line_fits b bs plain next = elim (line_ends bs) [
    | inl all ↦ fits_all (2 + line_len bs) (omega (arith, all, ap length whole, ap length next))
    | inr e ↦ fits_two b bs (line_len bs) plain next e
  ]

  slash_fits : (f : Front) → after_slash rest ≡ Ok f → Fits text f.len
  slash_fits f is = by rest refl is where
    block : (bs : List ℕ) (len : Option ℕ) → rest ≡ 42 ∷ bs → comment_len 0 bs ≡ len → block_comment len ≡ Ok f → Fits text f.len
    block bs None next told is = absurd (cc)
    block bs (Some n) next told is =
        let long : 2 + n ≡ f.len = cc in
        subst (λ k. Fits text k) long (fits_two 42 bs n (omega arith) next (comment_ends bs 0 n told))

    by : (xs : List ℕ) → rest ≡ xs → after_slash xs ≡ Ok f → Fits text f.len
    by [] next is = let one : 1 ≡ f.len = cc in subst (λ k. Fits text k) one fits_first
    by (b ∷ bs) next is = elim (chosen (b == 47) _ _ (Ok f) is) [
      | inl h ↦ (
          let b_is : b ≡ 47 = eqb-true b 47 h.0 in
          let long : 2 + line_len bs ≡ f.len = cc in
          subst (λ k. Fits text k) long (line_fits b bs (omega (arith, b_is)) next))
      | inr h ↦ elim (chosen (b == 42) _ _ (Ok f) h.1) [
        | inl g ↦ (
            let b_is : b ≡ 42 = eqb-true b 42 g.0 in
            block bs (comment_len 0 bs) (next ∙ ap (λ x. x ∷ bs) b_is) refl g.1)
        | inr g ↦ (let one : 1 ≡ f.len = cc in subst (λ k. Fits text k) one fits_first)
      ]
    ]

  minus_fits : Fits text (after_minus rest).len
  minus_fits = by rest (begins_with 62 rest) refl refl where
    by : (xs : List ℕ) (v : Bool) → rest ≡ xs → begins_with 62 xs ≡ v → Fits text (after_minus xs).len
    by [] v next is = fits_first
    by (b ∷ bs) true next is =
        let b_is : b ≡ 62 = eqb-true b 62 is in
        let long : 2 ≡ (after_minus (b ∷ bs)).len = rw is refl in
        let two : 1 + 1 ≡ (after_minus (b ∷ bs)).len = omega (arith, long) in
        subst (λ k. Fits text k) two (fits_more 1 (subst (λ xs. Ends xs 1) (sym next) (ends_one b bs (omega (arith, b_is)))))
    by (b ∷ bs) false next is = let long : 1 ≡ (after_minus (b ∷ bs)).len = rw is refl in subst (λ k. Fits text k) long fits_first

  quote_fits : (f : Front) → after_quote (string_len rest) ≡ Ok f → Fits text f.len
  quote_fits f is = by (string_len rest) refl is where
    by : (len : Option ℕ) → string_len rest ≡ len → after_quote len ≡ Ok f → Fits text f.len
    by None told is = absurd (cc)
    by (Some n) told is = let long : 1 + n ≡ f.len = cc in subst (λ k. Fits text k) long (fits_more n (string_ends rest n told))

-- signs are ASCII
module _ (c : ℕ) (t : Sign) where
  sign_step : (d : ℕ) (x y : Option Sign) → d < 128 → cond (c == d) x y ≡ Some t → (y ≡ Some t → c < 128) → c < 128
  sign_step d x y low is later = elim (chosen (c == d) x y (Some t) is) [
    | inl h ↦ (let same : c ≡ d = eqb-true c d h.0 in omega arith)
    | inr h ↦ later h.1
  ]

  sign_plain : sign_of c ≡ Some t → c < 128
  sign_plain is =
      sign_step 61 _ _ (omega arith) is (λ a. sign_step 44 _ _ (omega arith) a (λ a. sign_step 58 _ _ (omega arith) a (λ a. sign_step 59 _ _ (omega arith) a
      (λ a. sign_step 46 _ _ (omega arith) a (λ a. sign_step 40 _ _ (omega arith) a (λ a. sign_step 41 _ _ (omega arith) a (λ a. sign_step 123 _ _ (omega arith) a
      (λ a. sign_step 125 _ _ (omega arith) a (λ a. sign_step 60 _ _ (omega arith) a (λ a. sign_step 62 _ _ (omega arith) a (λ a. sign_step 42 _ _ (omega arith) a
      (λ a. sign_step 64 _ _ (omega arith) a (λ a. sign_step 43 _ _ (omega arith) a (λ a. absurd (cc)))))))))))))))

-- a text may be cut where a word no longer goes on
run_cut : (cs bs : List ℕ) → IsUtf8 bs → encode_utf8_all cs ≡ bs → IsCharBoundary bs (run_len cs)
run_cut [] bs utf8 same = IsCharBoundary-start bs utf8
run_cut (c ∷ cs) bs utf8 same = by (continues_word c) refl (run_cut cs) where
  by : (v : Bool) → continues_word c ≡ v → ((bs : List ℕ) → IsUtf8 bs → encode_utf8_all cs ≡ bs → IsCharBoundary bs (run_len cs)) → IsCharBoundary bs (run_len (c ∷ cs))
  by false stops later =
      let none : 0 ≡ run_len (c ∷ cs) = rw stops refl in subst (λ n. IsCharBoundary bs n) none (IsCharBoundary-start bs utf8)
  by true on later =
      let some : len_utf8 c + run_len cs ≡ run_len (c ∷ cs) = rw on refl in
      let begins : drop 0 bs ≡ encode_utf8 c ++ encode_utf8_all cs = sym same in
      let past : drop (len_utf8 c) bs ≡ encode_utf8_all cs = ap (λ n. drop n bs) (sym (zero-add (len_utf8 c))) ∙ drop_past_char bs (encode_utf8_all cs) 0 c begins in
      let utf8_later : IsUtf8 (encode_utf8_all cs) = IsUtf8-past_char bs (encode_utf8_all cs) c utf8 (sym same) in
      let cut : IsCharBoundary (drop (len_utf8 c) bs) (run_len cs) = subst (λ xs. IsCharBoundary xs (run_len cs)) (sym past) (later (encode_utf8_all cs) utf8_later refl) in
      let width : length (encode_utf8 c ++ encode_utf8_all cs) ≡ length (encode_utf8 c) + length (encode_utf8_all cs) = length-append (encode_utf8 c) (encode_utf8_all cs) in
      let within : len_utf8 c ≤ length bs = omega (arith, length-encode c, ap length same) in
      subst (λ n. IsCharBoundary bs n) some (IsCharBoundary-from_rest bs (len_utf8 c) (run_len cs) within cut)

pub word_cut : (text : List ℕ) → IsUtf8 text → IsCharBoundary text (word_len text)
word_cut text utf8 = run_cut (chars text) text utf8 (encodes-chars text utf8)

explicit_cut : (rest : List ℕ) → IsUtf8 rest → IsCharBoundary rest (explicit_len rest)
explicit_cut rest utf8 = by (first_char rest) where
  by : (first : Option ℕ) → IsCharBoundary rest (explicit_by rest first)
  by None = IsCharBoundary-start rest utf8
  by (Some c) = either (begins_word c || c == 45) where
    either : (v : Bool) → IsCharBoundary rest (cond v (word_len rest) 0)
    either true = word_cut rest utf8
    either false = IsCharBoundary-start rest utf8

front_len : Result Front FaultKind → ℕ
front_len (Ok f) = f.len
front_len (Err k) = 0

-- a character and what follows it
module _ (text rest : List ℕ) (c : ℕ) (utf8 : IsUtf8 text) (whole : text ≡ encode_utf8 c ++ rest) where
  plain_whole : c < 128 → text ≡ c ∷ rest
  plain_whole low = whole ∙ ap (λ xs. xs ++ rest) (encode_ascii c low)

  pub past_first : drop (len_utf8 c) text ≡ rest
  past_first =
      let begins : drop 0 text ≡ encode_utf8 c ++ rest = whole in
      ap (λ n. drop n text) (sym (zero-add (len_utf8 c))) ∙ drop_past_char text rest 0 c begins

  pub word_fits : Fits text (len_utf8 c + word_len rest)
  word_fits =
      let cut : IsCharBoundary (drop (len_utf8 c) text) (word_len rest) =
      subst (λ xs. IsCharBoundary xs (word_len rest)) (sym past_first) (word_cut rest (IsUtf8-past_char text rest c utf8 whole)) in
      let width : length (encode_utf8 c ++ rest) ≡ length (encode_utf8 c) + length rest = length-append (encode_utf8 c) rest in
      let within : len_utf8 c ≤ length text = omega (arith, length-encode c, ap length whole) in
      let bounds : (1 ≤ len_utf8 c) × (len_utf8 c ≤ 4) = len_utf8_bounds c in
      (omega (arith, bounds.0), IsCharBoundary-from_rest text (len_utf8 c) (word_len rest) within cut)

  sign_fits : (found : Option Sign) (f : Front) → sign_of c ≡ found → sign_or_word text c rest found ≡ Ok f → Fits text f.len
  unfolding front_len
  sign_fits (Some s) f told is =
      let low : c < 128 = sign_plain c s told in
      subst (λ k. Fits text k) (ap front_len is) (fits_first text rest c utf8 low (plain_whole low))
  sign_fits None f told is = elim (chosen (begins_word c) _ _ (Ok f) is) [
    | inl h ↦ subst (λ k. Fits text k) (ap front_len h.1) word_fits
    | inr h ↦ absurd (cc (h.1))
  ]

  integer_fits : is_ascii_digit c ≡ true → Fits text (prefix_len is_ascii_digit text)
  integer_fits digit =
      let low : c < 128 = digit_plain c rest digit in
      let begins : prefix_len is_ascii_digit text ≡ 1 + prefix_len is_ascii_digit rest =
      ap (prefix_len is_ascii_digit) (plain_whole low) ∙ ap (λ v. cond v (1 + prefix_len is_ascii_digit rest) 0) digit in
      fits_plain text (prefix_len is_ascii_digit text) utf8 (digits_fit text (omega arith))

  pub token_fits : (f : Front) → token_at text c rest ≡ Ok f → Fits text f.len
  unfolding front_len
  token_fits f is = elim (chosen (nat_lt 0 (blank_len text)) _ _ (Ok f) is) [
    | inl h ↦ (
        let some : 0 < blank_len text = grind (arith, nat_tests) in
        subst (λ k. Fits text k) (ap front_len h.1) (fits_plain text (blank_len text) utf8 (blanks_fit text some)))
    | inr h ↦ elim (chosen (c == 47) _ _ (Ok f) h.1) [
      | inl g ↦ (
          let is_it : c ≡ 47 = eqb-true c 47 g.0 in let low : c < 128 = omega arith in
          slash_fits text rest c utf8 low (plain_whole low) f g.1)
      | inr g ↦ elim (chosen (c == 45) _ _ (Ok f) g.1) [
        | inl k ↦ (
            let is_it : c ≡ 45 = eqb-true c 45 k.0 in let low : c < 128 = omega arith in
            subst (λ n. Fits text n) (ap front_len k.1) (minus_fits text rest c utf8 low (plain_whole low)))
        | inr k ↦ elim (chosen (c == 37) _ _ (Ok f) k.1) [
          | inl l ↦ (
              let is_it : c ≡ 37 = eqb-true c 37 l.0 in let low : c < 128 = omega arith in
              subst (λ n. Fits text n) (ap front_len l.1)
              (fits_behind text rest c utf8 low (plain_whole low) (explicit_len rest) (explicit_cut rest (IsUtf8-past_char text rest c utf8 whole))))
          | inr l ↦ elim (chosen (c == 34) _ _ (Ok f) l.1) [
            | inl m ↦ (
                let is_it : c ≡ 34 = eqb-true c 34 m.0 in let low : c < 128 = omega arith in
                quote_fits text rest c utf8 low (plain_whole low) f m.1)
            | inr m ↦ elim (chosen (is_ascii_digit c) _ _ (Ok f) m.1) [
              | inl n ↦ subst (λ k. Fits text k) (ap front_len n.1) (integer_fits n.0)
              | inr n ↦ sign_fits (sign_of c) f refl n.1
            ]
          ]
        ]
      ]
    ]
  ]

-- the first character of a text, and what follows it
pub first_whole : (text : List ℕ) (c : ℕ) → IsUtf8 text → first_char text ≡ Some c → text ≡ encode_utf8 c ++ drop (len_utf8 c) text
first_whole text c utf8 is = by (chars text) (encodes-chars text utf8) is where
  by : (cs : List ℕ) → encode_utf8_all cs ≡ text → slice_get cs 0 ≡ Some c → text ≡ encode_utf8 c ++ drop (len_utf8 c) text
  by [] same is = absurd (cc)
  by (d ∷ ds) same is =
      let first : d ≡ c = cc in
      let whole : text ≡ encode_utf8 c ++ encode_utf8_all ds = sym same ∙ ap (λ x. encode_utf8 x ++ encode_utf8_all ds) first in
      whole ∙ ap (λ xs. encode_utf8 c ++ xs) (sym (past_first text (encode_utf8_all ds) c utf8 whole))

pub front_fits : (text : List ℕ) (f : Front) → IsUtf8 text → front_of text ≡ Some (Ok f) → Fits text f.len
front_fits text f utf8 is = by (first_char text) refl is where
  by : (first : Option ℕ) → first_char text ≡ first → front_by text first ≡ Some (Ok f) → Fits text f.len
  by None told is = absurd (cc)
  by (Some c) told is = token_fits text (drop (len_utf8 c) text) c utf8 (first_whole text c utf8 told) f (cc)

-- the same of what was read, where it is a token
pub read_fits : (text : List ℕ) (read : Result Front FaultKind) → IsUtf8 text → front_of text ≡ Some read → IfOk read (λ f. Fits text f.len)
read_fits text (Ok f) utf8 is = front_fits text f utf8 is
read_fits text (Err k) utf8 is = tt
