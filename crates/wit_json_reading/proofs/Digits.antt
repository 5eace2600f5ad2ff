-- Digits one by one.
use Rattle.std.proofs.Common.{◌≡◌, ◌≤◌, ◌<◌, ◌+◌, ◌-◌, ◌*◌, ◌∙◌, ℕ, zero, suc, Bool, true, false, List, [], ◌∷◌, length, get_or, drop, drop-cons, Option, None, Some, refl, sym, ap, arith, if◌then◌else◌, option_and_then, nat_lt, ◌^◌}
use Rattle.std.specs.Char.{is_ascii_digit}
use Rattle.wit_json_reading.specs.Values.{decimal_after}

-- the number, where it is below a limit
abbrev pub number_below : ℕ → Option ℕ → Option ℕ
number_below limit n = option_and_then (λ n. if nat_lt n limit then Some n else None) n

one_digit : (limit n c : ℕ) (cs : List ℕ) (b : Bool) → number_below limit (decimal_after (n * 10 + (c - 48)) cs) ≡ None
    → number_below limit (if b then decimal_after (n * 10 + (c - 48)) cs else None) ≡ None
one_digit limit n c cs true past = past
one_digit limit n c cs false past = refl

-- a number that passes a limit stays past it
stays_past : (limit n : ℕ) (cs : List ℕ) → limit ≤ n → number_below limit (decimal_after n cs) ≡ None
stays_past limit n [] past = grind arith
stays_past limit n (c ∷ cs) past = one_digit limit n c cs (is_ascii_digit c) (stays_past limit (n * 10 + (c - 48)) cs (omega arith))

-- the digit at an index
at_digit : (limit n i : ℕ) (ds : List ℕ) → i < length ds
    → number_below limit (decimal_after n (drop i ds))
    ≡ number_below limit (if is_ascii_digit (get_or ds i 0) then decimal_after (n * 10 + (get_or ds i 0 - 48)) (drop (suc i) ds) else None)
at_digit limit n i ds small = ap (λ (cs : List ℕ). number_below limit (decimal_after n cs)) (drop-cons ds i 0 small)

pub no_digit : (limit n i : ℕ) (ds : List ℕ) (whole : Option ℕ) → i < length ds → is_ascii_digit (get_or ds i 0) ≡ false
    → whole ≡ number_below limit (decimal_after n (drop i ds)) → None ≡ whole
no_digit limit n i ds whole small other so_far =
    sym (so_far ∙ at_digit limit n i ds small
    ∙ ap (λ (b : Bool). number_below limit (if b then decimal_after (n * 10 + (get_or ds i 0 - 48)) (drop (suc i) ds) else None)) other)

pub too_large : (limit n i : ℕ) (ds : List ℕ) (whole : Option ℕ) → i < length ds → is_ascii_digit (get_or ds i 0) ≡ true → limit ≤ n * 10 + (get_or ds i 0 - 48)
    → whole ≡ number_below limit (decimal_after n (drop i ds)) → None ≡ whole
too_large limit n i ds whole small digit past so_far =
    sym (so_far ∙ at_digit limit n i ds small
    ∙ ap (λ (b : Bool). number_below limit (if b then decimal_after (n * 10 + (get_or ds i 0 - 48)) (drop (suc i) ds) else None)) digit
    ∙ stays_past limit (n * 10 + (get_or ds i 0 - 48)) (drop (suc i) ds) past)

pub one_more_digit : (limit n i more : ℕ) (ds : List ℕ) (whole : Option ℕ) → i < length ds → is_ascii_digit (get_or ds i 0) ≡ true → more ≡ n * 10 + (get_or ds i 0 - 48)
    → whole ≡ number_below limit (decimal_after n (drop i ds)) → whole ≡ number_below limit (decimal_after more (drop (i + 1) ds))
one_more_digit limit n i more ds whole small digit is so_far =
    let next : suc i ≡ i + 1 = omega arith in
    so_far ∙ at_digit limit n i ds small
    ∙ ap (λ (b : Bool). number_below limit (if b then decimal_after (n * 10 + (get_or ds i 0 - 48)) (drop (suc i) ds) else None)) digit
    ∙ ap (λ (m : ℕ). number_below limit (decimal_after m (drop (suc i) ds))) (sym is)
    ∙ ap (λ (k : ℕ). number_below limit (decimal_after more (drop k ds))) next

is_below : (limit n : ℕ) → n < limit → number_below limit (Some n) ≡ Some n
is_below limit n small = grind arith

none_left : (ds : List ℕ) (i : ℕ) → length ds ≤ i → drop i ds ≡ []
none_left [] zero end = refl
none_left [] (suc i) end = refl
none_left (d ∷ ds) zero end = absurd (omega (arith, end))
none_left (d ∷ ds) (suc i) end = none_left ds i (omega (arith, end))

pub all_digits : (limit n i : ℕ) (ds : List ℕ) (whole : Option ℕ) → length ds ≤ i → n < limit → whole ≡ number_below limit (decimal_after n (drop i ds)) → Some n ≡ whole
all_digits limit n i ds whole end small so_far =
    sym (so_far ∙ ap (λ (cs : List ℕ). number_below limit (decimal_after n cs)) (none_left ds i end) ∙ is_below limit n small)
