-- The packages in braces.
use Rattle.std.proofs.Common.{◌≡◌, ◌∙◌, ◌+◌, ◌++◌, ℕ, zero, suc, List, add-one, ap, append_assoc, arith, sym}
use Rattle.std.proofs.lemmas.List.{append-nil}
use Rattle.std.specs.List.{flat_map, range_with_len}

-- one more number
one_more : (h : ℕ → List ℕ) (a n last : ℕ) → a + n ≡ last → flat_map h (range_with_len a (suc n)) ≡ flat_map h (range_with_len a n) ++ h last
one_more h a zero last is = let same : a ≡ last = omega (arith, is) in append-nil (h a) ∙ ap h same
one_more h a (suc n) last is =
    let same : (a + 1) + n ≡ last = omega (arith, is) in
    ap (λ l. h a ++ l) (one_more h (a + 1) n last same) ∙ sym (append_assoc (h a) (flat_map h (range_with_len (a + 1) n)) (h last))

-- one more package
pub next_other : (h : ℕ → List ℕ) (i : ℕ) (text after start : List ℕ) → text ≡ start ++ flat_map h (range_with_len 0 i) → after ≡ text ++ h i
    → after ≡ start ++ flat_map h (range_with_len 0 (i + 1))
next_other h i text after start had next =
    let same : 0 + i ≡ i = omega arith in
    rw add-one (next ∙ (ap (λ l. l ++ h i) had ∙ (append_assoc start (flat_map h (range_with_len 0 i)) (h i) ∙ ap (λ l. start ++ l) (sym (one_more h 0 i i same)))))
