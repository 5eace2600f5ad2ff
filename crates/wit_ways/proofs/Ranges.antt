-- One more of a list or of a range.
use Rattle.std.proofs.Common.{◌≡◌, ◌+◌, ◌∙◌, ℕ, zero, suc, List, [], ◌∷◌, ◌++◌, Option, None, Some, ap, append_assoc, arith, drop, filter_map, map, refl, sym}
use Rattle.std.specs.Prelude.{slice_get}
use Rattle.std.specs.List.{cons_option, flat_map, range_with_len}
use Rattle.std.specs.Option.{option_to_list}
use Rattle.std.proofs.lemmas.List.{append-nil}

pub drop_next : {X : Type 0} (xs : List X) (i : ℕ) (x : X) → slice_get xs i ≡ Some x → drop i xs ≡ x ∷ drop (i + 1) xs
drop_next [] i x there = cc
drop_next (y ∷ xs) zero x there = let same : y ≡ x = cc in ap (λ z. z ∷ xs) same
drop_next (y ∷ xs) (suc i) x there =
    let more : suc (i + 1) ≡ suc i + 1 = omega arith in
    drop_next xs i x there ∙ ap (λ (k : ℕ). x ∷ drop k (y ∷ xs)) more

module _ {X : Type 0} where
  flat_next : (of : ℕ → List X) (a n j : ℕ) → a + n ≡ j → flat_map of (range_with_len a (suc n)) ≡ flat_map of (range_with_len a n) ++ of j
  flat_next of a zero j is = let same : a ≡ j = omega arith in append-nil (of a) ∙ ap of same
  flat_next of a (suc n) j is =
      ap (λ (more : List X). of a ++ more) (flat_next of (a + 1) n j (omega (arith, is))) ∙ sym (append_assoc (of a) (flat_map of (range_with_len (a + 1) n)) (of j))

  -- those of one number more
  pub range_next : (of : ℕ → List X) (n : ℕ) → flat_map of (range_with_len 0 (n + 1)) ≡ flat_map of (range_with_len 0 n) ++ of n
  range_next of n =
      let one : n + 1 ≡ suc n = omega arith in
      ap (λ (k : ℕ). flat_map of (range_with_len 0 k)) one ∙ flat_next of 0 n n (omega arith)

  map_next : (of : ℕ → X) (a n j : ℕ) → a + n ≡ j → map of (range_with_len a (suc n)) ≡ map of (range_with_len a n) ++ of j ∷ []
  map_next of a zero j is = let same : a ≡ j = omega arith in ap (λ (k : ℕ). of k ∷ []) same
  map_next of a (suc n) j is = ap (λ (more : List X). of a ∷ more) (map_next of (a + 1) n j (omega (arith, is)))

  -- that of one number more
  pub range_next_one : (of : ℕ → X) (n : ℕ) → map of (range_with_len 0 (n + 1)) ≡ map of (range_with_len 0 n) ++ of n ∷ []
  range_next_one of n =
      let one : n + 1 ≡ suc n = omega arith in
      ap (λ (k : ℕ). map of (range_with_len 0 k)) one ∙ map_next of 0 n n (omega arith)

module _ {X : Type 0} where
  filter_next : (of : ℕ → Option X) (a n j : ℕ) → a + n ≡ j → filter_map of (range_with_len a (suc n)) ≡ filter_map of (range_with_len a n) ++ option_to_list (of j)
  filter_next of a zero j is = let same : a ≡ j = omega arith in alone (of a) ∙ ap (λ (k : ℕ). option_to_list (of k)) same
    where
      alone : (found : Option X) → cons_option found [] ≡ option_to_list found
      alone None = refl
      alone (Some x) = refl
  filter_next of a (suc n) j is =
      ap (cons_option (of a)) (filter_next of (a + 1) n j (omega (arith, is))) ∙ moved (of a) (filter_map of (range_with_len (a + 1) n)) (option_to_list (of j))
    where
      moved : (found : Option X) (xs ys : List X) → cons_option found (xs ++ ys) ≡ cons_option found xs ++ ys
      moved None xs ys = refl
      moved (Some x) xs ys = refl

  -- that of one number more, where it has one
  pub range_next_some : (of : ℕ → Option X) (n : ℕ) → filter_map of (range_with_len 0 (n + 1)) ≡ filter_map of (range_with_len 0 n) ++ option_to_list (of n)
  range_next_some of n =
      let one : n + 1 ≡ suc n = omega arith in
      ap (λ (k : ℕ). filter_map of (range_with_len 0 k)) one ∙ filter_next of 0 n n (omega arith)
