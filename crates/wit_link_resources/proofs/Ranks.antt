-- How many of the first numbers a test keeps.
use Rattle.std.proofs.Common.{◌≡◌, ◌∙◌, ◌+◌, ◌≤◌, ◌<◌, ℕ, zero, suc, Bool, true, false, List, [], ◌∷◌, filter, length, cond, refl, ap, arith}
use Rattle.std.specs.List.{enumerate_from, range_with_len}
use Rattle.std.proofs.lemmas.List.{length-append, length-map}
use Rattle.std.proofs.lemmas.List.Elements.{filter-append}
use Rattle.wit_remap_spec.specs.Selected.{rank, selected, selected_with_index}
use Rattle.wit_link_spec.specs.facts.RangeFacts.{range-more}
use Rattle.wit_link_spec.specs.facts.RankFacts.{after, rank-kept, rank-left, rank-suc}

pub rank-one : (kept : ℕ → Bool) (i : ℕ) → kept i ≡ true → rank kept (i + 1) ≡ rank kept i + 1
rank-one kept i takes = let more = rank-kept kept i takes in let same : i + 1 ≡ suc i = omega arith in ap (rank kept) same ∙ omega arith

pub rank-same : (kept : ℕ → Bool) (i : ℕ) → kept i ≡ false → rank kept (i + 1) ≡ rank kept i
rank-same kept i leaves = let same : i + 1 ≡ suc i = omega arith in ap (rank kept) same ∙ rank-left kept i leaves

after_most : (b : Bool) (n m : ℕ) → n ≤ m → after b n ≤ suc m
after_most true n m le = omega arith
after_most false n m le = omega arith

pub rank-most : (kept : ℕ → Bool) (n : ℕ) → rank kept n ≤ n
rank-most kept zero = omega arith
rank-most kept (suc n) = let is = rank-suc kept n in let le = after_most (kept n) (rank kept n) n (rank-most kept n) in omega arith

module _ {X : Type 0} where
  counted : (kept : ℕ → Bool) (n : ℕ) (xs : List X) → length (filter (λ (e : ℕ × X). kept e.0) (enumerate_from n xs)) + rank kept n ≡ rank kept (n + length xs)
  counted kept n [] = let same : n ≡ n + 0 = omega arith in let is = ap (rank kept) same in omega arith
  counted kept n (x ∷ xs) = by (kept n) refl (counted kept (n + 1) xs)
    where
      rest : List (ℕ × X)
      rest = filter (λ (e : ℕ × X). kept e.0) (enumerate_from (n + 1) xs)

      place : rank kept ((n + 1) + length xs) ≡ rank kept (n + length (x ∷ xs))
      place = let same : (n + 1) + length xs ≡ n + length (x ∷ xs) = omega arith in ap (rank kept) same

      by : (b : Bool) → kept n ≡ b → length rest + rank kept (n + 1) ≡ rank kept ((n + 1) + length xs) → length (cond b ((n, x) ∷ rest) rest) + rank kept n ≡ rank kept (n + length (x ∷ xs))
      by true is old = let one = rank-one kept n is in let end = place in omega arith
      by false is old = let one = rank-same kept n is in let end = place in omega arith

  -- what is active of a list is as much as its rank says
  pub length-selected : (kept : ℕ → Bool) (xs : List X) → length (selected kept xs) ≡ rank kept (length xs)
  length-selected kept xs =
      let long = length-map (selected_with_index kept xs) (λ (e : ℕ × X). e.1) in
      let is = counted kept 0 xs in
      let whole : 0 + length xs ≡ length xs = omega arith in
      let end = ap (rank kept) whole in
      let start : rank kept 0 ≡ 0 = refl in
      omega arith

filtered_one : (p : ℕ → Bool) (n : ℕ) → length (filter p (range_with_len 0 (n + 1))) ≡ length (filter p (range_with_len 0 n)) + length (cond (p n) (n ∷ []) [])
filtered_one p n = ap (λ (l : List ℕ). length (filter p l)) (range-more n) ∙ (ap length (filter-append p (range_with_len 0 n) (n ∷ [])) ∙ length-append (filter p (range_with_len 0 n)) (cond (p n) (n ∷ []) []))

-- so of the numbers below one
pub length-filtered : (p : ℕ → Bool) (n : ℕ) → length (filter p (range_with_len 0 n)) ≡ rank p n
length-filtered p zero = refl
length-filtered p (suc n) = by (p n) refl (length-filtered p n)
  where
    start : length (filter p (range_with_len 0 (suc n))) ≡ length (filter p (range_with_len 0 n)) + length (cond (p n) (n ∷ []) [])
    start = let same : suc n ≡ n + 1 = omega arith in ap (λ (k : ℕ). length (filter p (range_with_len 0 k))) same ∙ filtered_one p n

    by : (b : Bool) → p n ≡ b → length (filter p (range_with_len 0 n)) ≡ rank p n → length (filter p (range_with_len 0 (suc n))) ≡ rank p (suc n)
    by true is old =
        let one = rank-kept p n is in let whole = start in let last = ap (λ (b : Bool). length (cond b (n ∷ []) [])) is in omega arith
    by false is old =
        let one = rank-left p n is in let whole = start in let last = ap (λ (b : Bool). length (cond b (n ∷ []) [])) is in omega arith
