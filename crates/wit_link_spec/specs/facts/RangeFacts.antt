-- Lists of what a function gives of each number below another: what stands at a place, what a write there does, one number more.
use Rattle.std.proofs.Common.{◌≡◌, ◌∙◌, ℕ, zero, suc, ◌+◌, ◌<◌, ◌≤◌, List, [], ◌∷◌, ◌++◌, map, length, get_or, All, None, Some, slice_get, slice_set, refl, sym, ap, arith, add-one, Contains}
use Rattle.std.specs.List.{range_with_len}
use Rattle.std.proofs.lemmas.List.Elements.{All-contains}
use Rattle.std.proofs.lemmas.List.FromFn.{get_or-map-range_with_len, get_or-range_with_len, length-map-range_with_len, length-range_with_len, map-range_with_len_more}
use Rattle.std.proofs.lemmas.Option.{slice_get-get_or, slice_get_past, slice_get_within}
use Rattle.wit_graph_theory.specs.facts.ListFacts.{contained_at}

-- the numbers below one are below it
pub range-below : (n : ℕ) → All (λ i. i < n) (range_with_len 0 n)
range-below n k d below =
    let long : length (range_with_len 0 n) ≡ n = length-range_with_len 0 n in
    let is : get_or (range_with_len 0 n) k d ≡ 0 + k = get_or-range_with_len 0 n k d (omega arith) in
    omega arith

module _ {X : Type 0} (f : ℕ → X) where
  pub range-at : (n i : ℕ) → i < n → slice_get (map f (range_with_len 0 n)) i ≡ Some (f i)
  range-at n i below =
      let long = length-map-range_with_len f 0 n in
      slice_get-get_or (map f (range_with_len 0 n)) i (f i) (omega arith) ∙ ap (λ (x : X). Some x) (get_or-map-range_with_len f 0 n i i (f i) below (omega arith))

  pub range-past : (n i : ℕ) → n ≤ i → slice_get (map f (range_with_len 0 n)) i ≡ None
  range-past n i past = let long = length-map-range_with_len f 0 n in slice_get_past (map f (range_with_len 0 n)) i (omega arith)

  -- what is so long as the numbers are
  pub range-inside : (n i : ℕ) (xs : List X) → xs ≡ map f (range_with_len 0 n) → i < n → i < length xs
  range-inside n i xs are below = let long = ap length are ∙ length-map-range_with_len f 0 n in omega arith

  -- what is read is what the function gives
  pub range-read : (n i : ℕ) (xs : List X) (x : X) → xs ≡ map f (range_with_len 0 n) → slice_get xs i ≡ Some x → x ≡ f i
  range-read n i xs x are at =
      let long = ap length are ∙ length-map-range_with_len f 0 n in
      let within = slice_get_within xs i x at in
      let is = range-at n i (omega arith) in
      let there = ap (λ (l : List X). slice_get l i) are in
      cc

  -- one number more
  pub range-next : (n : ℕ) → map f (range_with_len 0 (n + 1)) ≡ map f (range_with_len 0 n) ++ f n ∷ []
  range-next n = map-range_with_len_more f 0 n n (omega arith)

  pub range-pushed : (n : ℕ) (before after : List X) (x : X) → before ≡ map f (range_with_len 0 n) → after ≡ before ++ x ∷ [] → x ≡ f n → after ≡ map f (range_with_len 0 (n + 1))
  range-pushed n before after x made added is =
      added ∙ (ap (λ (l : List X). l ++ x ∷ []) made ∙ (ap (λ (y : X). map f (range_with_len 0 n) ++ y ∷ []) is ∙ sym (range-next n)))

module _ {X : Type 0} (f g : ℕ → X) where
  same_after : (a n : ℕ) → ((j : ℕ) → a < j + 1 → f j ≡ g j) → map f (range_with_len a n) ≡ map g (range_with_len a n)
  same_after a zero same = refl
  same_after a (suc n) same =
      let here : f a ≡ g a = same a (omega arith) in
      let rest : map f (range_with_len (a + 1) n) ≡ map g (range_with_len (a + 1) n) = same_after (a + 1) n (λ j above. same j (omega arith)) in
      cc

  -- the same of each number
  pub range-same : (n : ℕ) → ((j : ℕ) → f j ≡ g j) → map f (range_with_len 0 n) ≡ map g (range_with_len 0 n)
  range-same n same = same_after 0 n (λ j above. same j)

  set_from : (a n i k : ℕ) (y : X) → k ≡ a + i → i < n → ((j : ℕ) → (j ≡ k → ⊥) → f j ≡ g j) → y ≡ g k → slice_set (map f (range_with_len a n)) i y ≡ map g (range_with_len a n)
  set_from a zero i k y place below same here = absurd (omega arith)
  set_from a (suc n) zero k y place below same here =
      let first : k ≡ a = omega arith in
      let head : y ≡ g a = here ∙ ap g first in
      let rest : map f (range_with_len (a + 1) n) ≡ map g (range_with_len (a + 1) n) = same_after (a + 1) n (λ j above. same j (λ (e : j ≡ k). omega arith)) in
      cc
  set_from a (suc n) (suc i) k y place below same here =
      let head : f a ≡ g a = same a (λ (e : a ≡ k). omega arith) in
      let rest : slice_set (map f (range_with_len (a + 1) n)) i y ≡ map g (range_with_len (a + 1) n) = set_from (a + 1) n i k y (omega arith) (omega arith) same here in
      cc

  -- a write at one place changes what is there alone
  pub range-set : (n k : ℕ) (y : X) → k < n → ((j : ℕ) → (j ≡ k → ⊥) → f j ≡ g j) → y ≡ g k → slice_set (map f (range_with_len 0 n)) k y ≡ map g (range_with_len 0 n)
  range-set n k y below same here = set_from 0 n k k y (omega arith) below same here

-- ---- the numbers themselves

range-suc : (a n j : ℕ) → a + n ≡ j → range_with_len a (suc n) ≡ range_with_len a n ++ j ∷ []
range-suc a zero j place = let same : a ≡ j = omega arith in ap (λ (k : ℕ). k ∷ []) same
range-suc a (suc n) j place = ap (λ (ks : List ℕ). a ∷ ks) (range-suc (a + 1) n j (omega arith))

-- one number more
pub range-more : (n : ℕ) → range_with_len 0 (n + 1) ≡ range_with_len 0 n ++ n ∷ []
range-more n = rw add-one (range-suc 0 n n (omega arith))

-- the number at a place
number_from : (a n t j : ℕ) → t < n → a + t ≡ j → slice_get (range_with_len a n) t ≡ Some j
number_from a zero t j below place = absurd (omega arith)
number_from a (suc n) zero j below place = let same : a ≡ j = omega arith in ap (λ (k : ℕ). Some k) same
number_from a (suc n) (suc t) j below place = number_from (a + 1) n t j (omega arith) (omega arith)

pub in_range : (n t : ℕ) → t < n → Contains (range_with_len 0 n) t
in_range n t below = contained_at (range_with_len 0 n) t t (number_from 0 n t t below (omega arith))

pub range_below : (n t : ℕ) → Contains (range_with_len 0 n) t → t < n
range_below n t has = All-contains (λ i. i < n) (range_with_len 0 n) t (range-below n) has
