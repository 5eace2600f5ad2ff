-- Facts on what is active of a list, for the proofs of the crates above.
use Rattle.std.proofs.Common.{◌≡◌, ◌∙◌, ℕ, zero, suc, ◌+◌, ◌<◌, ◌≤◌, Bool, true, false, List, [], ◌∷◌, inl, inr, map, filter, length, Some, option_map, slice_get, refl, sym, ap, subst, cond, arith, if◌then◌else◌}
use Rattle.std.specs.List.{enumerate_from}
use Rattle.std.proofs.lemmas.Bool.{cases_lt, cases_order}
use Rattle.std.proofs.lemmas.Option.{slice_get-map}
use Rattle.wit_remap_spec.specs.Selected.{rank, selected, selected_with_index}

-- one more, where something is active
abbrev pub after : Bool → ℕ → ℕ
after true n = suc n
after false n = n

-- ranks counted from a place on
ranks_from : (ℕ → Bool) → ℕ → ℕ → ℕ
ranks_from kept n zero = zero
ranks_from kept n (suc i) = after (kept n) (ranks_from kept (n + 1) i)

after-swap : (b c : Bool) (n : ℕ) → after b (after c n) ≡ after c (after b n)
after-swap true true n = refl
after-swap true false n = refl
after-swap false true n = refl
after-swap false false n = refl

-- the last one counted last
ranks_from-last : (kept : ℕ → Bool) (n i k : ℕ) → k ≡ n + i → ranks_from kept n (suc i) ≡ after (kept k) (ranks_from kept n i)
unfolding ranks_from
ranks_from-last kept n zero k place = let same : n ≡ k = omega arith in ap (λ (j : ℕ). after (kept j) zero) same
ranks_from-last kept n (suc i) k place =
    ap (after (kept n)) (ranks_from-last kept (n + 1) i k (omega arith)) ∙ after-swap (kept n) (kept k) (ranks_from kept (n + 1) i)

after-if : (b : Bool) (n : ℕ) → (if b then suc n else n) ≡ after b n
after-if true n = refl
after-if false n = refl

-- one place more
pub rank-suc : (kept : ℕ → Bool) (i : ℕ) → rank kept (suc i) ≡ after (kept i) (rank kept i)
rank-suc kept i = after-if (kept i) (rank kept i)

rank-from : (kept : ℕ → Bool) (i : ℕ) → rank kept i ≡ ranks_from kept 0 i
unfolding ranks_from
rank-from kept zero = refl
rank-from kept (suc i) = rank-suc kept i ∙ (ap (after (kept i)) (rank-from kept i) ∙ sym (ranks_from-last kept 0 i i (omega arith)))

-- ranks grow by one at what is active, and by nothing elsewhere
pub rank-kept : (kept : ℕ → Bool) (i : ℕ) → kept i ≡ true → rank kept (suc i) ≡ suc (rank kept i)
rank-kept kept i takes = ap (λ (b : Bool). if b then suc (rank kept i) else rank kept i) takes

pub rank-left : (kept : ℕ → Bool) (i : ℕ) → kept i ≡ false → rank kept (suc i) ≡ rank kept i
rank-left kept i leaves = ap (λ (b : Bool). if b then suc (rank kept i) else rank kept i) leaves

le-after : (b : Bool) (n : ℕ) → n ≤ after b n
le-after true n = omega arith
le-after false n = omega arith

-- later places have no smaller rank
pub rank-monotone : (kept : ℕ → Bool) (i j : ℕ) → i ≤ j → rank kept i ≤ rank kept j
rank-monotone kept i zero le = let same : i ≡ 0 = omega arith in subst (λ (k : ℕ). rank kept k ≤ 0) (sym same) (omega arith)
rank-monotone kept i (suc j) le =
    let step : rank kept j ≤ rank kept (suc j) = subst (λ (k : ℕ). rank kept j ≤ k) (sym (rank-suc kept j)) (le-after (kept j) (rank kept j)) in
    let old : i ≤ j → rank kept i ≤ rank kept j = rank-monotone kept i j in
    elim (cases_lt j i) [
      | inl above ↦ let same : i ≡ suc j = omega arith in subst (λ (k : ℕ). rank kept i ≤ rank kept k) same (omega arith)
      | inr below ↦ let h = old below in omega arith
    ]

-- what is active has a rank of its own
pub rank-strict : (kept : ℕ → Bool) (i j : ℕ) → kept i ≡ true → i < j → rank kept i < rank kept j
rank-strict kept i j takes below =
    let more : rank kept (suc i) ≤ rank kept j = rank-monotone kept (suc i) j (omega arith) in
    let one : rank kept (suc i) ≡ suc (rank kept i) = rank-kept kept i takes in
    omega arith

pub rank-injective : (kept : ℕ → Bool) (i j : ℕ) → kept i ≡ true → kept j ≡ true → rank kept i ≡ rank kept j → i ≡ j
rank-injective kept i j takes other same = elim (cases_order i j) [
  | inl e ↦ e
  | inr apart ↦ elim apart [
    | inl below ↦ let h = rank-strict kept i j takes below in absurd (omega arith)
    | inr above ↦ let h = rank-strict kept j i other above in absurd (omega arith)
  ]
]

module _ {X : Type 0} where
  -- what stands from place n on
  abbrev from : ℕ → (ℕ → Bool) → List X → List (ℕ × X)
  from n kept xs = filter (λ e. kept e.0) (enumerate_from n xs)

  found : (kept : ℕ → Bool) (xs : List X) (n i m : ℕ) (x : X) → slice_get xs i ≡ Some x → m ≡ n + i → kept m ≡ true
      → slice_get (from n kept xs) (ranks_from kept n i) ≡ Some (m, x)
  unfolding ranks_from
  found kept [] n i m x at place takes = cc
  found kept (y ∷ ys) n zero m x at place takes =
      let e : y ≡ x = cc in
      let p : n ≡ m = omega arith in
      let q : kept n ≡ true = ap kept p ∙ takes in
      ap (λ (b : Bool). slice_get (cond b ((n, y) ∷ from (n + 1) kept ys) (from (n + 1) kept ys)) zero) q ∙ cc
  found kept (y ∷ ys) n (suc i) m x at place takes = at_front (kept n) (found kept ys (n + 1) i m x at (omega arith) takes)
    where
      at_front : (b : Bool) → slice_get (from (n + 1) kept ys) (ranks_from kept (n + 1) i) ≡ Some (m, x)
          → slice_get (cond b ((n, y) ∷ from (n + 1) kept ys) (from (n + 1) kept ys)) (after b (ranks_from kept (n + 1) i)) ≡ Some (m, x)
      at_front true old = old
      at_front false old = old

  back : (kept : ℕ → Bool) (xs : List X) (n k : ℕ) (e : ℕ × X) → slice_get (from n kept xs) k ≡ Some e
      → (i : ℕ) × (e.0 ≡ n + i) × (slice_get xs i ≡ Some e.1) × (kept e.0 ≡ true) × (k ≡ ranks_from kept n i)
  unfolding ranks_from
  back kept [] n k e at = cc
  back kept (y ∷ ys) n k e at = by (kept n) refl k at (back kept ys (n + 1))
    where
      by : (b : Bool) → kept n ≡ b → (k : ℕ) → slice_get (cond b ((n, y) ∷ from (n + 1) kept ys) (from (n + 1) kept ys)) k ≡ Some e
          → ((k : ℕ) (e : ℕ × X) → slice_get (from (n + 1) kept ys) k ≡ Some e → (i : ℕ) × (e.0 ≡ (n + 1) + i) × (slice_get ys i ≡ Some e.1) × (kept e.0 ≡ true) × (k ≡ ranks_from kept (n + 1) i))
          → (i : ℕ) × (e.0 ≡ n + i) × (slice_get (y ∷ ys) i ≡ Some e.1) × (kept e.0 ≡ true) × (k ≡ ranks_from kept n i)
      by true is zero at rest =
          let same : (n, y) ≡ e = cc in
          let first : n ≡ e.0 = ap (λ (p : ℕ × X). p.0) same in
          (0, omega arith, ap (λ (p : ℕ × X). Some p.1) same, ap kept (sym first) ∙ is, refl)
      by true is (suc k) at rest =
          let old = rest k e at in let place = old.1 in
          (suc old.0, omega arith, old.2, old.3, ap suc old.4 ∙ ap (λ (b : Bool). after b (ranks_from kept (n + 1) old.0)) (sym is))
      by false is k at rest =
          let old = rest k e at in let place = old.1 in
          (suc old.0, omega arith, old.2, old.3, old.4 ∙ ap (λ (b : Bool). after b (ranks_from kept (n + 1) old.0)) (sym is))

  -- what is active stands at its rank
  pub selected_with_index-at : (kept : ℕ → Bool) (xs : List X) (i : ℕ) (x : X) → slice_get xs i ≡ Some x → kept i ≡ true → slice_get (selected_with_index kept xs) (rank kept i) ≡ Some (i, x)
  selected_with_index-at kept xs i x at takes =
      subst (λ (r : ℕ). slice_get (selected_with_index kept xs) r ≡ Some (i, x)) (sym (rank-from kept i)) (found kept xs 0 i i x at (omega arith) takes)

  -- and nothing else does
  pub selected_with_index-from : (kept : ℕ → Bool) (xs : List X) (k : ℕ) (e : ℕ × X) → slice_get (selected_with_index kept xs) k ≡ Some e
      → (slice_get xs e.0 ≡ Some e.1) × (kept e.0 ≡ true) × (k ≡ rank kept e.0)
  selected_with_index-from kept xs k e at =
      let old = back kept xs 0 k e at in
      let place : old.0 ≡ e.0 = let p = old.1 in omega arith in
      (subst (λ (i : ℕ). slice_get xs i ≡ Some e.1) place old.2, old.3, old.4 ∙ (sym (rank-from kept old.0) ∙ ap (rank kept) place))

  pub selected-at : (kept : ℕ → Bool) (xs : List X) (i : ℕ) (x : X) → slice_get xs i ≡ Some x → kept i ≡ true → slice_get (selected kept xs) (rank kept i) ≡ Some x
  selected-at kept xs i x at takes = slice_get-map (λ (e : ℕ × X). e.1) (selected_with_index kept xs) (rank kept i) ∙ ap (option_map (λ (e : ℕ × X). e.1)) (selected_with_index-at kept xs i x at takes)

-- ---- two tests that agree

-- keep as many below a number below which they agree
pub rank-agree : (p q : ℕ → Bool) (n : ℕ) → ((i : ℕ) → i < n → p i ≡ q i) → rank p n ≡ rank q n
rank-agree p q zero same = refl
rank-agree p q (suc n) same =
    rank-suc p n ∙ (ap (λ (b : Bool). after b (rank p n)) (same n (omega arith)) ∙ (ap (after (q n)) (rank-agree p q n (λ i below. same i (omega arith))) ∙ sym (rank-suc q n)))

module _ {X : Type 0} where
  from-agree : (p q : ℕ → Bool) (n : ℕ) (xs : List X) → ((i : ℕ) → i < n + length xs → p i ≡ q i) → from n p xs ≡ from n q xs
  from-agree p q n [] same = refl
  from-agree p q n (x ∷ xs) same =
      ap (λ (b : Bool). cond b ((n, x) ∷ from (n + 1) p xs) (from (n + 1) p xs)) (same n (omega arith))
      ∙ ap (λ (l : List (ℕ × X)). cond (q n) ((n, x) ∷ l) l) (from-agree p q (n + 1) xs (λ i below. same i (omega arith)))

  -- keep the same of a list
  pub selected-agree : (p q : ℕ → Bool) (xs : List X) → ((i : ℕ) → i < length xs → p i ≡ q i) → selected p xs ≡ selected q xs
  selected-agree p q xs same = ap (map (λ (e : ℕ × X). e.1)) (from-agree p q 0 xs (λ i below. same i (omega arith)))
