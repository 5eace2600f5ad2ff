-- What is gathered of the things of a list, one index after another, is what is gathered of those that a test keeps.
use Rattle.std.proofs.Common.{◌≡◌, ◌∙◌, ◌+◌, ℕ, suc, Bool, true, false, List, [], ◌∷◌, ◌++◌, map, filter, length, cond, Some, slice_get, refl, ap, subst, arith, if◌then◌else◌}
use Rattle.std.specs.List.{enumerate_from, flat_map, range_with_len}
use Rattle.wit_remap_spec.specs.Selected.{selected}

module _ {X Y : Type 0} (g : ℕ → List Y) (kept : ℕ → Bool) (f : X → List Y) where
  abbrev all_from : ℕ → List X → List Y
  all_from n xs = flat_map f (map (λ (e : ℕ × X). e.1) (filter (λ (e : ℕ × X). kept e.0) (enumerate_from n xs)))

  gathered_from : (n : ℕ) (xs : List X) → ((i k : ℕ) (x : X) → k ≡ n + i → slice_get xs i ≡ Some x → g k ≡ (if kept k then f x else [])) → flat_map g (range_with_len n (length xs)) ≡ all_from n xs
  gathered_from n [] is = refl
  gathered_from n (x ∷ xs) is = by (kept n) (is 0 n x (omega arith) refl) (gathered_from (n + 1) xs (λ i k y place at. is (suc i) k y (omega (arith, place)) at))
    where
      rest : List (ℕ × X)
      rest = filter (λ (e : ℕ × X). kept e.0) (enumerate_from (n + 1) xs)

      by : (b : Bool) → g n ≡ (if b then f x else []) → flat_map g (range_with_len (n + 1) (length xs)) ≡ all_from (n + 1) xs
          → g n ++ flat_map g (range_with_len (n + 1) (length xs)) ≡ flat_map f (map (λ (e : ℕ × X). e.1) (cond b ((n, x) ∷ rest) rest))
      by true here more = ap (λ (l : List Y). l ++ flat_map g (range_with_len (n + 1) (length xs))) here ∙ ap (λ (l : List Y). f x ++ l) more
      by false here more = ap (λ (l : List Y). l ++ flat_map g (range_with_len (n + 1) (length xs))) here ∙ more

  pub gathered : (xs : List X) → ((i : ℕ) (x : X) → slice_get xs i ≡ Some x → g i ≡ (if kept i then f x else [])) → flat_map g (range_with_len 0 (length xs)) ≡ flat_map f (selected kept xs)
  gathered xs is = gathered_from 0 xs (λ i k x place at. let same : i ≡ k = omega (arith, place) in subst (λ (j : ℕ). g j ≡ (if kept j then f x else [])) same (is i x at))
