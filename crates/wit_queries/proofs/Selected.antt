-- Lists that are read from a place on, and texts that are made line by line.
use Rattle.std.proofs.Common.{◌≡◌, ℕ, suc, zero, ◌+◌, Bool, true, false, List, [], ◌∷◌, ◌++◌, drop, filter, Some, slice_get, refl, ap, sym, ◌∙◌, add-one, append_assoc}
use Rattle.std.proofs.lemmas.List.{append-nil}
use Rattle.std.specs.List.{flat_map}

module _ {X : Type 0} where
  -- a text with one more piece, and the pieces that are left
  pub text-more : (f : X → List ℕ) (left others : List X) (x : X) (so_far after whole : List ℕ) → left ≡ x ∷ others
      → so_far ++ flat_map f left ≡ whole → after ≡ so_far ++ f x → after ++ flat_map f others ≡ whole
  text-more f left others x so_far after whole first had next =
      ap (λ (l : List ℕ). l ++ flat_map f others) next ∙ append_assoc so_far (f x) (flat_map f others) ∙ ap (λ (l : List X). so_far ++ flat_map f l) (sym first) ∙ had

  -- where none is left
  pub text-all : (f : X → List ℕ) (left : List X) (so_far whole : List ℕ) → left ≡ [] → so_far ++ flat_map f left ≡ whole → so_far ≡ whole
  text-all f left so_far whole none had = sym (append-nil so_far) ∙ ap (λ (l : List X). so_far ++ flat_map f l) (sym none) ∙ had

  drop-suc_at : (xs : List X) (i : ℕ) (x : X) → slice_get xs i ≡ Some x → drop i xs ≡ x ∷ drop (suc i) xs
  drop-suc_at [] i x at = cc
  drop-suc_at (y ∷ ys) zero x at = let same : y ≡ x = cc in ap (λ (z : X). z ∷ ys) same
  drop-suc_at (y ∷ ys) (suc i) x at = drop-suc_at ys i x at

  -- what is left begins with the element at its place
  pub drop-next_at : (xs : List X) (i : ℕ) (x : X) → slice_get xs i ≡ Some x → drop i xs ≡ x ∷ drop (i + 1) xs
  drop-next_at xs i x at = rw add-one (drop-suc_at xs i x at)

  -- what is filtered of what is left, where the next one fails
  pub filter-passed : (p : X → Bool) (xs : List X) (i : ℕ) (x : X) → slice_get xs i ≡ Some x → p x ≡ false → filter p (drop i xs) ≡ filter p (drop (i + 1) xs)
  filter-passed p xs i x at fails = rw (drop-next_at xs i x at, fails) refl

  -- and where it passes
  pub filter-met : (p : X → Bool) (xs : List X) (i : ℕ) (x : X) → slice_get xs i ≡ Some x → p x ≡ true → filter p (drop i xs) ≡ x ∷ filter p (drop (i + 1) xs)
  filter-met p xs i x at passes = rw (drop-next_at xs i x at, passes) refl

  -- nothing is left of what fails
  pub filter-none : (p : X → Bool) → ((x : X) → p x ≡ false) → (xs : List X) → filter p xs ≡ []
  filter-none p fails [] = refl
  filter-none p fails (x ∷ xs) = rw (fails x) (filter-none p fails xs)
