-- A list of which the first elements are done, one more at a time.
use Rattle.std.proofs.Common.{◌≡◌, ℕ, ◌+◌, zero, suc, List, [], ◌∷◌, ◌∙◌, length, map, Some, slice_get, slice_set, refl, ap, sym, subst, add-one}
use Rattle.indexmap.specs.IndexMap.{set_value_at}

-- the list with f at each of its first so many elements
abbrev pub map_first : {X : Type 0} → (X → X) → ℕ → List X → List X
map_first f zero xs = xs
map_first f (suc n) [] = []
map_first f (suc n) (x ∷ xs) = f x ∷ map_first f n xs

-- a pair with f at its second part
abbrev pub at_value : {K V : Type 0} → (V → V) → K × V → K × V
at_value f e = (e.0, f e.1)

module _ {X : Type 0} (f : X → X) where
  pub length-map_first : (i : ℕ) (xs : List X) → length (map_first f i xs) ≡ length xs
  length-map_first zero xs = refl
  length-map_first (suc i) [] = refl
  length-map_first (suc i) (x ∷ xs) = ap suc (length-map_first i xs)

  pub slice_get-map_first : (i : ℕ) (xs : List X) → slice_get (map_first f i xs) i ≡ slice_get xs i
  slice_get-map_first zero xs = refl
  slice_get-map_first (suc i) [] = refl
  slice_get-map_first (suc i) (x ∷ xs) = slice_get-map_first i xs

  -- the first element that is not done
  pub map_first-at : (i : ℕ) (xs now : List X) (x : X) → now ≡ map_first f i xs → slice_get now i ≡ Some x → slice_get xs i ≡ Some x
  map_first-at i xs now x is at = sym (slice_get-map_first i xs) ∙ ap (λ l. slice_get l i) (sym is) ∙ at

  set_next : (i : ℕ) (xs : List X) (x : X) → slice_get xs i ≡ Some x → slice_set (map_first f i xs) i (f x) ≡ map_first f (suc i) xs
  set_next zero [] x at = cc
  set_next zero (y ∷ ys) x at = let same : y ≡ x = cc in ap (λ z. f z ∷ ys) (cc (same))
  set_next (suc i) [] x at = cc
  set_next (suc i) (y ∷ ys) x at = ap (λ l. f y ∷ l) (set_next i ys x at)

  pub map_first-next : (i : ℕ) (xs : List X) (x : X) → slice_get xs i ≡ Some x → slice_set (map_first f i xs) i (f x) ≡ map_first f (i + 1) xs
  map_first-next i xs x at = rw add-one (set_next i xs x at)

  pub map_first-all : (xs : List X) → map_first f (length xs) xs ≡ map f xs
  map_first-all [] = refl
  map_first-all (x ∷ xs) = ap (λ l. f x ∷ l) (map_first-all xs)

-- the values of pairs
abbrev pub values_of : {K V : Type 0} → List (K × V) → List V
values_of {K} {V} es = map (λ (e : K × V). e.1) es

module _ {K V : Type 0} (f : V → V) where
  value_at : (i : ℕ) (es : List (K × V)) (v : V) → slice_get (values_of (map_first (at_value f) i es)) i ≡ Some v → (k : K) × (slice_get es i ≡ Some (k, v))
  value_at zero [] v at = cc
  value_at zero (e ∷ es) v at = let same : e.1 ≡ v = cc in (e.0, ap (λ (x : V). Some (e.0, x)) same)
  value_at (suc i) [] v at = cc
  value_at (suc i) (e ∷ es) v at = value_at i es v at

  value_next : (i : ℕ) (es : List (K × V)) (k : K) (v : V) → slice_get es i ≡ Some (k, v)
      → set_value_at (map_first (at_value f) i es) i (f v) ≡ map_first (at_value f) (suc i) es
  value_next zero [] k v at = cc
  value_next zero (e ∷ es) k v at = let same : e ≡ (k, v) = cc in ap (λ (p : K × V). (e.0, f p.1) ∷ es) (sym same)
  value_next (suc i) [] k v at = cc
  value_next (suc i) (e ∷ es) k v at = ap (λ l. (e.0, f e.1) ∷ l) (value_next i es k v at)

  -- the value at the first index that is not done
  pub value_there : (i : ℕ) (es now : List (K × V)) (v : V) → now ≡ map_first (at_value f) i es → slice_get (values_of now) i ≡ Some v → (k : K) × (slice_get es i ≡ Some (k, v))
  value_there i es now v is at = value_at i es v (subst (λ (l : List (K × V)). slice_get (values_of l) i ≡ Some v) is at)

  pub set_value-next : (i : ℕ) (es now : List (K × V)) (v : V) → now ≡ map_first (at_value f) i es → slice_get (values_of now) i ≡ Some v
      → set_value_at now i (f v) ≡ map_first (at_value f) (i + 1) es
  set_value-next i es now v is at =
      let p = value_there i es now v is at in
      ap (λ (l : List (K × V)). set_value_at l i (f v)) is ∙ rw add-one (value_next i es p.0 v p.1)
