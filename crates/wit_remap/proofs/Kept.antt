-- What holds of each thing of a list holds of those that are kept of it.
use Rattle.std.proofs.Common.{◌≡◌, ◌∙◌, ℕ, zero, suc, ◌+◌, Bool, true, false, cond, List, [], ◌∷◌, ◌++◌, map, filter, slice_get, Some, refl, ap, subst, sym, append_assoc}
use Rattle.std.specs.List.{enumerate_from}
use Rattle.wit_data.specs.Each.{Each}
use Rattle.wit_remap_spec.specs.Selected.{selected}

module _ {X : Type 0} (P : X → Type 0) (kept : X → Bool) where
  pub Each-filter : (xs : List X) → Each P xs → Each P (filter kept xs)
  Each-filter [] each i x at = cc
  Each-filter (y ∷ ys) each i x at = by (kept y) i at (Each-filter ys (λ j. each (suc j)))
    where
      by : (b : Bool) (i : ℕ) → slice_get (cond b (y ∷ filter kept ys) (filter kept ys)) i ≡ Some x → Each P (filter kept ys) → P x
      by true zero at rest = let same : y ≡ x = cc in subst P same (each zero y refl)
      by true (suc i) at rest = rest i x at
      by false i at rest = rest i x at

-- and of each with its place
pub Each-enumerated : {X : Type 0} (P : X → Type 0) (n : ℕ) (xs : List X) → Each P xs → Each (λ (e : ℕ × X). P e.1) (enumerate_from n xs)
Each-enumerated P n [] each i x at = cc
Each-enumerated {X} P n (y ∷ ys) each zero e at = let same : (n, y) ≡ e = cc in subst (λ (p : ℕ × X). P p.1) same (each zero y refl)
Each-enumerated P n (y ∷ ys) each (suc i) e at = Each-enumerated P (n + 1) ys (λ j. each (suc j)) i e at

module _ {X : Type 0} (P : X → Type 0) where
  -- the first of what is left, and the others
  pub first_of : (left rest : List X) (x : X) → Each P left → left ≡ x ∷ rest → P x
  first_of left rest x each first = each zero x (ap (λ (l : List X). slice_get l zero) first)

  pub others_of : (left rest : List X) (x : X) → Each P left → left ≡ x ∷ rest → Each P rest
  others_of left rest x each first i y at = each (suc i) y (ap (λ (l : List X). slice_get l (suc i)) first ∙ at)

module _ {X Y : Type 0} (f : X → Y) where
  -- one thing more is made
  pub mapped-next : (done : List Y) (left rest : List X) (whole : List Y) (x : X) (y : Y) → y ≡ f x → done ++ map f left ≡ whole → left ≡ x ∷ rest → (done ++ y ∷ []) ++ map f rest ≡ whole
  mapped-next done left rest whole x y made all first =
      append_assoc done (y ∷ []) (map f rest) ∙ (ap (λ (z : Y). done ++ z ∷ map f rest) made ∙ (ap (λ (l : List X). done ++ map f l) (sym first) ∙ all))

-- a function of the second parts
pub map-pairs : {A X Y : Type 0} (f : X → Y) (es : List (A × X)) → map (λ (e : A × X). f e.1) es ≡ map f (map (λ (e : A × X). e.1) es)
map-pairs f [] = refl
map-pairs {A} {X} f (e ∷ es) = ap (λ l. f e.1 ∷ l) (map-pairs {A = A} f es)

module _ {X : Type 0} (P : X → Type 0) where
  Each-seconds : (es : List (ℕ × X)) → Each (λ (e : ℕ × X). P e.1) es → Each P (map (λ (e : ℕ × X). e.1) es)
  Each-seconds [] each i x at = cc
  Each-seconds (e ∷ es) each zero x at = let same : e.1 ≡ x = cc in subst P same (each zero e refl)
  Each-seconds (e ∷ es) each (suc i) x at = Each-seconds es (λ j. each (suc j)) i x at

  -- and of what is taken
  pub Each-selected : (kept : ℕ → Bool) (xs : List X) → Each P xs → Each P (selected kept xs)
  Each-selected kept xs each = Each-seconds (filter (λ e. kept e.0) (enumerate_from 0 xs)) (Each-filter (λ (e : ℕ × X). P e.1) (λ e. kept e.0) (enumerate_from 0 xs) (Each-enumerated P 0 xs each))
