-- What a test keeps that is asked of one thing after another, and answers by their places.
use Rattle.std.proofs.Common.{◌≡◌, ◌∙◌, ℕ, zero, suc, ◌+◌, Bool, true, false, cond, List, [], ◌∷◌, length, map, filter, drop, slice_get, refl, ap, arith}
use Rattle.std.specs.List.{items_where_true}
use Rattle.std.specs.List.Retain.{IsFiltered, ReturnsInTurn}
use Rattle.std.specs.List.{enumerate_from}

module _ {X P : Type 0} (R : P → X → Bool → P → Type 0) (kept : ℕ → Bool) (Here : ℕ → P → Type 0)
    (says : (i : ℕ) (p : P) (x : X) (b : Bool) (q : P) → Here i p → R p x b q → (b ≡ kept i) × Here (i + 1) q) where
  first-kept : (x : X) (xs ys : List X) (bs : List Bool) (b t : Bool) → b ≡ t → items_where_true bs xs ≡ ys → items_where_true (b ∷ bs) (x ∷ xs) ≡ cond t (x ∷ ys) ys
  first-kept x xs ys bs true t e rest = ap (λ l. x ∷ l) rest ∙ ap (λ a. cond a (x ∷ ys) ys) e
  first-kept x xs ys bs false t e rest = rest ∙ ap (λ a. cond a (x ∷ ys) ys) e

  kept-next : (i : ℕ) (x : X) (es : List (ℕ × X)) (b : Bool) → cond b (x ∷ map (λ (e : ℕ × X). e.1) es) (map (λ (e : ℕ × X). e.1) es) ≡ map (λ (e : ℕ × X). e.1) (cond b ((i, x) ∷ es) es)
  kept-next i x es true = refl
  kept-next i x es false = refl

  told : (i : ℕ) (p q : P) (bs : List Bool) (xs : List X) → Here i p → length bs ≡ length xs → ReturnsInTurn R p bs xs q
      → items_where_true bs xs ≡ map (λ (e : ℕ × X). e.1) (filter (λ e. kept e.0) (enumerate_from i xs))
  told i p q [] [] here e ran = refl
  told i p q [] (x ∷ xs) here e ran = absurd (omega arith)
  told i p q (b ∷ bs) [] here e ran = absurd ran
  told i p q (b ∷ bs) (x ∷ xs) here e ran =
      let one = says i p x b ran.0 here ran.1 in
      let rest = filter (λ e. kept e.0) (enumerate_from (i + 1) xs) in
      first-kept x xs (map (λ (e : ℕ × X). e.1) rest) bs b (kept i) one.0 (told (i + 1) ran.0 q bs xs one.1 (omega arith) ran.2)
      ∙ kept-next i x rest (kept i)

  -- what is kept is what stands at the places that the test keeps
  pub kept_by_place : (p : P) (xs ys : List X) → Here 0 p → IsFiltered R p xs ys → ys ≡ map (λ (e : ℕ × X). e.1) (filter (λ e. kept e.0) (enumerate_from 0 xs))
  kept_by_place p xs ys here is = is.4 ∙ told 0 p is.1 is.0 xs here is.2 is.3

-- what is left from a place on begins with what stands there
pub at_place : {X : Type 0} (i : ℕ) (xs : List X) → slice_get (drop i xs) 0 ≡ slice_get xs i
at_place zero xs = refl
at_place (suc i) [] = refl
at_place (suc i) (x ∷ xs) = at_place i xs

pub after : {X : Type 0} (i : ℕ) (xs : List X) → drop 1 (drop i xs) ≡ drop (suc i) xs
after zero xs = refl
after (suc i) [] = refl
after (suc i) (x ∷ xs) = after i xs
