-- What is read of each of some tokens, one after another.
use Rattle.std.proofs.Common.{◌≡◌, ℕ, suc, zero, ◌+◌, ◌<◌, length, List, [], ◌∷◌, ◌++◌, Bor, take, map, get_or, Option, Some, None, refl, ap, ◌∙◌, arith}
use Rattle.std.proofs.lemmas.Grind.{take_at_read}
use Rattle.std.proofs.lemmas.List.{map-append}
use Rattle.std.specs.Option.{option_and_then, option_map}
use Rattle.wit_script_lines.specs.PackageLine.{each_of}
use Rattle.wit_script_lines.specs.facts.OptionFacts.{map-of, step-of}

nothing : {A B : Type 0} (o : Option A) → option_and_then (λ (y : A). let none : Option B = None in none) o ≡ None
nothing None = refl
nothing (Some y) = refl

empty : {B : Type 0} (ys : List B) → Some [] ≡ Some ys → ys ≡ []
empty [] h = refl
empty (y ∷ ys) h = cc

-- one more
each-append : {A B : Type 0} (read : A → Option B) (xs : List A) (x : A) (ys : List B) (y : B) → each_of read xs ≡ Some ys → read x ≡ Some y
    → each_of read (xs ++ x ∷ []) ≡ Some (ys ++ y ∷ [])
each-append {A} {B} read [] x ys y had next = rw (next, empty ys had) refl
each-append {A} {B} read (z ∷ zs) x ys y had next =
    let first = step-of (λ (w : B). option_map (λ (ws : List B). w ∷ ws) (each_of read zs)) (read z) ys had in
    let rest = map-of (λ (ws : List B). first.0 ∷ ws) (each_of read zs) ys first.2 in
    ap (option_and_then (λ (w : B). option_map (λ (ws : List B). w ∷ ws) (each_of read (zs ++ x ∷ [])))) first.1
    ∙ ap (option_map (λ (ws : List B). first.0 ∷ ws)) (each-append read zs x rest.0 y rest.1 next)
    ∙ ap (λ (l : List B). Some (l ++ y ∷ [])) rest.2

module _ {B : Type 0} (read : List ℕ → Option B) (xs : List (Bor (List ℕ))) (d : Bor (List ℕ)) where
  -- the same of tokens at an index
  pub each-next : (i : ℕ) (ys : List B) (y : B) → i < length xs → each_of read (map (λ (x : Bor (List ℕ)). x.now) (take i xs)) ≡ Some ys → read (get_or xs i d).now ≡ Some y
      → each_of read (map (λ (x : Bor (List ℕ)). x.now) (take (i + 1) xs)) ≡ Some (ys ++ y ∷ [])
  each-next i ys y within had next =
      rw ((take_at_read xs i d within).1, map-append (λ (x : Bor (List ℕ)). x.now) (take i xs) (get_or xs i d ∷ []))
      (each-append read (map (λ (x : Bor (List ℕ)). x.now) (take i xs)) (get_or xs i d).now ys y had next)

-- one that isn't read
pub each-fails : {B : Type 0} (read : List ℕ → Option B) (xs : List (Bor (List ℕ))) (d : Bor (List ℕ)) (i : ℕ) → i < length xs → read (get_or xs i d).now ≡ None
    → each_of read (map (λ (x : Bor (List ℕ)). x.now) xs) ≡ None
each-fails read [] d i within fails = absurd (omega arith)
each-fails read (z ∷ zs) d zero within fails = rw fails refl
each-fails read (z ∷ zs) d (suc i) within fails = rw (each-fails read zs d i (omega arith) fails) (nothing (read z.now))
