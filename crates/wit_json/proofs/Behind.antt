-- What is left of a list behind one item more.
use Rattle.std.proofs.Common.{◌≡◌, ◌∙◌, ◌+◌, ℕ, zero, suc, List, [], ◌∷◌, Option, None, Some, drop, refl, sym, ap, arith}
use Rattle.std.specs.Prelude.{MatchOption}

abbrev behind_first : {X : Type 0} → List X → List X
behind_first [] = []
behind_first (x ∷ xs) = xs

first_dropped : {X : Type 0} (k : ℕ) (xs : List X) → behind_first (drop k xs) ≡ drop (suc k) xs
first_dropped zero [] = refl
first_dropped zero (x ∷ xs) = refl
first_dropped (suc k) [] = refl
first_dropped (suc k) (x ∷ xs) = first_dropped k xs

-- an iterator is moved on
pub one_less : {A X : Type 0} (view : A → X) (k : ℕ) (all old new : List X) (r : Option A) → MatchOption r ((old ≡ []) × (new ≡ [])) (λ (x : A). old ≡ view x ∷ new)
    → old ≡ drop k all → new ≡ drop (k + 1) all
one_less {X = X} view k all old new None yields so_far =
    let next : suc k ≡ k + 1 = omega arith in
    yields.1 ∙ ap (λ (l : List X). behind_first l) (sym yields.0) ∙ ap (λ (l : List X). behind_first l) so_far ∙ first_dropped k all ∙ ap (λ (n : ℕ). drop n all) next
one_less {X = X} view k all old new (Some x) yields so_far =
    let next : suc k ≡ k + 1 = omega arith in
    ap (λ (l : List X). behind_first l) (sym yields) ∙ ap (λ (l : List X). behind_first l) so_far ∙ first_dropped k all ∙ ap (λ (n : ℕ). drop n all) next
