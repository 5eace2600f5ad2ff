-- A list that is cut at the first element that passes a test.
use Rattle.std.proofs.Common.{◌≡◌, ℕ, List, [], ◌∷◌, ◌++◌, length, Bool, true, false, refl, ap, ◌∙◌, inl, inr, one-add, suc-add, arith}
use Rattle.std.proofs.lemmas.Bool.{cases_Bool, or_parts, eqb-true}
use Rattle.std.proofs.lemmas.Grind.{common_steps}
use Rattle.std.specs.Prelude.{◌==◌}
use Rattle.std.specs.List.{list_any, position_or_len, before_first, after_first}

before_first-yes : {X : Type 0} (p : X → Bool) (x : X) (xs : List X) → p x ≡ true → before_first p (x ∷ xs) ≡ []
before_first-yes p x xs passes = rw passes refl

after_first-yes : {X : Type 0} (p : X → Bool) (x : X) (xs : List X) → p x ≡ true → after_first p (x ∷ xs) ≡ xs
after_first-yes p x xs passes = rw passes refl

before_first-no : {X : Type 0} (p : X → Bool) (x : X) (xs : List X) → p x ≡ false → before_first p (x ∷ xs) ≡ x ∷ before_first p xs
before_first-no p x xs fails = rw (fails, one-add) refl

after_first-no : {X : Type 0} (p : X → Bool) (x : X) (xs : List X) → p x ≡ false → after_first p (x ∷ xs) ≡ after_first p xs
after_first-no p x xs fails = rw (fails, one-add, suc-add) refl

-- what no element passes is all before the cut
pub before_first-none : {X : Type 0} (p : X → Bool) (xs : List X) → list_any p xs ≡ false → before_first p xs ≡ xs
before_first-none p [] none = refl
before_first-none p (x ∷ xs) none =
    let parts = or_parts (p x) (list_any p xs) none in
    before_first-no p x xs parts.0 ∙ ap (λ rest. x ∷ rest) (before_first-none p xs parts.1)

pub after_first-none : {X : Type 0} (p : X → Bool) (xs : List X) → list_any p xs ≡ false → after_first p xs ≡ []
after_first-none p [] none = refl
after_first-none p (x ∷ xs) none =
    let parts = or_parts (p x) (list_any p xs) none in
    after_first-no p x xs parts.0 ∙ after_first-none p xs parts.1

-- the cut stands at the first element that passes
pub before_first-at : {X : Type 0} (p : X → Bool) (xs : List X) (y : X) (ys : List X) → list_any p xs ≡ false → p y ≡ true → before_first p (xs ++ y ∷ ys) ≡ xs
before_first-at p [] y ys none passes = before_first-yes p y ys passes
before_first-at p (x ∷ xs) y ys none passes =
    let parts = or_parts (p x) (list_any p xs) none in
    before_first-no p x (xs ++ y ∷ ys) parts.0 ∙ ap (λ rest. x ∷ rest) (before_first-at p xs y ys parts.1 passes)

pub after_first-at : {X : Type 0} (p : X → Bool) (xs : List X) (y : X) (ys : List X) → list_any p xs ≡ false → p y ≡ true → after_first p (xs ++ y ∷ ys) ≡ ys
after_first-at p [] y ys none passes = after_first-yes p y ys passes
after_first-at p (x ∷ xs) y ys none passes =
    let parts = or_parts (p x) (list_any p xs) none in
    after_first-no p x (xs ++ y ∷ ys) parts.0 ∙ after_first-at p xs y ys parts.1 passes

-- a text that has a byte is what stands before it, the byte, and what stands after it
pub cut-whole : (c : ℕ) (text : List ℕ) → list_any (λ b. b == c) text ≡ true → text ≡ before_first (λ b. b == c) text ++ (c ∷ after_first (λ b. b == c) text)
cut-whole c [] some = cc some
cut-whole c (x ∷ rest) some = elim (cases_Bool (x == c)) [
  | inl passes ↦ rw (before_first-yes (λ b. b == c) x rest passes, after_first-yes (λ b. b == c) x rest passes) (ap (λ b. b ∷ rest) (eqb-true x c passes))
  | inr fails ↦
      rw (before_first-no (λ b. b == c) x rest fails, after_first-no (λ b. b == c) x rest fails)
      (ap (λ others. x ∷ others) (cut-whole c rest (rw fails at some)))
]

-- where no element that passes stands before the end, none passes
pub list_any-none : {X : Type 0} (p : X → Bool) (xs : List X) → position_or_len p xs ≡ length xs → list_any p xs ≡ false
list_any-none p [] none = refl
list_any-none p (x ∷ xs) none = grind (arith, common_steps, list_any-none p xs)
