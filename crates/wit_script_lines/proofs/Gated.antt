-- The arguments of a line before its last.
use Rattle.std.proofs.Common.{◌≡◌, ℕ, ◌+◌, ◌-◌, List, [], ◌∷◌, ◌++◌, Bor, Some, true, false, length, take, map, slice_get, refl, sym, ap, ◌∙◌, length-append, arith}
use Rattle.std.proofs.lemmas.List.{map-append}
use Rattle.wit_script_lines.specs.PackageLine.{is_gate, ungated_of}

last_at : {X : Type 0} (xs : List X) (x : X) → slice_get (xs ++ x ∷ []) (length xs) ≡ Some x
last_at [] x = refl
last_at (y ∷ ys) x = last_at ys x

front_of : {X : Type 0} (xs : List X) (x : X) → take (length xs) (xs ++ x ∷ []) ≡ xs
front_of [] x = refl
front_of (y ∷ ys) x = ap (λ l. y ∷ l) (front_of ys x)

before_last : {X : Type 0} (xs : List X) (x : X) → length (xs ++ x ∷ []) - 1 ≡ length xs
before_last xs x = let long : length (xs ++ x ∷ []) ≡ length xs + 1 = length-append xs (x ∷ []) in omega arith

-- a line with a gate, and one without
gated : (xs : List (List ℕ)) (x : List ℕ) → is_gate x ≡ true → ungated_of (xs ++ x ∷ []) ≡ xs
gated xs x is_one = rw (before_last xs x, last_at xs x, is_one) (front_of xs x)

plain : (xs : List (List ℕ)) (x : List ℕ) → is_gate x ≡ false → ungated_of (xs ++ x ∷ []) ≡ xs ++ x ∷ []
plain xs x is_none = rw (before_last xs x, last_at xs x, is_none) refl

module _ (xs before : List (Bor (List ℕ))) (last : Bor (List ℕ)) where
  texts : xs ≡ before ++ last ∷ [] → map (λ (t : Bor (List ℕ)). t.now) xs ≡ map (λ (t : Bor (List ℕ)). t.now) before ++ last.now ∷ []
  texts whole = ap (map (λ (t : Bor (List ℕ)). t.now)) whole ∙ map-append (λ (t : Bor (List ℕ)). t.now) before (last ∷ [])

  pub gated-line : xs ≡ before ++ last ∷ [] → is_gate last.now ≡ true → map (λ (t : Bor (List ℕ)). t.now) before ≡ ungated_of (map (λ (t : Bor (List ℕ)). t.now) xs)
  gated-line whole is_one = sym (ap ungated_of (texts whole) ∙ gated (map (λ (t : Bor (List ℕ)). t.now) before) last.now is_one)

  pub plain-line : xs ≡ before ++ last ∷ [] → is_gate last.now ≡ false → map (λ (t : Bor (List ℕ)). t.now) xs ≡ ungated_of (map (λ (t : Bor (List ℕ)). t.now) xs)
  plain-line whole is_none = texts whole ∙ sym (ap ungated_of (texts whole) ∙ plain (map (λ (t : Bor (List ℕ)). t.now) before) last.now is_none)
