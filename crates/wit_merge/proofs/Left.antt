-- Loops that gather: what has been gathered, and what is left to gather, one thing after another.
use Rattle.std.proofs.Common.{◌≡◌, ◌∙◌, ℕ, Bool, true, false, List, [], ◌∷◌, ◌++◌, cond, filter, map, refl, sym, ap, append_assoc, if◌then◌else◌}
use Rattle.std.specs.List.{flat_map}

-- what is gathered of a list: of its first thing, then of the others
module _ {X Y : Type 0} (all : List X → List Y) (one : X → List Y) (first : (x : X) (xs : List X) → all (x ∷ xs) ≡ one x ++ all xs) where
  -- one more
  pub left-more : (now next whole : List Y) (left : List X) (x : X) (others : List X) → left ≡ x ∷ others → now ++ all left ≡ whole → next ≡ now ++ one x → next ++ all others ≡ whole
  left-more now next whole left x others is so_far more =
      ap (λ (l : List Y). l ++ all others) more ∙ (append_assoc now (one x) (all others) ∙ (ap (λ (l : List Y). now ++ l) (sym (first x others)) ∙ (ap (λ (l : List X). now ++ all l) (sym is) ∙ so_far)))

-- what is gathered of those that pass a test
module _ {X Y : Type 0} (p : X → Bool) (f : X → List Y) where
  abbrev pub of_kept : X → List Y
  of_kept x = if p x then f x else []

  pub kept-first : (x : X) (xs : List X) → flat_map f (filter p (x ∷ xs)) ≡ of_kept x ++ flat_map f (filter p xs)
  kept-first x xs = by (p x)
    where
      by : (b : Bool) → flat_map f (cond b (x ∷ filter p xs) (filter p xs)) ≡ (if b then f x else []) ++ flat_map f (filter p xs)
      by true = refl
      by false = refl

-- the same where each has come with its place
module _ {X Y : Type 0} (p : ℕ × X → Bool) (f : X → List Y) where
  abbrev pub of_selected : ℕ × X → List Y
  of_selected e = if p e then f e.1 else []

  pub selected-first : (e : ℕ × X) (es : List (ℕ × X)) → flat_map f (map (λ (e : ℕ × X). e.1) (filter p (e ∷ es))) ≡ of_selected e ++ flat_map f (map (λ (e : ℕ × X). e.1) (filter p es))
  selected-first e es = by (p e)
    where
      by : (b : Bool) → flat_map f (map (λ (e : ℕ × X). e.1) (cond b (e ∷ filter p es) (filter p es))) ≡ (if b then f e.1 else []) ++ flat_map f (map (λ (e : ℕ × X). e.1) (filter p es))
      by true = refl
      by false = refl
