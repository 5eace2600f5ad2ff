-- Tables and lists of what is said of the first of each.
use Rattle.std.proofs.Common.{◌≡◌, ◌+◌, one-add, Bool, true, false, cond, not, List, [], ◌∷◌, ◌++◌, map, find, slice_get, slice_set, None, Some, refl, ap, ◌∙◌}
use Rattle.std.specs.List.{AllByRecursion, position_or_len}
use Rattle.std.specs.Map.{lookup}
use Rattle.std.specs.Option.{option_map}
use Rattle.wit_script_package.specs.steps.Mentioning.{with_value}
use Rattle.wit_script_package.proofs.Firsts.{AreApart, find-same}

-- what stands at the place of one that is there
pub item-at : {X V : Type 0} (p : X → Bool) (v : X → V) (xs : List X) → slice_get (map v xs) (position_or_len p xs) ≡ option_map v (find p xs)
item-at p v [] = refl
item-at {X} {V} p v (x ∷ xs) = by (p x) (item-at p v xs) where
  by : (b : Bool) → slice_get (map v xs) (position_or_len p xs) ≡ option_map v (find p xs)
      → slice_get (map v (x ∷ xs)) (cond (not b) (1 + position_or_len p xs) 0) ≡ option_map v (cond b (Some x) (find p xs))
  by true rest = refl
  by false rest = rw (one-add (position_or_len p xs)) rest

module _ {X : Type 0} (same : X → X → Bool) (through : (a b c : X) → same a b ≡ true → same a c ≡ same b c) where
  -- none of the others is the same as one that is found
  alone : (x : X) (p : X) (ps : List X) → same x p ≡ true → find (same p) ps ≡ None → find (same x) ps ≡ None
  alone x p ps is none = find-same (same x) (same p) (λ z. through x p z is) ps ∙ none

  module _ {K V : Type 0} (test : K → Bool) (x : X) (key : X → K) (v : X → V) where
    -- the test of keys tells what is the same
    abbrev pub Tells : X → Type 0
    Tells p = test (key p) ≡ same x p

    -- what is found in the table
    pub lookup-rows : (ps : List X) → AllByRecursion Tells ps → lookup test (map (λ p. (key p, v p)) ps) ≡ option_map v (find (same x) ps)
    lookup-rows [] all = refl
    lookup-rows (p ∷ ps) all = rw (all.0, lookup-rows ps all.1) (by (same x p)) where
      by : (b : Bool) → cond b (Some (v p)) (option_map v (find (same x) ps)) ≡ option_map v (cond b (Some p) (find (same x) ps))
      by true = refl
      by false = refl

    module _ (k : K) (first : V) (change : V → V) where
      -- a key that isn't there comes last
      pub value-last : (ps : List X) → AllByRecursion Tells ps → find (same x) ps ≡ None
          → with_value test k first change (map (λ p. (key p, v p)) ps) ≡ map (λ p. (key p, v p)) ps ++ (k, change first) ∷ []
      value-last [] all none = refl
      value-last (p ∷ ps) all none = rw all.0 (by (same x p) none (λ n. value-last ps all.1 n)) where
        by : (b : Bool) → cond b (Some p) (find (same x) ps) ≡ None
            → (find (same x) ps ≡ None → with_value test k first change (map (λ p. (key p, v p)) ps) ≡ map (λ p. (key p, v p)) ps ++ (k, change first) ∷ [])
            → cond b ((key p, change (v p)) ∷ map (λ q. (key q, v q)) ps) ((key p, v p) ∷ with_value test k first change (map (λ q. (key q, v q)) ps))
            ≡ (key p, v p) ∷ (map (λ q. (key q, v q)) ps ++ (k, change first) ∷ [])
        by true none rest = cc
        by false none rest = ap (λ (l : List (K × V)). (key p, v p) ∷ l) (rest none)

    module _ (w : X → V) (k : K) (first : V) (change : V → V) where
      -- what is the same is changed, and nothing else
      pub record Transforms (p : X) : Type 0 where
        pub told : test (key p) ≡ same x p
        pub other : same x p ≡ false → w p ≡ v p
        pub changed : same x p ≡ true → w p ≡ change (v p)

      -- nothing is changed
      pub rows-same : (ps : List X) → AllByRecursion Transforms ps → find (same x) ps ≡ None → map {B = K × V} (λ p. (key p, w p)) ps ≡ map {B = K × V} (λ p. (key p, v p)) ps
      rows-same [] all none = refl
      rows-same (p ∷ ps) all none = by (same x p) refl none (λ n. rows-same ps all.1 n) where
        by : (b : Bool) → same x p ≡ b → cond b (Some p) (find (same x) ps) ≡ None → (find (same x) ps ≡ None → map {B = K × V} (λ q. (key q, w q)) ps ≡ map {B = K × V} (λ q. (key q, v q)) ps)
            → map {B = K × V} (λ q. (key q, w q)) (p ∷ ps) ≡ map {B = K × V} (λ q. (key q, v q)) (p ∷ ps)
        by true is none rest = cc
        by false is none rest = rw (all.0.other is, rest none) refl

      -- the value of one key is changed
      pub value-changed : (ps : List X) (y : X) → AllByRecursion Transforms ps → AreApart same ps → find (same x) ps ≡ Some y
          → with_value test k first change (map {B = K × V} (λ p. (key p, v p)) ps) ≡ map {B = K × V} (λ p. (key p, w p)) ps
      value-changed [] y all apart found = cc
      value-changed (p ∷ ps) y all apart found = rw all.0.told (by (same x p) refl found (λ f. value-changed ps y all.1 apart.1 f)) where
        by : (b : Bool) → same x p ≡ b → cond b (Some p) (find (same x) ps) ≡ Some y
            → (find (same x) ps ≡ Some y → with_value test k first change (map {B = K × V} (λ p. (key p, v p)) ps) ≡ map {B = K × V} (λ p. (key p, w p)) ps)
            → cond b ((key p, change (v p)) ∷ map {B = K × V} (λ q. (key q, v q)) ps) ((key p, v p) ∷ with_value test k first change (map {B = K × V} (λ q. (key q, v q)) ps))
            ≡ map {B = K × V} (λ q. (key q, w q)) (p ∷ ps)
        by true is found rest = rw (all.0.changed is, rows-same ps all.1 (alone x p ps is apart.0)) refl
        by false is found rest = rw (all.0.other is) (ap (λ (l : List (K × V)). (key p, v p) ∷ l) (rest found))

  module _ {V : Type 0} (x : X) (v w : X → V) (stays : (p : X) → same x p ≡ false → w p ≡ v p) where
    -- nothing is changed but what is the same
    items-same : (ps : List X) → find (same x) ps ≡ None → map w ps ≡ map v ps
    items-same [] none = refl
    items-same (p ∷ ps) none = by (same x p) refl none (λ n. items-same ps n) where
      by : (b : Bool) → same x p ≡ b → cond b (Some p) (find (same x) ps) ≡ None → (find (same x) ps ≡ None → map w ps ≡ map v ps) → map w (p ∷ ps) ≡ map v (p ∷ ps)
      by true is none rest = cc
      by false is none rest = rw (stays p is, rest none) refl

    -- one place of the list is changed
    pub item-changed : (ps : List X) (y : X) → AreApart same ps → find (same x) ps ≡ Some y
        → map w ps ≡ slice_set (map v ps) (position_or_len (same x) ps) (w y)
    item-changed [] y apart found = cc
    item-changed (p ∷ ps) y apart found = by (same x p) refl found (λ f. item-changed ps y apart.1 f) where
      by : (b : Bool) → same x p ≡ b → cond b (Some p) (find (same x) ps) ≡ Some y
          → (find (same x) ps ≡ Some y → map w ps ≡ slice_set (map v ps) (position_or_len (same x) ps) (w y))
          → map w (p ∷ ps) ≡ slice_set (map v (p ∷ ps)) (cond (not b) (1 + position_or_len (same x) ps) 0) (w y)
      by true is found rest = let here : p ≡ y = cc in rw (items-same ps (alone x p ps is apart.0)) (ap (λ (z : X). w z ∷ map v ps) here)
      by false is found rest = rw (stays p is, one-add (position_or_len (same x) ps)) (ap (λ (l : List V). v p ∷ l) (rest found))
