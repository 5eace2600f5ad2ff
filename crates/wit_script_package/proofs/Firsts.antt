-- The first of each of some things.
use Rattle.std.proofs.Common.{◌≡◌, ℕ, suc, ◌+◌, one-add, Bool, true, false, cond, not, List, [], ◌∷◌, ◌++◌, length, map, filter, find, Option, None, Some, is_some, refl, sym, ap, ◌∙◌, true≢false, append_assoc, append-nil}
use Rattle.std.proofs.lemmas.List.Elements.{filter-append}
use Rattle.std.specs.List.{AllByRecursion, position_or_len}
use Rattle.wit_script_package.specs.Mention.{firsts}

-- ---- lists

module _ {X : Type 0} (p q : X → Bool) where
  -- what is found is found among what is kept
  pub find-filter : ((x : X) → p x ≡ true → q x ≡ true) → (xs : List X) → find p (filter q xs) ≡ find p xs
  find-filter keeps [] = refl
  find-filter keeps (x ∷ xs) = by (q x) (p x) refl refl (find-filter keeps xs) where
    by : (b c : Bool) → q x ≡ b → p x ≡ c → find p (filter q xs) ≡ find p xs → find p (cond b (x ∷ filter q xs) (filter q xs)) ≡ cond c (Some x) (find p xs)
    by true true kept passes rest = rw passes refl
    by true false kept passes rest = rw passes rest
    by false true kept passes rest = absurd (true≢false (sym (keeps x passes) ∙ kept))
    by false false kept passes rest = rest

  -- what is found first and kept is found first among what is kept
  pub find-kept : (xs : List X) (y : X) → find p xs ≡ Some y → q y ≡ true → find p (filter q xs) ≡ Some y
  find-kept [] y found kept = cc
  find-kept (x ∷ xs) y found kept = by (p x) (q x) refl refl found (λ f. find-kept xs y f kept) where
    by : (c b : Bool) → p x ≡ c → q x ≡ b → cond c (Some x) (find p xs) ≡ Some y → (find p xs ≡ Some y → find p (filter q xs) ≡ Some y) → find p (cond b (x ∷ filter q xs) (filter q xs)) ≡ Some y
    by true true passes keeps found rest = rw passes found
    by true false passes keeps found rest = let same : x ≡ y = cc in absurd (true≢false (sym kept ∙ ap q (sym same) ∙ keeps))
    by false true passes keeps found rest = rw passes (rest found)
    by false false passes keeps found rest = rest found

  -- two tests that agree find the same
  pub find-same : ((x : X) → p x ≡ q x) → (xs : List X) → find p xs ≡ find q xs
  find-same agree [] = refl
  find-same agree (x ∷ xs) = rw (agree x, find-same agree xs) refl

  pub position-same : ((x : X) → p x ≡ q x) → (xs : List X) → position_or_len p xs ≡ position_or_len q xs
  position-same agree [] = refl
  position-same agree (x ∷ xs) = rw (agree x, position-same agree xs) refl

module _ {X : Type 0} (p : X → Bool) where
  -- nothing passes that isn't kept
  pub none-filter : (q : X → Bool) (xs : List X) → find p xs ≡ None → find p (filter q xs) ≡ None
  none-filter q [] none = refl
  none-filter q (x ∷ xs) none = by (p x) (q x) refl refl none (λ n. none-filter q xs n) where
    by : (c b : Bool) → p x ≡ c → q x ≡ b → cond c (Some x) (find p xs) ≡ None → (find p xs ≡ None → find p (filter q xs) ≡ None) → find p (cond b (x ∷ filter q xs) (filter q xs)) ≡ None
    by true b passes kept none rest = cc
    by false true passes kept none rest = rw passes (rest none)
    by false false passes kept none rest = rest none

  -- nothing passes among the firsts
  pub none-first : (same : X → X → Bool) (xs : List X) → find p xs ≡ None → find p (firsts same xs) ≡ None
  none-first same [] none = refl
  none-first same (x ∷ xs) none = by (p x) refl none (λ n. none-first same xs n) where
    by : (c : Bool) → p x ≡ c → cond c (Some x) (find p xs) ≡ None → (find p xs ≡ None → find p (firsts same xs) ≡ None)
        → cond c (Some x) (find p (filter (λ y. not (same x y)) (firsts same xs))) ≡ None
    by true passes none rest = cc
    by false passes none rest = none-filter (λ y. not (same x y)) (firsts same xs) (rest none)

  -- where nothing passes, nothing is kept
  pub filter-none : (xs : List X) → find p xs ≡ None → filter p xs ≡ []
  filter-none [] none = refl
  filter-none (x ∷ xs) none = by (p x) none (λ n. filter-none xs n) where
    by : (c : Bool) → cond c (Some x) (find p xs) ≡ None → (find p xs ≡ None → filter p xs ≡ []) → cond c (x ∷ filter p xs) (filter p xs) ≡ []
    by true none rest = cc
    by false none rest = rest none

  -- the place of what is found among some, with more behind them
  pub position-left : (xs ys : List X) (x : X) → find p xs ≡ Some x → position_or_len p (xs ++ ys) ≡ position_or_len p xs
  position-left [] ys x found = cc
  position-left (y ∷ xs) ys x found = by (p y) found (λ f. position-left xs ys x f) where
    by : (c : Bool) → cond c (Some y) (find p xs) ≡ Some x → (find p xs ≡ Some x → position_or_len p (xs ++ ys) ≡ position_or_len p xs)
        → cond (not c) (1 + position_or_len p (xs ++ ys)) 0 ≡ cond (not c) (1 + position_or_len p xs) 0
    by true found rest = refl
    by false found rest = ap (λ (n : ℕ). 1 + n) (rest found)

  -- the place of what stands behind some that don't pass
  pub position-next : (xs ys : List X) (x : X) → find p xs ≡ None → p x ≡ true → position_or_len p (xs ++ x ∷ ys) ≡ length xs
  position-next [] ys x none passes = rw passes refl
  position-next (y ∷ xs) ys x none passes = by (p y) none (λ n. position-next xs ys x n passes) where
    by : (c : Bool) → cond c (Some y) (find p xs) ≡ None → (find p xs ≡ None → position_or_len p (xs ++ x ∷ ys) ≡ length xs)
        → cond (not c) (1 + position_or_len p (xs ++ x ∷ ys)) 0 ≡ suc (length xs)
    by true none rest = cc
    by false none rest = ap (λ (n : ℕ). 1 + n) (rest none) ∙ one-add (length xs)

  -- what passes among some is found, with one that passes behind them
  pub find-last : (xs : List X) (x : X) → p x ≡ true → (y : X) × (find p (xs ++ x ∷ []) ≡ Some y)
  find-last [] x passes = (x, rw passes refl)
  find-last (y ∷ xs) x passes = by (p y) (find-last xs x passes) where
    by : (c : Bool) → (z : X) × (find p (xs ++ x ∷ []) ≡ Some z) → (z : X) × (cond c (Some y) (find p (xs ++ x ∷ [])) ≡ Some z)
    by true rest = (y, refl)
    by false rest = rest

  -- what is found passes
  pub found-passes : (xs : List X) (x : X) → find p xs ≡ Some x → p x ≡ true
  found-passes [] x found = cc
  found-passes (y ∷ xs) x found = by (p y) refl found (λ f. found-passes xs x f) where
    by : (c : Bool) → p y ≡ c → cond c (Some y) (find p xs) ≡ Some x → (find p xs ≡ Some x → p x ≡ true) → p x ≡ true
    by true passes found rest = let same : y ≡ x = cc in ap p (sym same) ∙ passes
    by false passes found rest = rest found

-- ---- what holds of each

module _ {X : Type 0} (P : X → Type 0) where
  pub each : ((x : X) → P x) → (xs : List X) → AllByRecursion P xs
  each holds [] = tt
  each holds (x ∷ xs) = (holds x, each holds xs)

  pub each-kept : (q : X → Bool) → ((x : X) → q x ≡ true → P x) → (xs : List X) → AllByRecursion P (filter q xs)
  each-kept q holds [] = tt
  each-kept q holds (x ∷ xs) = by (q x) refl (each-kept q holds xs) where
    by : (b : Bool) → q x ≡ b → AllByRecursion P (filter q xs) → AllByRecursion P (cond b (x ∷ filter q xs) (filter q xs))
    by true kept rest = (holds x kept, rest)
    by false kept rest = rest

  pub each-filter : (q : X → Bool) (xs : List X) → AllByRecursion P xs → AllByRecursion P (filter q xs)
  each-filter q [] all = tt
  each-filter q (x ∷ xs) all = by (q x) (each-filter q xs all.1) where
    by : (b : Bool) → AllByRecursion P (filter q xs) → AllByRecursion P (cond b (x ∷ filter q xs) (filter q xs))
    by true rest = (all.0, rest)
    by false rest = rest

  pub each-first : (same : X → X → Bool) (xs : List X) → AllByRecursion P xs → AllByRecursion P (firsts same xs)
  each-first same [] all = tt
  each-first same (x ∷ xs) all = (all.0, each-filter (λ y. not (same x y)) (firsts same xs) (each-first same xs all.1))

-- what two functions make that agree on each
pub map-each : {X Y : Type 0} (f g : X → Y) (xs : List X) → AllByRecursion (λ x. f x ≡ g x) xs → map f xs ≡ map g xs
map-each f g [] all = refl
map-each f g (x ∷ xs) all = rw (all.0, map-each f g xs all.1) refl

-- ---- the first of each

-- none is the same as one after it
abbrev pub AreApart : {X : Type 0} → (X → X → Bool) → List X → Type 0
AreApart same [] = Unit {0}
AreApart same (x ∷ xs) = (find (same x) xs ≡ None) × AreApart same xs

module _ {X : Type 0} (same : X → X → Bool) where
  apart-filter : (q : X → Bool) (xs : List X) → AreApart same xs → AreApart same (filter q xs)
  apart-filter q [] apart = tt
  apart-filter q (x ∷ xs) apart = by (q x) (apart-filter q xs apart.1) where
    by : (b : Bool) → AreApart same (filter q xs) → AreApart same (cond b (x ∷ filter q xs) (filter q xs))
    by true rest = (none-filter (same x) q xs apart.0, rest)
    by false rest = rest

  none-apart : (x : X) (xs : List X) → find (same x) (filter (λ y. not (same x y)) xs) ≡ None
  none-apart x [] = refl
  none-apart x (y ∷ xs) = by (same x y) refl (none-apart x xs) where
    by : (b : Bool) → same x y ≡ b → find (same x) (filter (λ z. not (same x z)) xs) ≡ None
        → find (same x) (cond (not b) (y ∷ filter (λ z. not (same x z)) xs) (filter (λ z. not (same x z)) xs)) ≡ None
    by true is rest = rest
    by false is rest = rw is rest

  pub firsts-apart : (xs : List X) → AreApart same (firsts same xs)
  firsts-apart [] = tt
  firsts-apart (x ∷ xs) = (none-apart x (firsts same xs), apart-filter (λ y. not (same x y)) (firsts same xs) (firsts-apart xs))

module _ {X : Type 0} (same : X → X → Bool) (turn : (a b : X) → same a b ≡ same b a) (through : (a b c : X) → same a b ≡ true → same a c ≡ same b c) where
  -- what is there is among the firsts
  pub find-firsts : (x : X) (xs : List X) → find (same x) (firsts same xs) ≡ find (same x) xs
  find-firsts x [] = refl
  find-firsts x (y ∷ xs) = by (same x y) refl (find-firsts x xs) where
    by : (b : Bool) → same x y ≡ b → find (same x) (firsts same xs) ≡ find (same x) xs
        → cond b (Some y) (find (same x) (filter (λ z. not (same y z)) (firsts same xs))) ≡ cond b (Some y) (find (same x) xs)
    by true is rest = refl
    by false is rest =
        find-filter (same x) (λ z. not (same y z)) (λ z there. ap not (turn y z ∙ sym (through x z y there) ∙ is)) (firsts same xs)
        ∙ rest

  -- one more
  pub firsts-more : (xs : List X) (x : X) → firsts same (xs ++ x ∷ []) ≡ firsts same xs ++ cond (is_some (find (same x) xs)) [] (x ∷ [])
  firsts-more [] x = refl
  firsts-more (y ∷ xs) x =
      ap (λ (l : List X). y ∷ filter (λ z. not (same y z)) l) (firsts-more xs x)
      ∙ ap (λ (l : List X). y ∷ l) (filter-append (λ z. not (same y z)) (firsts same xs) (cond (is_some (find (same x) xs)) [] (x ∷ [])))
      ∙ ap (λ (l : List X). y ∷ (filter (λ z. not (same y z)) (firsts same xs) ++ l)) (by (find (same x) xs) (same x y) (turn y x)) where
        by : (o : Option X) (b : Bool) → same y x ≡ b → filter (λ z. not (same y z)) (cond (is_some o) [] (x ∷ [])) ≡ cond (is_some (cond b (Some y) o)) [] (x ∷ [])
        by (Some z) true is = refl
        by (Some z) false is = refl
        by None true is = rw is refl
        by None false is = rw is refl

  pub firsts-new : (xs : List X) (x : X) → find (same x) xs ≡ None → firsts same (xs ++ x ∷ []) ≡ firsts same xs ++ x ∷ []
  firsts-new xs x none = firsts-more xs x ∙ ap (λ (o : Option X). firsts same xs ++ cond (is_some o) [] (x ∷ [])) none

  pub firsts-old : (xs : List X) (x y : X) → find (same x) xs ≡ Some y → firsts same (xs ++ x ∷ []) ≡ firsts same xs
  firsts-old xs x y found =
      firsts-more xs x ∙ ap (λ (o : Option X). firsts same xs ++ cond (is_some o) [] (x ∷ [])) found ∙ append-nil (firsts same xs)

  -- with more behind them the firsts are first
  pub firsts-ahead : (xs ys : List X) → (more : List X) × (firsts same (xs ++ ys) ≡ firsts same xs ++ more)
  firsts-ahead xs [] = ([], ap (firsts same) (append-nil xs) ∙ sym (append-nil (firsts same xs)))
  firsts-ahead xs (y ∷ ys) =
      let rest = firsts-ahead (xs ++ y ∷ []) ys in (
        cond (is_some (find (same y) xs)) [] (y ∷ []) ++ rest.0,
        ap (firsts same) (sym (append_assoc xs (y ∷ []) ys)) ∙ rest.1
            ∙ ap (λ (l : List X). l ++ rest.0) (firsts-more xs y) ∙ append_assoc (firsts same xs) (cond (is_some (find (same y) xs)) [] (y ∷ [])) rest.0,
      )

  -- the place of one that is there
  pub place-old : (xs ys : List X) (x y : X) → find (same x) xs ≡ Some y → position_or_len (same x) (firsts same (xs ++ ys)) ≡ position_or_len (same x) (firsts same xs)
  place-old xs ys x y found =
      let ahead = firsts-ahead xs ys in
      ap (position_or_len (same x)) ahead.1 ∙ position-left (same x) (firsts same xs) ahead.0 y (find-firsts x xs ∙ found)

  -- the place of a new one
  pub place-new : (xs ys : List X) (x : X) → find (same x) xs ≡ None → same x x ≡ true → position_or_len (same x) (firsts same (xs ++ x ∷ ys)) ≡ length (firsts same xs)
  place-new xs ys x none itself =
      let ahead = firsts-ahead (xs ++ x ∷ []) ys in
      ap (λ (l : List X). position_or_len (same x) (firsts same l)) (sym (append_assoc xs (x ∷ []) ys))
      ∙ ap (position_or_len (same x)) (ahead.1 ∙ ap (λ (l : List X). l ++ ahead.0) (firsts-new xs x none) ∙ append_assoc (firsts same xs) (x ∷ []) ahead.0)
      ∙ position-next (same x) (firsts same xs) ahead.0 x (find-firsts x xs ∙ none) itself

  -- none of the others is the same as one that is found
  pub alone : (x : X) (p : X) (ps : List X) → same x p ≡ true → find (same p) ps ≡ None → find (same x) ps ≡ None
  alone x p ps is none = find-same (same x) (same p) (λ z. through x p z is) ps ∙ none
