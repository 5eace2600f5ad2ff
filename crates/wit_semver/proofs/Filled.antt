-- Tables that tell of one id after another.
use Rattle.std.proofs.Common.{◌≡◌, ◌∙◌, ◌||◌, ℕ, Bool, true, false, List, [], ◌∷◌, ◌++◌, Option, None, Some, nat_eq, cond, refl, sym, ap, if◌then◌else◌}
use Rattle.std.specs.List.{list_any}
use Rattle.std.specs.Map.{lookup}
use Rattle.std.specs.Option.{option_or}
use Rattle.std.proofs.lemmas.Bool.{eqb-true}
use Rattle.std.proofs.lemmas.List.Folds.{list_any-append}
use Rattle.wit_semver.specs.steps.Replacing.{IsFilled}

-- what is told with one pair more
lookup_last : (test : ℕ → Bool) (found : List (ℕ × ℕ)) (k v : ℕ) → lookup test (found ++ (k, v) ∷ []) ≡ option_or (lookup test found) (if test k then Some v else None)
lookup_last test [] k v = refl
lookup_last test (e ∷ found) k v = by (test e.0) (lookup_last test found k v)
  where
    by : (b : Bool) → lookup test (found ++ (k, v) ∷ []) ≡ option_or (lookup test found) (if test k then Some v else None)
        → cond b (Some e.1) (lookup test (found ++ (k, v) ∷ [])) ≡ option_or (cond b (Some e.1) (lookup test found)) (if test k then Some v else None)
    by true rest = refl
    by false rest = rest

module _ (f : ℕ → Option ℕ) (ids : List ℕ) (k : ℕ) (found : List (ℕ × ℕ)) (filled : IsFilled f ids found) where
  abbrev value : Bool → ℕ → Option ℕ
  value b i = if b then f i else None

  among : (i : ℕ) → list_any (nat_eq i) (ids ++ k ∷ []) ≡ list_any (nat_eq i) ids || (nat_eq i k || false)
  among i = list_any-append (nat_eq i) ids (k ∷ [])

  -- an id that leads nowhere is told as one that isn't there
  pub filled-nowhere : None ≡ f k → IsFilled f (ids ++ k ∷ []) found
  filled-nowhere is i = filled i ∙ by (list_any (nat_eq i) ids) (nat_eq i k) refl ∙ sym (ap (λ b. value b i) (among i))
    where
      by : (b c : Bool) → nat_eq i k ≡ c → value b i ≡ value (b || (c || false)) i
      by true c same = refl
      by false true same = is ∙ ap f (sym (eqb-true i k same))
      by false false same = refl

  -- one that is told of leads where it leads
  pub filled-known : (v : ℕ) → lookup (nat_eq k) found ≡ Some v → IsFilled f (ids ++ k ∷ []) found
  filled-known v told i = filled i ∙ by (list_any (nat_eq i) ids) (nat_eq i k) refl refl ∙ sym (ap (λ b. value b i) (among i))
    where
      nothing_told : (w : ℕ) → Some w ≡ None → ⊥
      nothing_told w same = cc

      by : (b c : Bool) → list_any (nat_eq i) ids ≡ b → nat_eq i k ≡ c → value b i ≡ value (b || (c || false)) i
      by true c is same = refl
      by false true is same =
          let one = eqb-true i k same in
          absurd (nothing_told v (sym told ∙ ap (λ j. lookup (nat_eq j) found) (sym one) ∙ filled i ∙ ap (λ b. value b i) is))
      by false false is same = refl

  -- one more that leads somewhere
  pub filled-more : (v : ℕ) → Some v ≡ f k → lookup (nat_eq k) found ≡ None → IsFilled f (ids ++ k ∷ []) (found ++ (k, v) ∷ [])
  filled-more v is new i =
      lookup_last (nat_eq i) found k v ∙ by (nat_eq i k) refl ∙ sym (ap (λ b. value b i) (among i))
    where
      here : (b : Bool) → (b || (true || false)) ≡ true
      here true = refl
      here false = refl

      left : (b : Bool) → (b || (false || false)) ≡ b
      left true = refl
      left false = refl

      none_or : (o : Option ℕ) → option_or o None ≡ o
      none_or None = refl
      none_or (Some x) = refl

      by : (c : Bool) → nat_eq i k ≡ c → option_or (lookup (nat_eq i) found) (if nat_eq i k then Some v else None) ≡ value (list_any (nat_eq i) ids || (nat_eq i k || false)) i
      by true same =
          let one = eqb-true i k same in
          ap (λ c. option_or (lookup (nat_eq i) found) (if c then Some v else None)) same
          ∙ ap (λ o. option_or o (Some v)) (ap (λ j. lookup (nat_eq j) found) one ∙ new)
          ∙ is ∙ ap f (sym one)
          ∙ sym (ap (λ c. value (list_any (nat_eq i) ids || (c || false)) i) same ∙ ap (λ b. value b i) (here (list_any (nat_eq i) ids)))
      by false differ =
          ap (λ c. option_or (lookup (nat_eq i) found) (if c then Some v else None)) differ
          ∙ none_or (lookup (nat_eq i) found) ∙ filled i
          ∙ sym (ap (λ c. value (list_any (nat_eq i) ids || (c || false)) i) differ ∙ ap (λ b. value b i) (left (list_any (nat_eq i) ids)))
