-- The names of what is active still differ.
use Rattle.std.proofs.Common.{◌≡◌, ◌∙◌, ℕ, zero, suc, ◌+◌, ◌<◌, Bool, true, false, cond, List, [], ◌∷◌, ◌++◌, map, filter, drop, filter_map, Option, None, Some, option_map, refl, sym, ap, subst, arith}
use Rattle.std.specs.List.{AllByRecursion, IsDistinct, cons_option, enumerate_from, flat_map}
use Rattle.std.specs.Map.{keys_of}
use Rattle.std.specs.Option.{option_to_list}
use Rattle.std.specs.Str.{bytes_eq}
use Rattle.wit_remap_spec.specs.Selected.{selected_with_index}

module _ {X : Type 0} (name : X → Option (List ℕ)) (kept : ℕ → Bool) where
  -- what is kept from place n on, and its names
  abbrev kept_from : ℕ → List X → List (ℕ × X)
  kept_from n xs = filter (λ (e : ℕ × X). kept e.0) (enumerate_from n xs)

  abbrev names_from : ℕ → List X → List (List ℕ)
  names_from n xs = filter_map (λ (e : ℕ × X). name e.1) (kept_from n xs)

  tail_of : (P : List ℕ → Type 0) (o : Option (List ℕ)) (rest : List (List ℕ)) → AllByRecursion P (cons_option o rest) → AllByRecursion P rest
  tail_of P None rest all = all
  tail_of P (Some m) rest all = all.1

  with_first : (P : List ℕ → Type 0) (o : Option (List ℕ)) (rest fewer : List (List ℕ)) → AllByRecursion P (cons_option o rest) → (AllByRecursion P rest → AllByRecursion P fewer) → AllByRecursion P (cons_option o fewer)
  with_first P None rest fewer all sub = sub all
  with_first P (Some m) rest fewer all sub = (all.0, sub all.1)

  -- what holds of all names holds of those of what is kept
  all_kept : (P : List ℕ → Type 0) (n : ℕ) (xs : List X) → AllByRecursion P (filter_map name xs) → AllByRecursion P (names_from n xs)
  all_kept P n [] all = all
  all_kept P n (x ∷ xs) all = by (kept n) (all_kept P (n + 1) xs)
    where
      by : (b : Bool) → (AllByRecursion P (filter_map name xs) → AllByRecursion P (names_from (n + 1) xs))
          → AllByRecursion P (filter_map (λ (e : ℕ × X). name e.1) (cond b ((n, x) ∷ kept_from (n + 1) xs) (kept_from (n + 1) xs)))
      by true sub = with_first P (name x) (filter_map name xs) (names_from (n + 1) xs) all sub
      by false sub = sub (tail_of P (name x) (filter_map name xs) all)

  rest_differ : (o : Option (List ℕ)) (rest : List (List ℕ)) → IsDistinct bytes_eq (cons_option o rest) → IsDistinct bytes_eq rest
  unfolding IsDistinct
  rest_differ None rest distinct = distinct
  rest_differ (Some m) rest distinct = distinct.1

  first_differs : (o : Option (List ℕ)) (rest fewer : List (List ℕ)) → IsDistinct bytes_eq (cons_option o rest) → ((P : List ℕ → Type 0) → AllByRecursion P rest → AllByRecursion P fewer)
      → (IsDistinct bytes_eq rest → IsDistinct bytes_eq fewer) → IsDistinct bytes_eq (cons_option o fewer)
  unfolding IsDistinct
  first_differs None rest fewer distinct sub others = others distinct
  first_differs (Some m) rest fewer distinct sub others = (sub (λ y. bytes_eq m y ≡ false) distinct.0, others distinct.1)

  -- where names differ, those of what is kept do
  differ_kept : (n : ℕ) (xs : List X) → IsDistinct bytes_eq (filter_map name xs) → IsDistinct bytes_eq (names_from n xs)
  differ_kept n [] distinct = distinct
  differ_kept n (x ∷ xs) distinct = by (kept n) (differ_kept (n + 1) xs)
    where
      by : (b : Bool) → (IsDistinct bytes_eq (filter_map name xs) → IsDistinct bytes_eq (names_from (n + 1) xs))
          → IsDistinct bytes_eq (filter_map (λ (e : ℕ × X). name e.1) (cond b ((n, x) ∷ kept_from (n + 1) xs) (kept_from (n + 1) xs)))
      by true others = first_differs (name x) (filter_map name xs) (names_from (n + 1) xs) distinct (λ P all. all_kept P (n + 1) xs all) others
      by false others = others (rest_differ (name x) (filter_map name xs) distinct)

  -- where none of the first things is kept, they can be left out
  without_first : (n f : ℕ) (xs : List X) → ((i : ℕ) → i < f → kept (n + i) ≡ false) → kept_from n xs ≡ kept_from (n + f) (drop f xs)
  without_first n zero xs none = let same : n ≡ n + 0 = omega arith in ap (λ (k : ℕ). kept_from k xs) same
  without_first n (suc f) [] none = refl
  without_first n (suc f) (x ∷ xs) none =
      let here : n + 0 ≡ n = omega arith in
      let left : kept n ≡ false = ap kept (sym here) ∙ none 0 (omega arith) in
      let past : (n + 1) + f ≡ n + suc f = omega arith in
      ap (λ (b : Bool). cond b ((n, x) ∷ kept_from (n + 1) xs) (kept_from (n + 1) xs)) left
      ∙ (without_first (n + 1) f xs (λ i below. let on : (n + 1) + i ≡ n + suc i = omega arith in ap kept on ∙ none (suc i) (omega arith)) ∙ ap (λ (k : ℕ). kept_from k (drop f xs)) past)

  -- the names of what is active differ where those after the first things do
  pub names_differ : (f : ℕ) (xs : List X) → ((i : ℕ) → i < f → kept i ≡ false) → IsDistinct bytes_eq (filter_map name (drop f xs)) → IsDistinct bytes_eq (filter_map (λ (e : ℕ × X). name e.1) (selected_with_index kept xs))
  names_differ f xs none distinct =
      subst (λ (l : List (ℕ × X)). IsDistinct bytes_eq (filter_map (λ (e : ℕ × X). name e.1) l)) (sym (without_first 0 f xs (λ i below. let same : 0 + i ≡ i = omega arith in ap kept same ∙ none i below))) (differ_kept (0 + f) (drop f xs) distinct)

module _ {E : Type 0} (name : E → Option (List ℕ)) (id : E → ℕ) where
  -- the keys of a table of what has names
  pub keys_named : (es : List E) → keys_of (filter_map (λ (e : E). option_map (λ (n : List ℕ). (n, id e)) (name e)) es) ≡ filter_map name es
  keys_named [] = refl
  keys_named (e ∷ es) = by (name e) (keys_named es)
    where
      by : (o : Option (List ℕ)) → keys_of (filter_map (λ (e : E). option_map (λ (n : List ℕ). (n, id e)) (name e)) es) ≡ filter_map name es
          → keys_of (cons_option (option_map (λ (n : List ℕ). (n, id e)) o) (filter_map (λ (e : E). option_map (λ (n : List ℕ). (n, id e)) (name e)) es)) ≡ cons_option o (filter_map name es)
      by None old = old
      by (Some n) old = ap (λ l. n ∷ l) old

-- the keys of a table of what all has names
pub keys_all : {E : Type 0} (name : E → List ℕ) (id : E → ℕ) (es : List E) → keys_of (map (λ (e : E). (name e, id e)) es) ≡ filter_map (λ (e : E). Some (name e)) es
keys_all name id [] = refl
keys_all name id (e ∷ es) = ap (λ l. name e ∷ l) (keys_all name id es)

-- names, told in one way or the other
cons_is : {A : Type 0} (o : Option A) (rest : List A) → option_to_list o ++ rest ≡ cons_option o rest
cons_is None rest = refl
cons_is (Some x) rest = refl

pub names_some : {X : Type 0} (name : X → Option (List ℕ)) (xs : List X) → flat_map (λ (x : X). option_to_list (name x)) xs ≡ filter_map name xs
names_some name [] = refl
names_some name (x ∷ xs) = ap (λ l. option_to_list (name x) ++ l) (names_some name xs) ∙ cons_is (name x) (filter_map name xs)

pub names_all : {X : Type 0} (name : X → List ℕ) (xs : List X) → map name xs ≡ filter_map (λ (x : X). Some (name x)) xs
names_all name [] = refl
names_all name (x ∷ xs) = ap (λ l. name x ∷ l) (names_all name xs)
