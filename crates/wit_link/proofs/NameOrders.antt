-- Names with their places.
use Rattle.std.proofs.Common.{◌≡◌, ◌∙◌, ◌<◌, ◌+◌, ℕ, zero, suc, Bool, true, false, List, [], ◌∷◌, length, take, refl, ap, sym, subst, inl, inr, arith, one-add, Option, Some, None, map, slice_get, get_or, IsPermutation}
use Rattle.std.proofs.lemmas.Bool.{cases_Bool, cases_lt, cond-true, cond-false, false≢true, lt-ltb, le-ltb}
use Rattle.std.proofs.lemmas.List.{length-map, get_or-map}
use Rattle.std.proofs.lemmas.List.Elements.{Contains-get_or}
use Rattle.std.proofs.lemmas.List.Sorted.{Contains-permutation, IsPermutation-map, IsPermutation-sym}
use Rattle.std.proofs.lemmas.Map.Views.{Contains-from_lookup}
use Rattle.std.specs.Prelude.{Err, IfOk, IsSorted, IsSortedByKey, Ok, Result, nat_lt, position, option_map}
use Rattle.std.specs.List.{IsDistinct, enumerate_from, position_or_len, range_with_len}
use Rattle.std.specs.Map.{keys_of, lookup, values_of}
use Rattle.std.specs.Option.{option_cmp}
use Rattle.std.specs.Ordering.{is_lt}
use Rattle.wit_values.specs.facts.Lists.{AllByRecursion-at}
use Rattle.wit_names.specs.PackageName.{package_cmp, same_package}
use Rattle.wit_names.specs.declared.package_name.PackageName.{PackageName}
use Rattle.wit_link.specs.steps.GroupOrderSteps.{AreByName, indices_of_names}
use Rattle.wit_names.specs.facts.PackageNameFacts.{own_name, same_name}

abbrev Named : Type 0
Named = PackageName × ℕ

-- names with their places from n on
abbrev places_from : ℕ → List PackageName → List Named
places_from n names = map (λ (p : ℕ × PackageName). (p.1, p.0)) (enumerate_from n names)

at_from : (n : ℕ) (names : List PackageName) (i j : ℕ) (k : PackageName) → n + i ≡ j → slice_get names i ≡ Some k → slice_get (places_from n names) i ≡ Some (k, j)
at_from n [] i j k is at = cc
at_from n (x ∷ xs) zero j k is at =
    let same : x ≡ k = cc in
    let here : n ≡ j = omega arith in
    ap (λ (y : PackageName). Some (y, n)) same ∙ ap (λ (m : ℕ). Some (k, m)) here
at_from n (x ∷ xs) (suc i) j k is at = at_from (n + 1) xs i j k (omega arith) at

pub places-at : (names : List PackageName) (i : ℕ) (k : PackageName) → slice_get names i ≡ Some k → slice_get (indices_of_names names) i ≡ Some (k, i)
places-at names i k at = at_from 0 names i i k (omega arith) at

back_from : (n : ℕ) (names : List PackageName) (i : ℕ) (e : Named) → slice_get (places_from n names) i ≡ Some e → (e.1 ≡ n + i) × (slice_get names i ≡ Some e.0)
back_from n [] i e at = cc
back_from n (x ∷ xs) zero e at =
    let one : Named = (x, n) in
    let same : one ≡ e = cc in
    let place : n ≡ e.1 = ap (λ (f : Named). f.1) same in
    (omega arith, ap (λ (f : Named). Some f.0) same)
back_from n (x ∷ xs) (suc i) e at = let rest = back_from (n + 1) xs i e at in (omega (arith, rest.0), rest.1)

pub places-back : (names : List PackageName) (i : ℕ) (e : Named) → slice_get (indices_of_names names) i ≡ Some e → (e.1 ≡ i) × (slice_get names i ≡ Some e.0)
places-back names i e at = let is = back_from 0 names i e at in (omega (arith, is.0), is.1)

keys_from : (n : ℕ) (names : List PackageName) → keys_of (places_from n names) ≡ names
keys_from n [] = refl
keys_from n (x ∷ xs) = ap (λ (l : List PackageName). x ∷ l) (keys_from (n + 1) xs)

pub keys-places : (names : List PackageName) → keys_of (indices_of_names names) ≡ names
keys-places names = keys_from 0 names

values_from : (n : ℕ) (names : List PackageName) → values_of (places_from n names) ≡ range_with_len n (length names)
values_from n [] = refl
values_from n (x ∷ xs) = ap (λ (l : List ℕ). n ∷ l) (values_from (n + 1) xs)

length_from : (n : ℕ) (names : List PackageName) → length (places_from n names) ≡ length names
length_from n [] = refl
length_from n (x ∷ xs) = ap suc (length_from (n + 1) xs)

pub length-places : (names : List PackageName) → length (indices_of_names names) ≡ length names
length-places names = length_from 0 names

-- ---- names that differ

pub apart : (names : List PackageName) → IsDistinct same_package names → (i j : ℕ) (name : PackageName) → i < j → slice_get names i ≡ Some name → slice_get names j ≡ Some name → ⊥
unfolding IsDistinct
apart [] distinct i j name before first second = cc
apart (x ∷ xs) distinct zero zero name before first second = absurd (omega (arith, before))
apart (x ∷ xs) distinct zero (suc j) name before first second =
    let same : x ≡ name = cc in
    let differs : same_package x name ≡ false = AllByRecursion-at (λ y. same_package x y ≡ false) xs j name distinct.0 second in
    false≢true (sym differs ∙ ap (λ (y : PackageName). same_package y name) same ∙ own_name name)
apart (x ∷ xs) distinct (suc i) zero name before first second = absurd (omega (arith, before))
apart (x ∷ xs) distinct (suc i) (suc j) name before first second = apart xs distinct.1 i j name (omega (arith, before)) first second

-- what is found among the first n names
pub found_before : (names : List PackageName) (n : ℕ) (name : PackageName) (earlier : ℕ) → lookup (same_package name) (take n (indices_of_names names)) ≡ Some earlier
    → (earlier < n) × (slice_get names earlier ≡ Some name)
found_before names n name earlier found =
    let has = Contains-from_lookup same_name name earlier (take n (indices_of_names names)) found in
    let there = in_take (indices_of_names names) n has.0 (name, earlier) has.1 has.2 in
    let is = places-back names has.0 (name, earlier) there.1 in
    (omega (arith, is.0, there.0), subst (λ (m : ℕ). slice_get names m ≡ Some name) (sym is.0) is.1)
  where
    in_take : (es : List Named) (m i : ℕ) (e : Named) → i < length (take m es) → get_or (take m es) i e ≡ e → (i < m) × (slice_get es i ≡ Some e)
    in_take [] zero i e within is = absurd (omega arith)
    in_take [] (suc m) i e within is = absurd (omega arith)
    in_take (f ∷ es) zero i e within is = absurd (omega arith)
    in_take (f ∷ es) (suc m) zero e within is = (omega arith, ap (λ (g : Named). Some g) is)
    in_take (f ∷ es) (suc m) (suc i) e within is = let rest = in_take es m i e (omega arith) is in (omega (arith, rest.0), rest.1)

-- ---- look-ups and places

position_cons_yes : (p : PackageName → Bool) (x : PackageName) (xs : List PackageName) → p x ≡ true → position_or_len p (x ∷ xs) ≡ 0
position_cons_yes p x xs passes = rw passes refl

position_cons_no : (p : PackageName → Bool) (x : PackageName) (xs : List PackageName) → p x ≡ false → position_or_len p (x ∷ xs) ≡ suc (position_or_len p xs)
position_cons_no p x xs fails = rw (fails, one-add) refl

position_yes : (p : PackageName → Bool) (x : PackageName) (xs : List PackageName) → p x ≡ true → position p (x ∷ xs) ≡ Some 0
position_yes p x xs passes =
    let first = position_cons_yes p x xs passes in
    cond-true (nat_lt (position_or_len p (x ∷ xs)) (length (x ∷ xs))) (Some (position_or_len p (x ∷ xs))) None (lt-ltb (position_or_len p (x ∷ xs)) (length (x ∷ xs)) (omega arith))
    ∙ ap (λ (m : ℕ). Some m) first

position_no : (p : PackageName → Bool) (x : PackageName) (xs : List PackageName) → p x ≡ false → position p (x ∷ xs) ≡ option_map suc (position p xs)
position_no p x xs fails =
    let next = position_cons_no p x xs fails in
    elim (cases_lt (position_or_len p xs) (length xs)) [
      | inl within ↦
          let here : position p xs ≡ Some (position_or_len p xs) = cond-true (nat_lt (position_or_len p xs) (length xs)) (Some (position_or_len p xs)) None (lt-ltb (position_or_len p xs) (length xs) within) in
          cond-true (nat_lt (position_or_len p (x ∷ xs)) (length (x ∷ xs))) (Some (position_or_len p (x ∷ xs))) None (lt-ltb (position_or_len p (x ∷ xs)) (length (x ∷ xs)) (omega arith))
          ∙ ap (λ (m : ℕ). Some m) next ∙ sym (ap (option_map suc) here)
      | inr past ↦
          let here : position p xs ≡ None = cond-false (nat_lt (position_or_len p xs) (length xs)) (Some (position_or_len p xs)) None (le-ltb (position_or_len p xs) (length xs) past) in
          cond-false (nat_lt (position_or_len p (x ∷ xs)) (length (x ∷ xs))) (Some (position_or_len p (x ∷ xs))) None (le-ltb (position_or_len p (x ∷ xs)) (length (x ∷ xs)) (omega arith))
          ∙ sym (ap (option_map suc) here)
    ]

shifted : (n : ℕ) (o : Option ℕ) → option_map (λ (i : ℕ). (n + 1) + i) o ≡ option_map (λ (i : ℕ). n + i) (option_map suc o)
shifted n None = refl
shifted n (Some i) = let same : (n + 1) + i ≡ n + suc i = omega arith in ap (λ (m : ℕ). Some m) same

lookup_from : (k : PackageName) (n : ℕ) (names : List PackageName) → lookup (same_package k) (places_from n names) ≡ option_map (λ (i : ℕ). n + i) (position (same_package k) names)
lookup_from k n [] = refl
lookup_from k n (x ∷ xs) = elim (cases_Bool (same_package k x)) [
  | inl passes ↦
      let same : n ≡ n + 0 = omega arith in
      cond-true (same_package k x) (Some n) (lookup (same_package k) (places_from (n + 1) xs)) passes ∙ ap (λ (m : ℕ). Some m) same
      ∙ sym (ap (option_map (λ (i : ℕ). n + i)) (position_yes (same_package k) x xs passes))
  | inr fails ↦
      cond-false (same_package k x) (Some n) (lookup (same_package k) (places_from (n + 1) xs)) fails ∙ lookup_from k (n + 1) xs ∙ shifted n (position (same_package k) xs)
      ∙ sym (ap (option_map (λ (i : ℕ). n + i)) (position_no (same_package k) x xs fails))
]

from_zero : (o : Option ℕ) → option_map (λ (i : ℕ). 0 + i) o ≡ o
from_zero None = refl
from_zero (Some i) = let same : 0 + i ≡ i = omega arith in ap (λ (m : ℕ). Some m) same

pub lookup-places : (k : PackageName) (names : List PackageName) → lookup (same_package k) (indices_of_names names) ≡ position (same_package k) names
lookup-places k names = lookup_from k 0 names ∙ from_zero (position (same_package k) names)

-- ---- the order of names

pub roots-all : (names : List PackageName) (roots : List ℕ) → AreByName (indices_of_names names) roots → IsPermutation (range_with_len 0 (length names)) roots
roots-all names roots are =
    let moved : IsPermutation (values_of (indices_of_names names)) (values_of are.entries) = IsPermutation-map (λ (e : Named). e.1) (indices_of_names names) are.entries are.all in
    subst (IsPermutation (range_with_len 0 (length names))) (sym are.are) (subst (λ (l : List ℕ). IsPermutation l (values_of are.entries)) (values_from 0 names) moved)

-- the name at the place of an entry
entry-name : (names : List PackageName) (entries : List Named) (k : ℕ) (e : Named) → IsPermutation (indices_of_names names) entries → k < length entries
    → slice_get names (get_or entries k e).1 ≡ Some (get_or entries k e).0
entry-name names entries k e all within =
    let x = get_or entries k e in
    let has = Contains-permutation entries (indices_of_names names) x (IsPermutation-sym (indices_of_names names) entries all) (Contains-get_or entries k e within) in
    let at : slice_get (indices_of_names names) has.0 ≡ Some x = got (indices_of_names names) has.0 x has.1 has.2 in
    let is = places-back names has.0 x at in
    subst (λ (m : ℕ). slice_get names m ≡ Some x.0) (sym is.0) is.1
  where
    got : (es : List Named) (i : ℕ) (f : Named) → i < length es → get_or es i f ≡ f → slice_get es i ≡ Some f
    got [] i f within is = absurd (omega arith)
    got (g ∷ es) zero f within is = ap (λ (h : Named). Some h) is
    got (g ∷ es) (suc i) f within is = got es i f (omega arith) is

pub roots-by_name : (names : List PackageName) (roots : List ℕ) → AreByName (indices_of_names names) roots → IsSortedByKey (slice_get names) (option_cmp package_cmp) roots
roots-by_name names roots are = subst (IsSortedByKey (slice_get names) (option_cmp package_cmp)) (sym are.are) (λ k d low within.
    let es = are.entries in
    let none : PackageName = record { namespace = []; name = []; version = None } in
    let e : Named = (none, 0) in
    let long : length (values_of es) ≡ length es = length-map es (λ (f : Named). f.1) in
    let wide : length (keys_of es) ≡ length es = length-map es (λ (f : Named). f.0) in
    let here : get_or (values_of es) k d ≡ (get_or es k e).1 = get_or-map (λ (f : Named). f.1) es k e d (omega arith) in
    let next : get_or (values_of es) (k + 1) d ≡ (get_or es (k + 1) e).1 = get_or-map (λ (f : Named). f.1) es (k + 1) e d (omega arith) in
    let key_here : get_or (keys_of es) k none ≡ (get_or es k e).0 = get_or-map (λ (f : Named). f.0) es k e none (omega arith) in
    let key_next : get_or (keys_of es) (k + 1) none ≡ (get_or es (k + 1) e).0 = get_or-map (λ (f : Named). f.0) es (k + 1) e none (omega arith) in
    let name_here : slice_get names (get_or (values_of es) k d) ≡ Some (get_or (keys_of es) k none) = ap (slice_get names) here ∙ entry-name names es k e are.all (omega arith) ∙ ap (λ (x : PackageName). Some x) (sym key_here) in
    let name_next : slice_get names (get_or (values_of es) (k + 1) d) ≡ Some (get_or (keys_of es) (k + 1) none) =
    ap (slice_get names) next ∙ entry-name names es (k + 1) e are.all (omega arith) ∙ ap (λ (x : PackageName). Some x) (sym key_next) in
    ap (λ (o : Option PackageName). is_lt (option_cmp package_cmp o (slice_get names (get_or (values_of es) k d)))) name_next
    ∙ ap (λ (o : Option PackageName). is_lt (option_cmp package_cmp (Some (get_or (keys_of es) (k + 1) none)) o)) name_here
    ∙ are.sorted k none low (omega arith))

-- the values of sorted entries
pub by_name : {E : Type 0} (r : Result (List ℕ) E) (entries names : List Named) → IsPermutation names entries → IsSorted package_cmp (keys_of entries) → IfOk r (λ values. values ≡ values_of entries)
    → IfOk r (AreByName names)
by_name (Ok values) entries names all sorted are = record { entries = entries; all = all; sorted = sorted; are = are }
by_name (Err error) entries names all sorted are = tt
