-- Packages of different names have one order.
use Rattle.std.proofs.Common.{◌≡◌, ◌∙◌, ◌<◌, ◌≤◌, ℕ, zero, suc, Bool, true, false, List, [], ◌∷◌, length, refl, ap, sym, subst, inl, inr, arith, Option, Some, None, slice_get, get_or, Contains, IsPermutation, nat_eq, ◌&&◌, ◌+◌}
use Rattle.std.proofs.lemmas.Bool.{cases_lt, false≢true}
use Rattle.std.proofs.lemmas.Bool.Decides.{Decides-eqb}
use Rattle.std.proofs.lemmas.Cmp.{nat_list_cmp_total, then_total}
use Rattle.std.proofs.lemmas.List.{length-map}
use Rattle.std.proofs.lemmas.List.FromFn.{get_or-range_with_len, length-range_with_len}
use Rattle.std.proofs.lemmas.List.Sorted.{Contains-permutation, IsPermutation-sym, ranks_by, sorted_far}
use Rattle.std.proofs.lemmas.Map.Keys.{IsDistinct-IsPermutation}
use Rattle.std.specs.Cmp.{IsTotalOrder, nat_eq_equiv, on_total}
use Rattle.std.proofs.lemmas.Map.Text.{is_eq-slice_cmp}
use Rattle.std.specs.Cmp.Lexicographic.{options_total}
use Rattle.std.specs.List.{AllByRecursion, AllZip, IsDistinct, range_with_len}
use Rattle.std.specs.Option.{option_cmp, option_eq}
use Rattle.std.specs.Ordering.{is_eq, is_lt, ordering_reverse, ordering_then}
use Rattle.std.specs.Prelude.{IsSortedByKey, flat_map}
use Rattle.std.specs.declared.cmp.Ordering.{Ordering}
use Rattle.std.specs.declared.cmp.Ordering.TheVariants.{Less, Equal, Greater}
use Rattle.wit_values.specs.Version.{Parts, version_cmp, version_eq}
use Rattle.wit_values.specs.facts.VersionFacts.{version_cmp_total, version_ties}
use Rattle.wit_digraph.specs.facts.MemberFacts.{Contains-cons_cases, Contains-here, Contains-nil, Contains-there}
use Rattle.wit_digraph.specs.PostOrder.{first_of_each, post_order}
use Rattle.wit_names.specs.facts.PackageNameFacts.{same_name}
use Rattle.wit_names.specs.PackageName.{package_cmp, same_package}
use Rattle.wit_names.specs.declared.package_name.PackageName.{PackageName}
use Rattle.wit_link.specs.GroupOrder.{AreSorted, IsGroupOrder, Unresolved, group_uses, names_of}

-- ---- lists that rise

-- no later one is less
abbrev Rises : (ℕ → ℕ → Bool) → List ℕ → Type 0
Rises lt [] = Unit {0}
Rises lt (x ∷ xs) = ((y : ℕ) → Contains xs y → lt y x ≡ false) × Rises lt xs

-- no member comes again
abbrev AreOnce : List ℕ → Type 0
AreOnce [] = Unit {0}
AreOnce (x ∷ xs) = (Contains xs x → ⊥) × AreOnce xs

rises : (lt : ℕ → ℕ → Bool) (xs : List ℕ) → ((i j d : ℕ) → i ≤ j → j < length xs → lt (get_or xs j d) (get_or xs i d) ≡ false) → Rises lt xs
rises lt [] far = tt
rises lt (x ∷ xs) far = (
  λ y has. subst (λ (z : ℕ). lt z x ≡ false) has.2 (far zero (suc has.0) y (omega arith) (omega (arith, has.1))),
  rises lt xs (λ i j d before within. far (suc i) (suc j) d (omega (arith, before)) (omega (arith, within))),
)

is_apart : (x : ℕ) (xs : List ℕ) → AllByRecursion (λ y. nat_eq x y ≡ false) xs → (y : ℕ) → Contains xs y → x ≡ y → ⊥
is_apart x [] differs y has same = absurd (Contains-nil has)
is_apart x (z ∷ xs) differs y has same = elim (Contains-cons_cases z y xs has) [
  | inl here ↦ false≢true (sym differs.0 ∙ (Decides-eqb x z).1 (same ∙ sym here))
  | inr there ↦ is_apart x xs differs.1 y there same
]

once : (xs : List ℕ) → IsDistinct nat_eq xs → AreOnce xs
unfolding IsDistinct
once [] distinct = tt
once (x ∷ xs) distinct = (λ has. is_apart x xs distinct.0 x has refl, once xs distinct.1)

-- lists that rise and have the same members, each once, are the same
module _ (n : ℕ) (lt : ℕ → ℕ → Bool) (ties : (x y : ℕ) → x < n → y < n → lt x y ≡ false → lt y x ≡ false → x ≡ y) where
  one_list : (xs ys : List ℕ) → ((z : ℕ) → Contains xs z → z < n) → ((z : ℕ) → Contains xs z → Contains ys z) → ((z : ℕ) → Contains ys z → Contains xs z) → AreOnce xs → AreOnce ys → Rises lt xs → Rises lt ys → xs ≡ ys
  one_list [] [] below to from once_xs once_ys up_xs up_ys = refl
  one_list [] (y ∷ ys) below to from once_xs once_ys up_xs up_ys = absurd (Contains-nil (from y (Contains-here y ys)))
  one_list (x ∷ xs) [] below to from once_xs once_ys up_xs up_ys = absurd (Contains-nil (to x (Contains-here x xs)))
  one_list (x ∷ xs) (y ∷ ys) below to from once_xs once_ys up_xs up_ys =
      let first : x ≡ y = heads in
      let rest : xs ≡ ys = one_list xs ys (λ z has. below z (Contains-there x z xs has)) (λ z has. left z has first) (λ z has. right z has first) once_xs.1 once_ys.1 up_xs.1 up_ys.1 in
      ap (λ (h : ℕ). h ∷ xs) first ∙ ap (λ (l : List ℕ). y ∷ l) rest
    where
      heads : x ≡ y
      heads = elim (Contains-cons_cases y x ys (to x (Contains-here x xs))) [
        | inl same ↦ sym same
        | inr later ↦ elim (Contains-cons_cases x y xs (from y (Contains-here y ys))) [
          | inl same ↦ same
          | inr also ↦ ties x y (below x (Contains-here x xs)) (below y (Contains-there x y xs also)) (up_ys.0 x later) (up_xs.0 y also)
        ]
      ]

      left : (z : ℕ) → Contains xs z → x ≡ y → Contains ys z
      left z has first = elim (Contains-cons_cases y z ys (to z (Contains-there x z xs has))) [
        | inl same ↦ absurd (once_xs.0 (subst (λ (w : ℕ). Contains xs w) (sym (first ∙ same)) has))
        | inr there ↦ there
      ]

      right : (z : ℕ) → Contains ys z → x ≡ y → Contains xs z
      right z has first = elim (Contains-cons_cases x z xs (from z (Contains-there y z ys has))) [
        | inl same ↦ absurd (once_ys.0 (subst (λ (w : ℕ). Contains ys w) (sym (sym first ∙ same)) has))
        | inr there ↦ there
      ]

-- ---- the order of names

package_total : IsTotalOrder package_cmp
package_total =
    then_total (on_total (λ (p : PackageName). p.namespace) nat_list_cmp_total)
    (then_total (on_total (λ (p : PackageName). p.name) nat_list_cmp_total) (on_total (λ (p : PackageName). p.version) (options_total version_cmp_total)))

both_tie : (e f : Bool) (r s : Ordering) → e ≡ is_eq r → f ≡ is_eq s → (e && f) ≡ is_eq (ordering_then r s)
both_tie e f Less s p q = ap (λ (b : Bool). b && f) p
both_tie e f Equal s p q = ap (λ (b : Bool). b && f) p ∙ q
both_tie e f Greater s p q = ap (λ (b : Bool). b && f) p

versions_tie : (a b : Option Parts) → option_eq version_eq a b ≡ is_eq (option_cmp version_cmp a b)
versions_tie None None = refl
versions_tie None (Some b) = refl
versions_tie (Some a) None = refl
versions_tie (Some a) (Some b) = version_ties a b

names_tie : (a b : PackageName) → same_package a b ≡ is_eq (package_cmp a b)
names_tie a b =
    both_tie _ _ _ _ (sym (is_eq-slice_cmp a.namespace b.namespace)) (both_tie _ _ _ _ (sym (is_eq-slice_cmp a.name b.name)) (versions_tie a.version b.version))

-- neither of two comes before the other
neither : (r s : Ordering) → r ≡ ordering_reverse s → is_lt r ≡ false → is_lt s ≡ false → is_eq r ≡ true
neither Less s flips first second = absurd (cc (first))
neither Equal s flips first second = refl
neither Greater Less flips first second = absurd (cc (second))
neither Greater Equal flips first second = absurd (cc (flips))
neither Greater Greater flips first second = absurd (cc (flips))

name_ties : (a b : PackageName) → is_lt (package_cmp a b) ≡ false → is_lt (package_cmp b a) ≡ false → a ≡ b
name_ties a b first second = same_name a b (names_tie a b ∙ neither (package_cmp a b) (package_cmp b a) (package_total.antisymm a b) first second)

-- ---- one order

-- no two unresolved packages have one name
abbrev pub Differ : List Unresolved → Type 0
Differ unresolved = (i j : ℕ) (name : PackageName) → i < j → slice_get (names_of unresolved) i ≡ Some name → slice_get (names_of unresolved) j ≡ Some name → ⊥

module _ (unresolved : List Unresolved) (differ : Differ unresolved) where
  abbrev before : ℕ → ℕ → Bool
  before x y = is_lt (option_cmp package_cmp (slice_get (names_of unresolved) x) (slice_get (names_of unresolved) y))

  pub one_place : (i j : ℕ) (name : PackageName) → slice_get (names_of unresolved) i ≡ Some name → slice_get (names_of unresolved) j ≡ Some name → i ≡ j
  one_place i j name first second = elim (cases_lt i j) [
    | inl earlier ↦ absurd (differ i j name earlier first second)
    | inr later ↦ elim (cases_lt j i) [
      | inl back ↦ absurd (differ j i name back second first)
      | inr also ↦ omega (arith, later, also)
    ]
  ]

  by_names : (x y : ℕ) (a b : PackageName) → slice_get (names_of unresolved) x ≡ Some a → slice_get (names_of unresolved) y ≡ Some b → before x y ≡ false → before y x ≡ false → x ≡ y
  by_names x y a b x_is y_is first second =
      let one : is_lt (package_cmp a b) ≡ false = rw (x_is, y_is) at first in
      let two : is_lt (package_cmp b a) ≡ false = rw (x_is, y_is) at second in
      one_place x y b (x_is ∙ ap Some (name_ties a b one two)) y_is

  named_at : (names : List PackageName) (i : ℕ) → i < length names → (name : PackageName) × (slice_get names i ≡ Some name)
  named_at [] i within = absurd (omega (arith, within))
  named_at (name ∷ names) zero within = (name, refl)
  named_at (name ∷ names) (suc i) within = named_at names i (omega (arith, within))

  ties : (x y : ℕ) → x < length unresolved → y < length unresolved → before x y ≡ false → before y x ≡ false → x ≡ y
  ties x y x_in y_in first second =
      let wide : length (names_of unresolved) ≡ length unresolved = length-map unresolved (λ (p : Unresolved). p.0.name) in
      let a = named_at (names_of unresolved) x (omega (arith, wide, x_in)) in
      let b = named_at (names_of unresolved) y (omega (arith, wide, y_in)) in
      by_names x y a.0 b.0 a.1 b.1 first second

  range_once : (n k : ℕ) → IsDistinct nat_eq (range_with_len k n)
  unfolding IsDistinct
  range_once zero k = tt
  range_once (suc n) k = (differs n (k + 1) k (omega arith), range_once n (k + 1))
    where
      differs : (n from k : ℕ) → k < from → AllByRecursion (λ y. nat_eq k y ≡ false) (range_with_len from n)
      differs zero from k low = tt
      differs (suc n) from k low = (search arith, differs n (from + 1) k (omega (arith, low)))

  roots_rise : (roots : List ℕ) → IsSortedByKey (slice_get (names_of unresolved)) (option_cmp package_cmp) roots → Rises before roots
  roots_rise roots sorted = rises before roots (λ i j d low within. sorted_far before (ranks_by (options_total package_total) (slice_get (names_of unresolved))) roots sorted i j d low within)

  roots_once : (roots : List ℕ) → IsPermutation (range_with_len 0 (length unresolved)) roots → AreOnce roots
  roots_once roots all = once roots (IsDistinct-IsPermutation nat_eq nat_eq_equiv.symm (range_with_len 0 (length unresolved)) roots all (range_once (length unresolved) 0))

  pub one_roots : (xs ys : List ℕ) → IsPermutation (range_with_len 0 (length unresolved)) xs → IsPermutation (range_with_len 0 (length unresolved)) ys
      → IsSortedByKey (slice_get (names_of unresolved)) (option_cmp package_cmp) xs → IsSortedByKey (slice_get (names_of unresolved)) (option_cmp package_cmp) ys → xs ≡ ys
  one_roots xs ys all_xs all_ys by_xs by_ys =
      let range = range_with_len 0 (length unresolved) in
      one_list (length unresolved) before ties xs ys
      (λ z has. let low = below (length unresolved) 0 z (Contains-permutation xs range z (IsPermutation-sym range xs all_xs) has) in omega (arith, low))
      (λ z has. Contains-permutation range ys z all_ys (Contains-permutation xs range z (IsPermutation-sym range xs all_xs) has))
      (λ z has. Contains-permutation range xs z all_xs (Contains-permutation ys range z (IsPermutation-sym range ys all_ys) has))
      (roots_once xs all_xs) (roots_once ys all_ys) (roots_rise xs by_xs) (roots_rise ys by_ys)
    where
      below : (n k z : ℕ) → Contains (range_with_len k n) z → z < k + n
      below n k z has =
          let long : length (range_with_len k n) ≡ n = length-range_with_len k n in
          let is : get_or (range_with_len k n) has.0 z ≡ k + has.0 = get_or-range_with_len k n has.0 z (omega (arith, long, has.1)) in
          omega (arith, long, is, has.1, has.2)

  -- the order
  pub one_order : (xs ys : List ℕ) → IsGroupOrder unresolved xs → IsGroupOrder unresolved ys → xs ≡ ys
  one_order xs ys first second =
      first.is ∙ ap (λ (roots : List ℕ). first_of_each (flat_map (post_order (group_uses unresolved)) roots)) (one_roots first.roots second.roots first.all second.all first.by_name second.by_name) ∙ sym second.is

  -- and the packages in it
  one_listing : (order : List ℕ) (xs ys : List Unresolved) → AllZip (λ i (p : Unresolved). slice_get unresolved i ≡ Some p) order xs → AllZip (λ i (p : Unresolved). slice_get unresolved i ≡ Some p) order ys → xs ≡ ys
  one_listing [] [] [] first second = refl
  one_listing [] (x ∷ xs) ys first second = absurd first
  one_listing [] [] (y ∷ ys) first second = absurd second
  one_listing (i ∷ order) [] ys first second = absurd first
  one_listing (i ∷ order) (x ∷ xs) [] first second = absurd second
  one_listing (i ∷ order) (x ∷ xs) (y ∷ ys) first second =
      let both : Some x ≡ Some y = sym first.0 ∙ second.0 in
      let same : x ≡ y = cc in
      ap (λ (h : Unresolved). h ∷ xs) same ∙ ap (λ (l : List Unresolved). y ∷ l) (one_listing order xs ys first.1 second.1)

  pub one_sorted : (order other : List ℕ) (xs ys : List Unresolved) → AreSorted unresolved order xs → AreSorted unresolved other ys → xs ≡ ys
  one_sorted order other xs ys first second =
      one_listing order xs ys first.are (subst (λ (l : List ℕ). AllZip (λ i (p : Unresolved). slice_get unresolved i ≡ Some p) l ys) (one_order other order second.is_order first.is_order) second.are)
