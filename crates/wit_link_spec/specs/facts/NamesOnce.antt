-- Names that differ stand at one place each, so the table of the package's own interfaces has each once.
use Rattle.std.proofs.Common.{◌≡◌, ◌∙◌, ℕ, ◌+◌, ◌≤◌, zero, suc, true, false, List, [], ◌∷◌, ◌++◌, ◌-◌, drop, take, filter_map, length, Option, None, Some, option_map, slice_get, refl, sym, ap, subst, arith, Contains}
use Rattle.std.specs.List.{IsDistinct, cons_option, flat_map}
use Rattle.std.specs.Option.{option_to_list}
use Rattle.std.specs.Str.{bytes_eq}
use Rattle.std.specs.Cmp.Lexicographic.{nat_list_eq_equiv}
use Rattle.std.proofs.lemmas.Bool.{false≢true, ltb-false}
use Rattle.std.proofs.lemmas.Slice.Eq.{bytes_eq-Decides}
use Rattle.wit_values.specs.facts.Lists.{AllByRecursion-at}
use Rattle.wit_values.specs.Table.{HasDistinctKeys}
use Rattle.wit_digraph.specs.facts.MemberFacts.{Contains-flat_map, Contains-here}
use Rattle.wit_data.specs.Foreign.{foreign_interfaces}
use Rattle.wit_data.specs.Shape.{IsShaped}
use Rattle.wit_data.specs.declared.interface.Interface.{Interface}
use Rattle.wit_graph_theory.specs.facts.ListFacts.{contained_at, place_of}
use Rattle.wit_link_spec.specs.Addition.{Addition, own_interface, remapped_interface}
use Rattle.wit_remap_spec.specs.Selected.{rank, selected_with_index}
use Rattle.wit_link_spec.specs.Gates.{interface_is_active, is_foreign_interface}
use Rattle.wit_link_spec.specs.facts.OwnThingFacts.{own_part}
use Rattle.wit_link_spec.specs.Added.{new_package}
use Rattle.wit_link_spec.specs.facts.RankFacts.{selected_with_index-from}

-- ---- lists

-- a place behind those that are left out
pub at_drop : {X : Type 0} (xs : List X) (n i k : ℕ) (x : X) → k ≡ n + i → slice_get xs k ≡ Some x → slice_get (drop n xs) i ≡ Some x
at_drop [] n i k x place at = cc
at_drop (y ∷ ys) zero i k x place at = let same : k ≡ i = omega arith in subst (λ (j : ℕ). slice_get (y ∷ ys) j ≡ Some x) same at
at_drop (y ∷ ys) (suc n) i zero x place at = absurd (omega arith)
at_drop (y ∷ ys) (suc n) i (suc k) x place at = at_drop ys n i k x (omega arith) at

-- texts that differ stand at one place each
pub place_once : (xs : List (List ℕ)) (i j : ℕ) (x y : List ℕ) → IsDistinct bytes_eq xs → slice_get xs i ≡ Some x → slice_get xs j ≡ Some y → x ≡ y → i ≡ j
unfolding IsDistinct
place_once [] i j x y once first second same = cc
place_once (z ∷ xs) zero zero x y once first second same = refl
place_once (z ∷ xs) zero (suc j) x y once first second same =
    let other : bytes_eq z y ≡ false = AllByRecursion-at (λ t. bytes_eq z t ≡ false) xs j y once.0 second in
    let one : z ≡ x = cc in
    absurd (false≢true (sym other ∙ subst (λ (t : List ℕ). bytes_eq z t ≡ true) (one ∙ same) (nat_list_eq_equiv.refl z)))
place_once (z ∷ xs) (suc i) zero x y once first second same =
    let other : bytes_eq z x ≡ false = AllByRecursion-at (λ t. bytes_eq z t ≡ false) xs i x once.0 first in
    let one : z ≡ y = cc in
    absurd (false≢true (sym other ∙ subst (λ (t : List ℕ). bytes_eq z t ≡ true) (one ∙ sym same) (nat_list_eq_equiv.refl z)))
place_once (z ∷ xs) (suc i) (suc j) x y once first second same = ap suc (place_once xs i j x y once.1 first second same)

module _ {X Y : Type 0} where
  -- what comes of an element stands behind what comes of those before it
  pub filter_map-place : (f : X → Option Y) (xs : List X) (i : ℕ) (y : Y) → slice_get (filter_map f xs) i ≡ Some y
      → (k : ℕ) × (x : X) × (slice_get xs k ≡ Some x) × (f x ≡ Some y) × (i ≡ length (filter_map f (take k xs)))
  filter_map-place f [] i y at = cc
  filter_map-place f (z ∷ zs) i y at = by (f z) refl i at (filter_map-place f zs)
    where
      by : (o : Option Y) → f z ≡ o → (i : ℕ) → slice_get (cons_option o (filter_map f zs)) i ≡ Some y
          → ((i : ℕ) (y : Y) → slice_get (filter_map f zs) i ≡ Some y → (k : ℕ) × (x : X) × (slice_get zs k ≡ Some x) × (f x ≡ Some y) × (i ≡ length (filter_map f (take k zs))))
          → (k : ℕ) × (x : X) × (slice_get (z ∷ zs) k ≡ Some x) × (f x ≡ Some y) × (i ≡ length (filter_map f (take k (z ∷ zs))))
      by None is i at rest = let old = rest i y at in (suc old.0, old.1, old.2, old.3, old.4 ∙ ap (λ (o : Option Y). length (cons_option o (filter_map f (take old.0 zs)))) (sym is))
      by (Some w) is zero at rest = (0, z, refl, is ∙ at, refl)
      by (Some w) is (suc i) at rest = let old = rest i y at in (suc old.0, old.1, old.2, old.3, ap suc old.4 ∙ ap (λ (o : Option Y). length (cons_option o (filter_map f (take old.0 zs)))) (sym is))

module _ {X : Type 0} (name : X → Option (List ℕ)) where
  abbrev names : List X → List (List ℕ)
  names xs = flat_map (λ (x : X). option_to_list (name x)) xs

  -- the first name, and those behind it
  apart : (o : Option (List ℕ)) (rest : List (List ℕ)) → IsDistinct bytes_eq (option_to_list o ++ rest) → IsDistinct bytes_eq rest × ((n : List ℕ) → o ≡ Some n → Contains rest n → ⊥)
  unfolding IsDistinct
  apart None rest distinct = (distinct, λ n is has. cc)
  apart (Some m) rest distinct = (
    distinct.1,
    λ n is has.
        let place = place_of rest n has in
        let same : m ≡ n = cc in
        false≢true (sym (AllByRecursion-at (λ y. bytes_eq m y ≡ false) rest place.0 n distinct.0 place.1) ∙ (bytes_eq-Decides m n).1 same),
  )

  named : (xs : List X) (i : ℕ) (x : X) (n : List ℕ) → slice_get xs i ≡ Some x → name x ≡ Some n → Contains (names xs) n
  named xs i x n at is =
      Contains-flat_map (λ (x : X). option_to_list (name x)) xs x n (contained_at xs i x at) (subst (λ (o : Option (List ℕ)). Contains (option_to_list o) n) (sym is) (Contains-here n []))

  -- where names differ, one name is at one place
  pub named_once : (xs : List X) → IsDistinct bytes_eq (names xs) → (i j : ℕ) (x y : X) (n : List ℕ) → slice_get xs i ≡ Some x → slice_get xs j ≡ Some y → name x ≡ Some n → name y ≡ Some n → i ≡ j
  named_once [] distinct i j x y n first second is also = cc
  named_once (z ∷ zs) distinct i j x y n first second is also = by i j first second (apart (name z) (names zs) distinct) (λ d k l at there. named_once zs d k l x y n at there is also)
    where
      by : (i j : ℕ) → slice_get (z ∷ zs) i ≡ Some x → slice_get (z ∷ zs) j ≡ Some y → IsDistinct bytes_eq (names zs) × ((n : List ℕ) → name z ≡ Some n → Contains (names zs) n → ⊥)
          → (IsDistinct bytes_eq (names zs) → (k l : ℕ) → slice_get zs k ≡ Some x → slice_get zs l ≡ Some y → k ≡ l) → i ≡ j
      by zero zero at there d rest = refl
      by zero (suc l) at there d rest = let same : z ≡ x = cc in absurd (d.1 n (ap name same ∙ is) (named zs l y n there also))
      by (suc k) zero at there d rest = let same : z ≡ y = cc in absurd (d.1 n (ap name same ∙ also) (named zs k x n at is))
      by (suc k) (suc l) at there d rest = ap suc (rest d.0 k l at there)

-- ---- the table of the package's interfaces

-- what an entry of the table is of
pub record TableEntry (a : Addition) (j : ℕ) (e : List ℕ × ℕ) : Type 0 where
  pub f : ℕ
  pub interface : Interface
  pub there : slice_get a.unresolved.interfaces f ≡ Some interface
  pub own : own_interface a f ≡ true
  pub name : interface.name ≡ Some e.0
  pub place : remapped_interface a f ≡ e.1
  pub at : j
      ≡ length (filter_map (λ (e : ℕ × Interface).
      option_map
      (λ (name : List ℕ). let r : List ℕ × ℕ = (name, remapped_interface a e.0) in r)
      e.1.name) (take (rank (own_interface a) f)
      (selected_with_index (own_interface a) a.unresolved.interfaces)))

entry_parts : (o : Option (List ℕ)) (id : ℕ) (e : List ℕ × ℕ) → option_map (λ (name : List ℕ). let r : List ℕ × ℕ = (name, id) in r) o ≡ Some e → (o ≡ Some e.0) × (id ≡ e.1)
entry_parts None id e is = cc
entry_parts (Some name) id e is = let same : (name, id) ≡ e = cc in (ap (λ (p : List ℕ × ℕ). Some p.0) same, ap (λ (p : List ℕ × ℕ). p.1) same)

module _ (a : Addition) (shaped : IsShaped a.unresolved) where
  pub table_entry : (j : ℕ) (e : List ℕ × ℕ) → slice_get (new_package a).interfaces j ≡ Some e → TableEntry a j e
  table_entry j e at =
      let entry = λ (e : ℕ × Interface). option_map (λ (name : List ℕ). let r : List ℕ × ℕ = (name, remapped_interface a e.0) in r) e.1.name in
      let taken = selected_with_index (own_interface a) a.unresolved.interfaces in
      let from = filter_map-place entry taken j e at in
      let is = selected_with_index-from (own_interface a) a.unresolved.interfaces from.0 from.1 from.2 in
      let parts = entry_parts from.1.1.name (remapped_interface a from.1.0) e from.3 in
      record {
        f = from.1.0;
        interface = from.1.1;
        there = is.0;
        own = is.1;
        name = parts.0;
        place = parts.1;
        at = from.4 ∙ ap (λ (k : ℕ). length (filter_map entry (take k taken))) is.2;
      }

  -- an own interface stands behind the foreign ones
  behind_foreign : (f : ℕ) → own_interface a f ≡ true → length (foreign_interfaces a.unresolved.foreign_deps) ≤ f
  behind_foreign f own = ltb-false f (length (foreign_interfaces a.unresolved.foreign_deps)) (own_part (is_foreign_interface a.unresolved f) (interface_is_active a.features a.unresolved f) own).0

  pub distinct_interfaces : HasDistinctKeys (new_package a).interfaces
  distinct_interfaces i j e d first second same =
      let one = table_entry i e first in
      let two = table_entry j d second in
      let count = length (foreign_interfaces a.unresolved.foreign_deps) in
      let low = behind_foreign one.f one.own in
      let low_too = behind_foreign two.f two.own in
      let rest = drop count a.unresolved.interfaces in
      let equal : one.f - count ≡ two.f - count = named_once (λ (x : Interface). x.name) rest shaped.names.interfaces_differ (one.f - count) (two.f - count) one.interface two.interface e.0
      (at_drop a.unresolved.interfaces count (one.f - count) one.f one.interface (omega arith) one.there)
      (at_drop a.unresolved.interfaces count (two.f - count) two.f two.interface (omega arith) two.there) one.name (two.name ∙ ap Some (sym same)) in
      let f : one.f ≡ two.f = omega arith in
      one.at
      ∙ ap (λ (f : ℕ). length (filter_map (λ (e : ℕ × Interface). option_map (λ (name : List ℕ). let r : List ℕ × ℕ = (name, remapped_interface a e.0) in r) e.1.name) (take (rank (own_interface a) f) (selected_with_index (own_interface a) a.unresolved.interfaces)))) f
      ∙ sym two.at
