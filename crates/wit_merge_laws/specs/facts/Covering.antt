-- Where each of so many things has a place of its own below their number, each place below it has a thing.
use Rattle.std.proofs.Common.{◌≡◌, ◌∙◌, inl, inr, ℕ, ◌<◌, zero, suc, false, List, [], ◌∷◌, length, nat_eq, Some, slice_get, refl, sym, ap, subst, arith, Contains}
use Rattle.std.specs.List.{AllByRecursion, IsDistinct}
use Rattle.std.proofs.lemmas.Bool.{cases_Bool, eqb-true}
use Rattle.wit_digraph.specs.facts.MemberFacts.{Contains-here, Contains-there}
use Rattle.wit_graph_theory.specs.facts.ListFacts.{contained_at, place_of}
use Rattle.wit_link_spec.specs.facts.ClosedCut.{member_of_first}

-- numbers at places of their own are distinct
distinct_places : (ps : List ℕ) → ((k l p : ℕ) → slice_get ps k ≡ Some p → slice_get ps l ≡ Some p → k ≡ l) → IsDistinct nat_eq ps
unfolding IsDistinct
distinct_places [] once = tt
distinct_places (p ∷ ps) once = (apart ps (λ y has. y_apart y (place_of ps y has)), distinct_places ps (λ k l q first second. let same = once (suc k) (suc l) q first second in omega (arith, same)))
  where
    y_apart : (y : ℕ) → (k : ℕ) × (slice_get ps k ≡ Some y) → nat_eq p y ≡ false
    y_apart y (k, at) = elim (cases_Bool (nat_eq p y)) [
      | inl same ↦ let never = once 0 (suc k) p refl (at ∙ ap (λ (x : ℕ). Some x) (sym (eqb-true p y same))) in absurd (omega (arith, never))
      | inr other ↦ other
    ]

    apart : (qs : List ℕ) → ((y : ℕ) → Contains qs y → nat_eq p y ≡ false) → AllByRecursion (λ y. nat_eq p y ≡ false) qs
    apart [] each = tt
    apart (q ∷ qs) each = (each q (Contains-here q qs), apart qs (λ y has. each y (Contains-there q y qs has)))

module _ {X : Type 0} (R : X → ℕ → Type 0) where
  -- the places of some things, in their order
  record HasPlaces (xs : List X) : Type 0 where
    ps : List ℕ
    long : length ps ≡ length xs
    each : (k p : ℕ) → slice_get ps k ≡ Some p → (x : X) × (slice_get xs k ≡ Some x) × R x p

  places : (xs : List X) → ((x : X) → Contains xs x → (p : ℕ) × R x p) → HasPlaces xs
  places [] all = record { ps = []; long = refl; each = λ k p at. cc }
  places (x ∷ xs) all =
      let here = all x (Contains-here x xs) in
      let rest = places xs (λ y has. all y (Contains-there x y xs has)) in
      record { ps = here.0 ∷ rest.ps; long = ap suc rest.long; each = each here.0 here.1 rest.ps rest.each }
    where
      each : (first : ℕ) → R x first → (ps : List ℕ) → ((k p : ℕ) → slice_get ps k ≡ Some p → (y : X) × (slice_get xs k ≡ Some y) × R y p) → (k p : ℕ) → slice_get (first ∷ ps) k ≡ Some p → (y : X) × (slice_get (x ∷ xs) k ≡ Some y) × R y p
      each first is ps more zero p at = let same : first ≡ p = cc in (x, refl, subst (R x) same is)
      each first is ps more (suc k) p at = more k p at

  pub covers : (xs : List X) → ((x : X) → Contains xs x → (p : ℕ) × R x p) → ((x : X) (p : ℕ) → R x p → p < length xs) → ((k l : ℕ) (x y : X) (p : ℕ) → slice_get xs k ≡ Some x → slice_get xs l ≡ Some y → R x p → R y p → k ≡ l)
      → (p : ℕ) → p < length xs → (x : X) × Contains xs x × R x p
  covers xs all below once p within =
      let are = places xs all in
      let long = are.long in
      let has = member_of_first are.ps (length are.ps) p (record {
        once = distinct_places are.ps (λ k l q first second.
            let a = are.each k q first in
            let b = are.each l q second in
            once k l a.0 b.0 q a.1 b.1 a.2 b.2);
        first = λ k q at.
            let from = are.each k q at in
            let bound = below from.0 q from.2 in
            omega (arith, bound, long);
        there = omega arith;
      }) (omega (arith, within, long)) in
      let place = place_of are.ps p has in
      let from = are.each place.0 p place.1 in
      (from.0, contained_at xs place.0 from.0 from.1, from.2)
