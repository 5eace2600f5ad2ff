-- The faults of the examples are the first ones, and those of the near misses aren't.
use Rattle.std.proofs.Common.{◌≡◌, ℕ, zero, suc, ◌<◌, List, [], ◌∷◌, None, Some, slice_get, get_or, refl, subst, lit<, arith}
use Rattle.std.specs.Fmt.{digits}
use Rattle.wit_digraph.specs.facts.EarlierFacts.{IsAcyclic-earlier}
use Rattle.wit_digraph.specs.Relation.{IsAcyclic}
use Rattle.wit_data.specs.Each.{Each, SomeAt}
use Rattle.wit_data.specs.facts.EachFacts.{EachAt-one, EachAt-two}
use Rattle.wit_data.specs.declared.interface.Interface.{Interface}
use Rattle.wit_data.specs.declared.unresolved.UnresolvedPackage.{UnresolvedPackage}
use Rattle.wit_values.specs.facts.Lists.{differ}
use Rattle.wit_shape.proofs.Clauses.{keeps_before, keeps_below, less_before, number}
use Rattle.wit_shape.proofs.OneFault.{not_shaped}
use Rattle.wit_shape.specs.Faults.{Holds, KeepsBefore, among_first, clauses}
use Rattle.wit_shape.specs.declared.clause.ShapeClause.{ShapeClause}
use Rattle.wit_shape.specs.declared.clause.ShapeClause.TheVariants as clause
use Rattle.examples_resolve.proofs.OfGraphs.Shaped.{is_shaped}
use Rattle.examples_resolve.specs.graph.Faults.{ExamplesOfFaults, NearMissesOfFaults, placed, placed_i, placed_x, round, with_placed_w, without_span, x}
use Rattle.examples_resolve.specs.graph.Shape.{foreign_i, shaped_package}

-- what stands before the first clauses
none_before : (p : UnresolvedPackage) → KeepsBefore p clause.UnplacedInterfaces
none_before p = keeps_before p clause.UnplacedInterfaces none
  where
    none : (other : ShapeClause) → number other < 0 → Holds p other
    none other less = absurd (omega arith)

one_before : (p : UnresolvedPackage) → Holds p clause.UnplacedInterfaces → KeepsBefore p clause.UnplacedWorlds
one_before p first = keeps_before p clause.UnplacedWorlds (keeps_below p 1 each)
  where
    each : (i : ℕ) → i < 1 → Holds p (get_or clauses i clause.Uses)
    each zero less = first
    each (suc i) less = absurd (omega arith)

two_before : (p : UnresolvedPackage) → Holds p clause.UnplacedInterfaces → Holds p clause.UnplacedWorlds → KeepsBefore p clause.ForeignSpans
two_before p first second = keeps_before p clause.ForeignSpans (keeps_below p 2 each)
  where
    each : (i : ℕ) → i < 2 → Holds p (get_or clauses i clause.Uses)
    each zero less = first
    each (suc zero) less = second
    each (suc (suc i)) less = absurd (omega arith)

-- the first two nodes lead nowhere back
before_last : IsAcyclic (among_first round 2)
before_last = IsAcyclic-earlier (among_first round 2) (EachAt-two (λ i (row : List ℕ). (k j : ℕ) → slice_get row k ≡ Some j → j < i) _ _ (λ k j at. cc) (EachAt-one (λ _ j. j < 1) _ (lit< tt)))

-- no interface before the second says to which package it belongs
earlier_alone : (j : ℕ) (y : Interface) → j < 1 → slice_get (foreign_i ∷ placed_x ∷ []) j ≡ Some y → y.package ≡ None
earlier_alone zero y less at = let same : foreign_i ≡ y = cc in subst (λ (i : Interface). i.package ≡ None) same refl
earlier_alone (suc j) y less at = absurd (omega arith)

unplaced : Each (λ (i : Interface). i.package ≡ None) shaped_package.interfaces
unplaced = is_shaped.unplaced.interfaces

pub examples : ExamplesOfFaults
unfolding digits
examples = record {
  first_interface = record { before = none_before (placed (placed_i ∷ x ∷ [])); breaks = (0, (record { lacks = λ same. cc; earlier = λ j y less at. absurd (omega (arith, less)) }, refl)) };
  second_interface = record { before = none_before (placed (foreign_i ∷ placed_x ∷ [])); breaks = (1, (record { lacks = λ same. cc; earlier = earlier_alone }, refl)) };
  first_of_two = record { before = none_before (placed (placed_i ∷ placed_x ∷ [])); breaks = (0, (record { lacks = λ same. cc; earlier = λ j y less at. absurd (omega (arith, less)) }, refl)) };
  world = record { before = one_before with_placed_w unplaced; breaks = (0, (record { lacks = λ same. cc; earlier = λ j y less at. absurd (omega (arith, less)) }, refl)) };
  no_span = record { before = two_before without_span unplaced is_shaped.unplaced.worlds; breaks = (λ same. absurd (omega (arith, same)), refl) };
  closes = record { there = lit< tt; before = before_last; closes = λ is. is.no_cycle 1 2 (1 ∷ []) ((1, lit< tt, refl), ((0, lit< tt, refl), refl)) };
  first_clause = refl;
  last_clause = refl;
  count = refl;
  in_order = (1, 2, (lit< tt, refl, refl));
  text = refl;
}

pub near_misses : NearMissesOfFaults
unfolding digits
near_misses = record {
  none = λ f first. not_shaped shaped_package f first is_shaped;
  second_of_two = λ is.
      let same : 1 ≡ is.breaks.0 = cc in
      let less : 0 < is.breaks.0 = omega arith in
      let none = is.breaks.1.0.earlier 0 placed_i less refl in cc;
  other_interface = λ is.
      let same : is.breaks.0 ≡ 0 = cc in
      (subst (λ (i : ℕ). SomeAt (foreign_i ∷ placed_x ∷ []) i (λ (y : Interface). y.package ≡ None → ⊥)) same is.breaks.1.0.lacks) refl;
  other_list = λ is. let same = is.breaks.1.1 in cc;
  kept = λ is. is.breaks.0 refl;
  later_clause = λ is. let none = is.before clause.UnplacedInterfaces (0, 1, (lit< tt, refl, refl)) 0 placed_i refl in cc;
  out_of_order = λ before. let less : 2 < 1 = less_before clause.ForeignSpans clause.UnplacedWorlds before in absurd (omega (arith, less));
  itself = λ before. let less : 31 < 31 = less_before clause.Uses clause.Uses before in absurd (omega (arith, less));
  not_shaped = λ shape. let none = shape.unplaced.interfaces 0 placed_i refl in cc;
  not_yet = λ is. is.closes before_last;
  not_from_one = differ _ _ refl;
}
