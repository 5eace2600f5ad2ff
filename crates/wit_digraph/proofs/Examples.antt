-- The worked rows.
use Rattle.std.proofs.Common.{ℕ, ◌<◌, ◌≤◌, zero, suc, List, [], ◌∷◌, refl, arith, lit<, inl, inr, Contains, All}
use Rattle.std.proofs.lemmas.List.Elements.{All-from_recursion, All-contains, All-nil}
use Rattle.wit_digraph.specs.facts.MemberFacts.{Contains-nil, Contains-here, Contains-there, Contains-cons_cases}
use Rattle.wit_digraph.specs.Relation.{direct, IsPath, IsInRange}
use Rattle.wit_digraph.specs.PostOrder.{post_order_within, post_order}
use Rattle.wit_digraph.specs.examples.Examples.{stairs, ring, ExamplesOfPaths, ExamplesOfCycles, ExamplesOfPostOrders}

-- where each node uses lower ones alone, paths go down
descends : (uses : List (List ℕ)) → ((i : ℕ) → All (λ j. j < i) (direct uses i)) → (i : ℕ) (path : List ℕ) (j : ℕ) → IsPath uses i path j → j ≤ i
descends uses lower i [] j same = omega (arith, same)
descends uses lower i (k ∷ path) j leads =
    omega (arith, All-contains (λ m. m < i) (direct uses i) k (lower i) leads.0, descends uses lower k path j leads.1)

stairs_lower : (i : ℕ) → All (λ j. j < i) (direct stairs i)
stairs_lower zero = All-nil (λ j. j < 0)
stairs_lower (suc zero) = All-from_recursion (λ j. j < 1) (0 ∷ []) (lit< tt, tt)
stairs_lower (suc (suc zero)) = All-from_recursion (λ j. j < 2) (0 ∷ 1 ∷ []) (lit< tt, (lit< tt, tt))
stairs_lower (suc (suc (suc i))) = All-nil (λ j. j < suc (suc (suc i)))

stairs_in_range : IsInRange stairs
stairs_in_range zero = All-nil (λ j. j < 3)
stairs_in_range (suc zero) = All-from_recursion (λ j. j < 3) (0 ∷ []) (lit< tt, tt)
stairs_in_range (suc (suc zero)) = All-from_recursion (λ j. j < 3) (0 ∷ 1 ∷ []) (lit< tt, (lit< tt, tt))
stairs_in_range (suc (suc (suc i))) = All-nil (λ j. j < 3)

-- in the ring no use is of node 3 or above
ring_below : (i : ℕ) → All (λ j. j < 3) (direct ring i)
ring_below zero = All-from_recursion (λ j. j < 3) (2 ∷ []) (lit< tt, tt)
ring_below (suc zero) = All-from_recursion (λ j. j < 3) (0 ∷ []) (lit< tt, tt)
ring_below (suc (suc zero)) = All-from_recursion (λ j. j < 3) (0 ∷ 1 ∷ []) (lit< tt, (lit< tt, tt))
ring_below (suc (suc (suc zero))) = All-from_recursion (λ j. j < 3) (0 ∷ []) (lit< tt, tt)
ring_below (suc (suc (suc (suc i)))) = All-nil (λ j. j < 3)

stays_below : (i : ℕ) (path : List ℕ) (j : ℕ) → i < 3 → IsPath ring i path j → j < 3
stays_below i [] j below same = omega (arith, same)
stays_below i (k ∷ path) j below leads = stays_below k path j (All-contains (λ m. m < 3) (direct ring i) k (ring_below i) leads.0) leads.1

pub paths : ExamplesOfPaths
paths = record {
  down = (0 ∷ [], (Contains-here 0 (1 ∷ []), refl));
  itself = ([], refl);
  not_up = λ up. absurd (omega (arith, descends stairs stairs_lower 0 up.0 2 up.1));
  not_past = λ past. absurd (omega (arith, descends stairs stairs_lower 0 past.0 3 past.1));
}

pub cycles : ExamplesOfCycles
cycles = record {
  none = record {
    in_range = stairs_in_range;
    no_cycle = λ i k path round. omega (arith, All-contains (λ m. m < i) (direct stairs i) k (stairs_lower i) round.0, descends stairs stairs_lower k path i round.1);
  };
  some = λ acyclic. acyclic.no_cycle 0 2 (0 ∷ []) (Contains-here 2 [], (Contains-here 0 (1 ∷ []), refl));
  own_use = λ acyclic. acyclic.no_cycle 0 0 [] (Contains-here 0 [], refl);
  no_such_node = λ acyclic. absurd (omega (arith, acyclic.in_range 0 0 0 (lit< tt)));
  on_it = record {
    is_used = Contains-there 0 1 (1 ∷ []) (Contains-here 1 []);
    leads_back = (0 ∷ 2 ∷ [], (Contains-here 0 [], (Contains-here 2 [], refl)));
  };
  leads_to_it = λ on. absurd (omega (arith, stays_below 0 on.leads_back.0 3 (lit< tt) on.leads_back.1));
  no_use = λ on. elim (Contains-cons_cases 2 1 [] on.is_used) [ inl same ↦ (cc) | inr none ↦ Contains-nil none ];
}

pub post_orders : ExamplesOfPostOrders
unfolding post_order_within post_order
post_orders = record {
  with_repeats = refl;
  once = refl;
  uses_first = (
    All-nil (Contains []),
    (
      All-from_recursion (Contains (0 ∷ [])) (0 ∷ []) (Contains-here 0 [], tt),
      (
        All-from_recursion (Contains (0 ∷ 1 ∷ [])) (0 ∷ 1 ∷ []) (Contains-here 0 (1 ∷ []), (Contains-there 0 1 (1 ∷ []) (Contains-here 1 []), tt)),
        tt,
      ),
    ),
  );
  user_first = λ is. Contains-nil (is.0 0 0 (lit< tt));
  use_left_out = λ is. elim (Contains-cons_cases 0 1 [] (is.1.0 1 0 (lit< tt))) [ inl same ↦ (cc) | inr none ↦ Contains-nil none ];
}
