-- Searches in the order of a walk: what they have found so far.
use Rattle.std.proofs.Common.{◌≡◌, ℕ, zero, suc, ◌+◌, ◌<◌, ◌≤◌, ◌⊎◌, inl, inr, List, [], ◌∷◌, ◌++◌, take, get_or, length, Some, slice_get, append_assoc, refl, sym, subst, arith, Contains}
use Rattle.std.proofs.lemmas.List.{append-nil, take_more, take_all}
use Rattle.std.proofs.lemmas.List.Elements.{Contains-append_cases, Contains-append_left, Contains-append_right, All-contains}
use Rattle.wit_values.specs.facts.Lists.{take-next_at}
use Rattle.wit_digraph.specs.facts.FreshFacts.{fresh_in, fresh_all}
use Rattle.wit_digraph.specs.facts.MemberFacts.{Contains-nil, Contains-here, Contains-there, Contains-cons_cases}
use Rattle.wit_digraph.specs.Relation.{direct, IsPath}
use Rattle.wit_digraph.specs.PostOrder.{fresh}
use Rattle.wit_digraph.specs.steps.PostOrder.{UsesFirst}
use Rattle.wit_elaboration.specs.steps.Elaborating.{ReachesOneOf, AreMarked, AreOutside, HasMarkedUse}

-- what stands at a place is a member
pub contains_at : {X : Type 0} (xs : List X) (i : ℕ) (x : X) → slice_get xs i ≡ Some x → Contains xs x
contains_at [] i x at = cc
contains_at (z ∷ zs) zero x at = let same : z ≡ x = cc in subst (λ y. Contains (z ∷ zs) y) same (Contains-here z zs)
contains_at (z ∷ zs) (suc i) x at = Contains-there z x zs (contains_at zs i x at)

-- of none so far it is so, nor of one more
pub none_next : {X : Type 0} (P : X → Type 0) (xs : List X) (i : ℕ) (x : X) → slice_get xs i ≡ Some x → ((y : X) → Contains (take i xs) y → P y → ⊥) → (P x → ⊥) → (y : X) → Contains (take (i + 1) xs) y → P y → ⊥
none_next P xs i x at none not_here y has holds =
    elim (Contains-append_cases (take i xs) (x ∷ []) y (subst (λ ys. Contains ys y) (take-next_at xs i x at) has)) [
      | inl before ↦ none y before holds
      | inr last ↦ elim (Contains-cons_cases x y [] last) [ inl same ↦ not_here (subst P (sym same) holds) | inr nothing ↦ Contains-nil nothing ]
    ]

pub none_more : (P : ℕ → Type 0) (xs : List ℕ) (i : ℕ) → i < length xs → ((y : ℕ) → Contains (take i xs) y → P y → ⊥) → (P (get_or xs i 0) → ⊥) → (y : ℕ) → Contains (take (i + 1) xs) y → P y → ⊥
none_more P xs i below none not_here y has holds =
    elim (Contains-append_cases (take i xs) (get_or xs i 0 ∷ []) y (subst (λ ys. Contains ys y) (take_more xs i 0 below) has)) [
      | inl before ↦ none y before holds
      | inr last ↦ elim (Contains-cons_cases (get_or xs i 0) y [] last) [ inl same ↦ not_here (subst P (sym same) holds) | inr nothing ↦ Contains-nil nothing ]
    ]

pub none_all : {X : Type 0} (P : X → Type 0) (xs : List X) (i : ℕ) → length xs ≤ i → ((y : X) → Contains (take i xs) y → P y → ⊥) → (y : X) → Contains xs y → P y → ⊥
none_all P xs i all none y has = none y (subst (λ ys. Contains ys y) (sym (take_all i xs all)) has)

-- each member's uses stand before it
pub UsesFirst-at : (uses : List (List ℕ)) (xs : List ℕ) (at : ℕ) (seen : List ℕ) → UsesFirst uses seen xs → at < length xs → (j : ℕ) → Contains (direct uses (get_or xs at 0)) j → Contains (seen ++ take at xs) j
UsesFirst-at uses [] at seen first below j among = absurd (omega (arith, below))
UsesFirst-at uses (x ∷ xs) zero seen first below j among = rw append-nil (All-contains (Contains seen) (direct uses x) j first.0 among)
UsesFirst-at uses (x ∷ xs) (suc at) seen first below j among =
    rw (append_assoc seen (x ∷ []) (take at xs)) at (UsesFirst-at uses xs at (seen ++ x ∷ []) first.1 (omega (arith, below)) j among)

-- one more node of an order
last_or : (order : List ℕ) (at i : ℕ) → at < length order → Contains (take (at + 1) order) i → Contains (take at order) i ⊎ (get_or order at 0 ≡ i)
last_or order at i below has =
    elim (Contains-append_cases (take at order) (get_or order at 0 ∷ []) i (subst (λ xs. Contains xs i) (take_more order at 0 below) has))
    [ inl before ↦ inl before | inr last ↦ elim (Contains-cons_cases (get_or order at 0) i [] last) [ inl same ↦ inr same | inr none ↦ absurd (Contains-nil none) ] ]

added_or : (listed : List ℕ) (n i : ℕ) → Contains (listed ++ fresh listed (n ∷ [])) i → Contains listed i ⊎ (n ≡ i)
added_or listed n i has =
    elim (Contains-append_cases listed (fresh listed (n ∷ [])) i has)
    [ inl old ↦ inl old | inr new ↦ elim (Contains-cons_cases n i [] (fresh_in listed (n ∷ []) i new)) [ inl same ↦ inr same | inr none ↦ absurd (Contains-nil none) ] ]

module _ (uses : List (List ℕ)) (order targets : List ℕ) (first : UsesFirst uses [] order) (at : ℕ) (below : at < length order) where
  abbrev node : ℕ
  node = get_or order at 0

  -- a node that reaches a target is marked
  pub marked_more : (marked marked' : List ℕ) → AreMarked uses (take at order) targets marked → Contains targets node ⊎ HasMarkedUse uses marked node → marked' ≡ marked ++ fresh marked (node ∷ []) → AreMarked uses (take (at + 1) order) targets marked'
  marked_more marked marked' are reaches is = record {
    sound = λ i has. elim (added_or marked node i (subst (λ xs. Contains xs i) is has)) [ inl old ↦ are.sound i old | inr same ↦ subst (λ m. ReachesOneOf uses targets m) same (reached reaches) ];
    complete = λ i has target. subst (λ xs. Contains xs i) (sym is) (elim (last_or order at i below has) [
      | inl before ↦ Contains-append_left marked (fresh marked (node ∷ [])) i (are.complete i before target)
      | inr same ↦ subst (λ m. Contains (marked ++ fresh marked (node ∷ [])) m) same (fresh_all marked (node ∷ []) node (Contains-here node []))
    ]);
  }
    where
      reached : Contains targets node ⊎ HasMarkedUse uses marked node → ReachesOneOf uses targets node
      reached (inl target) = (node, ([], refl), target)
      reached (inr used) = let more = are.sound used.0 used.2 in (more.0, (used.0 ∷ more.1.0, (used.1, more.1.1)), more.2)

  -- any other is not
  pub marked_same : (marked marked' : List ℕ) → AreMarked uses (take at order) targets marked → (Contains targets node ⊎ HasMarkedUse uses marked node → ⊥) → marked' ≡ marked → AreMarked uses (take (at + 1) order) targets marked'
  marked_same marked marked' are lacks is = record {
    sound = λ i has. are.sound i (subst (λ xs. Contains xs i) is has);
    complete = λ i has target. subst (λ xs. Contains xs i) (sym is)
        (elim (last_or order at i below has) [ inl before ↦ are.complete i before target | inr same ↦ absurd (apart (subst (λ m. ReachesOneOf uses targets m) (sym same) target)) ]);
  }
    where
      along : (t : ℕ) (path : List ℕ) → IsPath uses node path t → Contains targets t → ⊥
      along t [] same target = lacks (inl (subst (λ m. Contains targets m) (sym same) target))
      along t (k ∷ path) leads target =
          lacks (inr (k, leads.0, are.complete k (UsesFirst-at uses order at [] first below k leads.0) (t, (path, leads.1), target)))

      apart : ReachesOneOf uses targets node → ⊥
      apart found = along found.0 found.1.0 found.1.1 found.2

module _ (order reaching exported : List ℕ) (at : ℕ) (below : at < length order) where
  abbrev there : ℕ
  there = get_or order at 0

  in_next : (i : ℕ) → Contains (take at order) i → Contains (take (at + 1) order) i
  in_next i has = rw (take_more order at 0 below) (Contains-append_left (take at order) (there ∷ []) i has)

  is_last : Contains (take (at + 1) order) there
  is_last = rw (take_more order at 0 below) (Contains-append_right (take at order) (there ∷ []) there (Contains-here there []))

  pub outside_more : (outside outside' : List ℕ) → AreOutside (take at order) reaching exported outside → Contains reaching there × (Contains exported there → ⊥) → outside' ≡ outside ++ fresh outside (there ∷ []) → AreOutside (take (at + 1) order) reaching exported outside'
  outside_more outside outside' are is_so is = record {
    sound = λ i has. elim (added_or outside there i (subst (λ xs. Contains xs i) is has)) [
      | inl old ↦ let part = are.sound i old in (in_next i part.0, part.1, part.2)
      | inr same ↦ (subst (λ m. Contains (take (at + 1) order) m) same is_last, subst (λ m. Contains reaching m) same is_so.0, λ has'. is_so.1 (subst (λ m. Contains exported m) (sym same) has'))
    ];
    complete = λ i has reach off. subst (λ xs. Contains xs i) (sym is) (elim (last_or order at i below has) [
      | inl before ↦ Contains-append_left outside (fresh outside (there ∷ [])) i (are.complete i before reach off)
      | inr same ↦ subst (λ m. Contains (outside ++ fresh outside (there ∷ [])) m) same (fresh_all outside (there ∷ []) there (Contains-here there []))
    ]);
  }

  pub outside_same : (outside outside' : List ℕ) → AreOutside (take at order) reaching exported outside → (Contains reaching there × (Contains exported there → ⊥) → ⊥) → outside' ≡ outside → AreOutside (take (at + 1) order) reaching exported outside'
  outside_same outside outside' are is_not is = record {
    sound = λ i has. let part = are.sound i (subst (λ xs. Contains xs i) is has) in (in_next i part.0, part.1, part.2);
    complete = λ i has reach off. subst (λ xs. Contains xs i) (sym is) (elim (last_or order at i below has) [
      | inl before ↦ are.complete i before reach off
      | inr same ↦ absurd (is_not (subst (λ m. Contains reaching m) (sym same) reach, λ has'. off (subst (λ m. Contains exported m) same has')))
    ]);
  }
