-- Tests that compute, of lists and rows that are written out: what is known of what passes. The crates of examples use
-- them, and what tells things apart.
use Rattle.std.proofs.Common.{◌≡◌, ◌∙◌, ◌⊎◌, ℕ, zero, suc, ◌<◌, ◌≤◌, Bool, true, false, ◌&&◌, List, [], ◌∷◌, Option, Some, None, slice_get, sym, ap, subst, inl, inr, arith, Contains, nat_lt, if◌then◌else◌}
use Rattle.std.proofs.lemmas.Bool.{and_parts, false≢true, ltb-true}
use Rattle.std.specs.List.{list_all}
use Rattle.std.specs.Option.{option_map_or}
use Rattle.wit_digraph.specs.Cycles.{IsOnCycle}
use Rattle.wit_digraph.specs.facts.MemberFacts.{Contains-cons_cases, Contains-nil}
use Rattle.wit_digraph.specs.Relation.{IsPath, direct}
use Rattle.wit_data.specs.declared.stability.Stability.{Stability}
use Rattle.wit_data.specs.declared.stability.Stability.TheVariants.{Unknown, Stable, Unstable}

-- where a holds, b does
abbrev pub implies : Bool → Bool → Bool
implies a b = if a then b else true

pub implied : (a b : Bool) → implies a b ≡ true → a ≡ true → b ≡ true
implied true b h on = h
implied false b h on = absurd (false≢true on)

-- a test that can't be passed
pub not_passed : {b : Bool} → b ≡ false → b ≡ true → ⊥
not_passed off on = false≢true (sym off ∙ on)

abbrev pub is_empty : {X : Type 0} → List X → Bool
is_empty [] = true
is_empty (x ∷ xs) = false

-- ---- lists

module _ {X : Type 0} where
  pub none_some : (x : X) → None ≡ Some x → ⊥
  none_some x same = cc

  pub none_in : (x : X) → Contains [] x → ⊥
  none_in x inside = absurd (omega (arith, inside.1))

  pub only_one : (first x : X) → Contains (first ∷ []) x → first ≡ x
  only_one first x (zero, below, is) = is
  only_one first x (suc k, below, is) = absurd (omega (arith, below))

  pub one_of_two : (first second x : X) → Contains (first ∷ second ∷ []) x → (first ≡ x) ⊎ (second ≡ x)
  one_of_two first second x (zero, below, is) = inl is
  one_of_two first second x (suc zero, below, is) = inr is
  one_of_two first second x (suc (suc k), below, is) = absurd (omega (arith, below))

  pub nothing_in : (xs : List X) (x : X) → is_empty xs ≡ true → Contains xs x → ⊥
  nothing_in [] x empty inside = Contains-nil inside
  nothing_in (y ∷ ys) x empty inside = false≢true empty

  -- what passes for all passes for each
  pub all_are : (test : X → Bool) (xs : List X) → list_all test xs ≡ true → (x : X) → Contains xs x → test x ≡ true
  all_are test [] all x inside = absurd (Contains-nil inside)
  all_are test (y ∷ ys) all x inside =
      let parts = and_parts (test y) (list_all test ys) all in
      elim (Contains-cons_cases y x ys inside) [
        | inl same ↦ subst (λ (z : X). test z ≡ true) same parts.0
        | inr there ↦ all_are test ys parts.1 x there
      ]

  -- does each element pass at its place?
  abbrev pub all_at : (ℕ → X → Bool) → List X → Bool
  all_at test [] = true
  all_at test (x ∷ xs) = test 0 x && all_at (λ (i : ℕ). test (suc i)) xs

  pub at_are : (test : ℕ → X → Bool) (xs : List X) → all_at test xs ≡ true → (i : ℕ) (x : X) → slice_get xs i ≡ Some x → test i x ≡ true
  at_are test [] all i x at = cc
  at_are test (y ∷ ys) all zero x at =
      let same : y ≡ x = cc in
      subst (λ (z : X). test 0 z ≡ true) same (and_parts (test 0 y) (all_at (λ (i : ℕ). test (suc i)) ys) all).0
  at_are test (y ∷ ys) all (suc i) x at = at_are (λ (i : ℕ). test (suc i)) ys (and_parts (test 0 y) (all_at (λ (i : ℕ). test (suc i)) ys) all).1 i x at

  -- what is there passes
  pub some_passes : (test : X → Bool) (off : Bool) (o : Option X) (x : X) → o ≡ Some x → option_map_or test o off ≡ true → test x ≡ true
  some_passes test off None x is passes = cc
  some_passes test off (Some y) x is passes = let same : y ≡ x = cc in subst (λ (z : X). test z ≡ true) same passes

-- ---- rows

-- does each use of a row pass with its user?
abbrev pub all_uses : (ℕ → ℕ → Bool) → List (List ℕ) → Bool
all_uses test [] = true
all_uses test (row ∷ rows) = list_all (test 0) row && all_uses (λ (i : ℕ). test (suc i)) rows

use_passes : (test : ℕ → ℕ → Bool) (rows : List (List ℕ)) → all_uses test rows ≡ true → (i j : ℕ) → Contains (direct rows i) j → test i j ≡ true
use_passes test [] all i j has = absurd (omega (arith, has.1))
use_passes test (row ∷ rows) all zero j has = all_are (test 0) row (and_parts (list_all (test 0) row) (all_uses (λ (i : ℕ). test (suc i)) rows) all).0 j has
use_passes test (row ∷ rows) all (suc i) j has = use_passes (λ (i : ℕ). test (suc i)) rows (and_parts (list_all (test 0) row) (all_uses (λ (i : ℕ). test (suc i)) rows) all).1 i j has

-- where uses fall by a rank nothing is on a cycle
abbrev pub falls : (ℕ → ℕ) → ℕ → ℕ → Bool
falls rank i j = nat_lt (rank j) (rank i)

module _ (rank : ℕ → ℕ) (rows : List (List ℕ)) (fall : all_uses (falls rank) rows ≡ true) where
  down : (i j : ℕ) → Contains (direct rows i) j → rank j < rank i
  down i j has = ltb-true (rank j) (rank i) (use_passes (falls rank) rows fall i j has)

  along : (i : ℕ) (path : List ℕ) (j : ℕ) → IsPath rows i path j → rank j ≤ rank i
  along i [] j same = let ranks : rank i ≡ rank j = ap rank same in omega (arith, ranks)
  along i (k ∷ path) j leads = let first = down i k leads.0 in let rest = along k path j leads.1 in omega (arith, first, rest)

  pub no_cycle : (i j : ℕ) → IsOnCycle rows i j → ⊥
  no_cycle i j cycle = let first = down i j cycle.is_used in let back = along j cycle.leads_back.0 i cycle.leads_back.1 in omega (arith, first, back)

-- what no row has isn't reached but from itself
abbrev pub avoids : ℕ → ℕ → ℕ → Bool
avoids k i j = nat_lt j k

module _ (k : ℕ) (rows : List (List ℕ)) (all : all_uses (avoids k) rows ≡ true) where
  below : (i j : ℕ) → Contains (direct rows i) j → j < k
  below i j has = ltb-true j k (use_passes (avoids k) rows all i j has)

  ends : (i : ℕ) (path : List ℕ) (j : ℕ) → i < k → IsPath rows i path j → j < k
  ends i [] j within same = omega (arith, within, same)
  ends i (x ∷ path) j within leads = ends x path j (below i x leads.0) leads.1

  -- so the last node is on no cycle
  pub not_on_cycle : (j : ℕ) → IsOnCycle rows k j → ⊥
  not_on_cycle j cycle = let back = ends j cycle.leads_back.0 k (below k j cycle.is_used) cycle.leads_back.1 in omega (arith, back)

-- ---- what tells things apart

-- the feature that a note asks for
abbrev pub feature_of : Stability → List ℕ
feature_of Unknown = []
feature_of (Stable since deprecated) = []
feature_of (Unstable feature deprecated) = feature
