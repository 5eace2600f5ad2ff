-- Keys of lists that are joined end to end, and what stands before a place.
use Rattle.std.proofs.Common.{◌≡◌, inl, inr, ℕ, zero, suc, ◌<◌, List, [], ◌∷◌, ◌++◌, take, Some, slice_get, sym, subst, arith, Contains}
use Rattle.wit_digraph.specs.facts.MemberFacts.{Contains-here, Contains-there}
use Rattle.wit_values.specs.Table.{HasDistinctKeys}
use Rattle.wit_graph_theory.specs.facts.ListFacts.{contained_at, old_or_new}

module _ {K V : Type 0} where
  -- two lists without a key of both
  pub joined_apart : (es fs : List (K × V)) → HasDistinctKeys es → HasDistinctKeys fs → ((e f : K × V) → Contains es e → Contains fs f → e.0 ≡ f.0 → ⊥) → HasDistinctKeys (es ++ fs)
  joined_apart es fs first second apart i j e f at at' same =
      elim (old_or_new es fs i e at) [
        | inl old ↦ elim (old_or_new es fs j f at') [
          | inl other ↦ first i j e f old other same
          | inr behind ↦ absurd (apart e f (contained_at es i e old) (contained_at fs behind.0 f behind.2) same)
        ]
        | inr behind ↦ elim (old_or_new es fs j f at') [
          | inl other ↦ absurd (apart f e (contained_at es j f other) (contained_at fs behind.0 e behind.2) (sym same))
          | inr other ↦
              let one : behind.0 ≡ other.0 = second behind.0 other.0 e f behind.2 other.2 same in
              let a = behind.1 in
              let b = other.1 in
              omega arith
        ]
      ]

-- what stands at a place is among what stands before a later one
pub taken : {X : Type 0} (xs : List X) (i j : ℕ) (x : X) → i < j → slice_get xs i ≡ Some x → Contains (take j xs) x
taken xs i zero x below at = absurd (omega (arith, below))
taken [] i (suc j) x below at = cc
taken (z ∷ zs) zero (suc j) x below at = let same : z ≡ x = cc in subst (Contains (z ∷ take j zs)) same (Contains-here z (take j zs))
taken (z ∷ zs) (suc i) (suc j) x below at = Contains-there z x (take j zs) (taken zs i j x (omega arith) at)
