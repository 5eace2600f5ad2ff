-- Facts on relations in which each node uses earlier ones, for the proofs of the crates above. They say
-- nothing about this crate's code.
use Rattle.std.proofs.Common.{◌≡◌, ℕ, ◌<◌, List, [], ◌∷◌, inl, inr, length, get_or, slice_get, Some, ap, arith, All}
use Rattle.std.proofs.lemmas.Bool.{cases_lt}
use Rattle.std.proofs.lemmas.List.{get_or_past}
use Rattle.std.proofs.lemmas.List.Elements.{All-contains, All-weaker}
use Rattle.std.proofs.lemmas.Option.{slice_get-get_or}
use Rattle.wit_digraph.specs.Relation.{direct, IsPath, IsAcyclic}

-- each use in a row is of an earlier node
abbrev pub UsesEarlier : List (List ℕ) → Type 0
UsesEarlier rows =
    (i : ℕ) (row : List ℕ) → slice_get rows i ≡ Some row → (k j : ℕ) → slice_get row k ≡ Some j
    → j < i

module _ (rows : List (List ℕ)) (earlier : UsesEarlier rows) where
  earlier_uses : (i : ℕ) → All (λ j. (j < i) × (j < length rows)) (direct rows i)
  earlier_uses i k d below =
      elim (cases_lt i (length rows)) [
        | inl there ↦ let first : get_or (direct rows i) k d < i = earlier i (direct rows i) (slice_get-get_or rows i [] there) k (get_or (direct rows i) k d) (slice_get-get_or (direct rows i) k d below) in
            (first, omega (arith, first, there))
        | inr past ↦ absurd (none_past (get_or_past rows i [] past) below)
      ]
    where
      none_past : direct rows i ≡ [] → k < length (direct rows i) → ⊥
      none_past none inside = let short : length (direct rows i) ≡ 0 = ap length none in omega (arith, short, inside)

  goes_down : (i k : ℕ) (path : List ℕ) (j : ℕ) → IsPath rows i (k ∷ path) j → j < i
  goes_down i k [] j leads = let first = All-contains (λ x. (x < i) × (x < length rows)) (direct rows i) k (earlier_uses i) leads.0 in omega (arith, first.0, leads.1)
  goes_down i k (l ∷ path) j leads =
      let first = All-contains (λ x. (x < i) × (x < length rows)) (direct rows i) k (earlier_uses i) leads.0 in
      omega (arith, first.0, goes_down k l path j leads.1)

  -- where each node uses earlier ones, none uses itself
  pub IsAcyclic-earlier : IsAcyclic rows
  IsAcyclic-earlier = record {
    in_range = λ i. All-weaker (λ j. (j < i) × (j < length rows)) (λ j. j < length rows) (λ j both. both.1) (direct rows i) (earlier_uses i);
    no_cycle = λ i k path leads. omega (arith, goes_down i k path i leads);
  }
