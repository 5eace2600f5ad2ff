-- Joins of rows, the columns of nodes, and the row of what a node reaches.
use Rattle.std.proofs.Common.{◌≡◌, ◌≢◌, ◌↔◌, ℕ, ◌/◌, ◌%◌, ◌<◌, ◌≤◌, ◌⊎◌, inl, inr, max, List, [], ◌∷◌, ◌++◌, get_or, set, replicate, bit_or, length, refl, sym, ap, subst, ◌∙◌, arith, Contains}
use Rattle.std.specs.Prelude.{EachIndex, slice_index}
use Rattle.std.specs.Int.{bit_at}
use Rattle.std.proofs.Math.Nat.{mod-eq_of_lt}
use Rattle.std.proofs.lemmas.Bool.{cases_lt, cases_eq}
use Rattle.std.proofs.lemmas.List.{get_or_past}
use Rattle.std.proofs.lemmas.Nat.Bits.{bit_at_or, bit_at-lt, bit_at-zero}
use Rattle.std.proofs.lemmas.List.Elements.{Contains-push, Contains-append_left, Contains-append_cases}
use Rattle.wit_digraph.specs.facts.MemberFacts.{Contains-nil, Contains-cons_cases}
use Rattle.wit_digraph.specs.Relation.{direct, IsPath, Reaches}
use Rattle.wit_digraph.specs.steps.Rows.{bit_of, HasBit}
use Rattle.wit_digraph.specs.facts.BitFacts.{bit_of-zero, no_bits}
use Rattle.wit_elaboration.specs.steps.Closures.{column, ReachesColumn, IsRowOf}

-- a row whose words are zeros up to its end
pub cleared : (row : List ℕ) → ((k : ℕ) → k < length row → get_or row k 0 ≡ 0) → (i : ℕ) → bit_of row i ≡ 0
cleared row zeros i = bit_of-zero row i (elim (cases_lt (i / 64) (length row)) [ inl below ↦ zeros (i / 64) below | inr above ↦ get_or_past row (i / 64) 0 above ])

-- the bits of a join
pub bit_of-join : (old from new : List ℕ) → length new ≡ length old → length old ≡ length from → EachIndex new (λ k. slice_index new k ≡ bit_or (slice_index old k) (slice_index from k)) →
    (i : ℕ) → bit_of new i ≡ max (bit_of old i) (bit_of from i)
bit_of-join old from new same wide joined i =
    elim (cases_lt (i / 64) (length new)) [
      | inl inside ↦ ap (λ word. bit_at word (i % 64)) (joined (i / 64) inside) ∙ bit_at_or (get_or old (i / 64) 0) (get_or from (i / 64) 0) (i % 64)
      | inr outside ↦
          let a : get_or new (i / 64) 0 ≡ 0 = get_or_past new (i / 64) 0 outside in
          let b : get_or old (i / 64) 0 ≡ 0 = get_or_past old (i / 64) 0 (omega arith) in
          let d : get_or from (i / 64) 0 ≡ 0 = get_or_past from (i / 64) 0 (omega arith) in
          let z : bit_at 0 (i % 64) ≡ 0 = bit_at-zero (i % 64) in
          rw (a, b, d, z) refl
    ]

-- ---- columns

pub column_is : (i : ℕ) → i % 1024 ≡ column i
unfolding column
column_is i = refl

-- where there are no more nodes than columns, each has its own
pub column_own : (i : ℕ) → i < 1024 → column i ≡ i
unfolding column
column_own i below = mod-eq_of_lt below

-- ---- the row of a node

-- i's column, and those of what is reached from the nodes done
pub record HasReached (uses : List (List ℕ)) (row : List ℕ) (i : ℕ) (done : List ℕ) : Type 0 where
  pub width : length row ≡ 16
  pub exact : (c : ℕ)
      → HasBit row c ↔ ((column i ≡ c) ⊎ ((u : ℕ) × Contains done u × ReachesColumn uses u c))

pub HasReached-start : (uses : List (List ℕ)) (row : List ℕ) (i : ℕ) → length row ≡ 16 → HasBit row (column i) → ((k : ℕ) → k ≢ column i → bit_of row k ≡ bit_of (replicate 16 0) k) →
    HasReached uses row i []
HasReached-start uses row i wide set others = record {
  width = wide;
  exact = λ c. (
    λ on. elim (cases_eq c (column i)) [
      | inl same ↦ inl (sym same)
      | inr apart ↦ let off : bit_of row c ≡ 0 = others c apart ∙ no_bits 16 c in absurd (omega (arith, on, off))
    ],
    λ reached. elim reached [ inl same ↦ subst (λ k. HasBit row k) same set | inr part ↦ absurd (Contains-nil part.1) ],
  );
}

pub HasReached-more : (uses : List (List ℕ)) (old from new : List ℕ) (i u : ℕ) (done : List ℕ) → HasReached uses old i done → IsRowOf uses from u → length new ≡ length old →
    EachIndex new (λ k. slice_index new k ≡ bit_or (slice_index old k) (slice_index from k)) → HasReached uses new i (done ++ u ∷ [])
HasReached-more uses old from new i u done is told wide joined = record {
  width = wide ∙ is.width;
  exact = λ c.
      let both = bit_of-join old from new wide (omega (arith, is.width, told.width)) joined c in
      let old_bit = bit_at-lt (get_or old (c / 64) 0) (c % 64) in
      let from_bit = bit_at-lt (get_or from (c / 64) 0) (c % 64) in (
        λ on. elim (cases_eq (bit_of old c) 1) [
          | inl had ↦ elim ((is.exact c).0 had) [ inl same ↦ inl same | inr part ↦ inr (part.0, Contains-append_left done (u ∷ []) part.0 part.1, part.2) ]
          | inr lacked ↦ let now : bit_of from c ≡ 1 = omega (arith, both, on, old_bit, from_bit, lacked) in inr (u, Contains-push done u, (told.exact c).0 now)
        ],
        λ reached. elim reached [
          | inl same ↦ let had = (is.exact c).1 (inl same) in omega (arith, both, had, from_bit)
          | inr part ↦ elim (Contains-append_cases done (u ∷ []) part.0 part.1) [
            | inl before ↦ let had = (is.exact c).1 (inr (part.0, before, part.2)) in omega (arith, both, had, from_bit)
            | inr last ↦ elim (Contains-cons_cases u part.0 [] last) [
              | inl same ↦ let had = (told.exact c).1 (subst (λ v. ReachesColumn uses v c) (sym same) part.2) in omega (arith, both, had, old_bit)
              | inr none ↦ absurd (Contains-nil none)
            ]
          ]
        ],
      );
}

reached_parts : (uses : List (List ℕ)) (i c j : ℕ) (path : List ℕ) → IsPath uses i path j → column j ≡ c → (column i ≡ c) ⊎ ((u : ℕ) × Contains (direct uses i) u × ReachesColumn uses u c)
reached_parts uses i c j [] leads is = inl (ap column leads ∙ is)
reached_parts uses i c j (k ∷ path) leads is = inr (k, leads.0, (j, (path, leads.1), is))

pub HasReached-end : (uses : List (List ℕ)) (row : List ℕ) (i : ℕ) → HasReached uses row i (direct uses i) → IsRowOf uses row i
HasReached-end uses row i is = record {
  width = is.width;
  exact = λ c. (
    λ on. elim ((is.exact c).0 on) [ inl same ↦ (i, ([], refl), same) | inr part ↦ (part.2.0, (part.0 ∷ part.2.1.0, (part.1, part.2.1.1)), part.2.2) ],
    λ reached. (is.exact c).1 (reached_parts uses i c reached.0 reached.1.0 reached.1.1 reached.2),
  );
}

-- ---- what a row answers

-- where a node's column isn't in the row, it isn't reached
pub lacks_column : (uses : List (List ℕ)) (row : List ℕ) (i j : ℕ) → IsRowOf uses row i → (HasBit row (column j) → ⊥) → Reaches uses i j → ⊥
lacks_column uses row i j told off reached = off ((told.exact (column j)).1 (j, reached, refl))

-- where nodes have columns of their own and it is, it is reached
pub has_column : (uses : List (List ℕ)) (row : List ℕ) (i j : ℕ) → IsRowOf uses row i → length uses ≤ 1024 → ((k : ℕ) → Reaches uses i k → k < length uses) → j < length uses → HasBit row (column j) → Reaches uses i j
has_column uses row i j told few inside below on =
    let found = (told.exact (column j)).0 on in
    let there : found.0 < 1024 = omega (arith, inside found.0 found.1, few) in
    let same : found.0 ≡ j = sym (column_own found.0 there) ∙ found.2 ∙ column_own j (omega (arith, below, few)) in
    subst (λ k. Reaches uses i k) same found.1
