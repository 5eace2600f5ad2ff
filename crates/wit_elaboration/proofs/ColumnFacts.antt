-- Bits that two rows have in common, and what common columns tell of a conflict.
use Rattle.std.proofs.Common.{◌≡◌, ◌≢◌, ℕ, zero, suc, ◌+◌, ◌*◌, ◌/◌, ◌%◌, ◌^◌, ◌<◌, inl, inr, List, get_or, bit_and, length, sym, ap, subst, ◌∙◌, arith, Contains, take, [], ◌∷◌}
use Rattle.std.specs.Int.{bit_at}
use Rattle.std.proofs.Math.Nat.{pow-suc}
use Rattle.std.proofs.lemmas.Bool.{cases_lt, cases_eq}
use Rattle.std.proofs.lemmas.List.{get_or_past, take_more}
use Rattle.std.proofs.lemmas.List.Elements.{Contains-push, Contains-append_left, Contains-append_cases}
use Rattle.wit_digraph.specs.facts.MemberFacts.{Contains-nil, Contains-cons_cases}
use Rattle.std.proofs.lemmas.Nat.Bits.{bit_at_and, bit_at-lt, bit_at-zero, bit_at-suc, bit_at_lowest}
use Rattle.wit_digraph.specs.steps.Rows.{HasBit, bit_of}
use Rattle.wit_elaboration.specs.steps.Closures.{HaveCommonBit, column, HasColumnsOf}

-- a number that isn't 0 has a bit
pub some_bit : (n w : ℕ) → w < 2 ^ n → w ≢ 0 → (k : ℕ) × (k < n) × (bit_at w k ≡ 1)
some_bit zero w small apart = absurd (apart (omega (arith, small)))
some_bit (suc n) w small apart =
    elim (cases_eq (w % 2) 1) [
      | inl odd ↦ (0, omega arith, bit_at_lowest w ∙ odd)
      | inr even ↦
          let rest = some_bit n (w / 2) (omega (arith, small, pow-suc 2 n)) (λ none. apart (omega (arith, none, even))) in
          (suc rest.0, omega (arith, rest.1), bit_at-suc w rest.0 ∙ rest.2)
    ]

-- a word that two rows have in common has a common bit
pub meets_at : (one other : List ℕ) (i : ℕ) → bit_and (get_or one i 0) (get_or other i 0) < 2 ^ 64 → bit_and (get_or one i 0) (get_or other i 0) ≢ 0 → HaveCommonBit one other
meets_at one other i small apart =
    let found = some_bit 64 (bit_and (get_or one i 0) (get_or other i 0)) small apart in
    let k : ℕ = found.0 in
    let both = bit_at_and (get_or one i 0) (get_or other i 0) k in
    let word : (i * 64 + k) / 64 ≡ i = omega (arith, found.1) in
    let place : (i * 64 + k) % 64 ≡ k = omega (arith, found.1) in (
      i * 64 + k,
      rw (word, place) (omega (arith, both, found.2, bit_at-lt (get_or one i 0) k, bit_at-lt (get_or other i 0) k)),
      rw (word, place) (omega (arith, both, found.2, bit_at-lt (get_or one i 0) k, bit_at-lt (get_or other i 0) k)),
    )

-- where no word is in common, no bit is
pub meets_nowhere : (one other : List ℕ) → ((i : ℕ) → i < length one → bit_and (get_or one i 0) (get_or other i 0) ≡ 0) → HaveCommonBit one other → ⊥
meets_nowhere one other none common =
    let c : ℕ = common.0 in
    elim (cases_lt (c / 64) (length one)) [
      | inl below ↦
          let both = bit_at_and (get_or one (c / 64) 0) (get_or other (c / 64) 0) (c % 64) in
          let off : bit_at (bit_and (get_or one (c / 64) 0) (get_or other (c / 64) 0)) (c % 64) ≡ 0 = ap (λ w. bit_at w (c % 64)) (none (c / 64) below) ∙ bit_at-zero (c % 64) in
          omega (arith, both, off, common.1, common.2)
      | inr above ↦
          let off : bit_at (get_or one (c / 64) 0) (c % 64) ≡ 0 = ap (λ w. bit_at w (c % 64)) (get_or_past one (c / 64) 0 above) ∙ bit_at-zero (c % 64) in
          omega (arith, off, common.1)
    ]

-- ---- the columns of some nodes

pub no_columns : (nodes columns : List ℕ) → ((c : ℕ) → bit_of columns c ≡ 0) → HasColumnsOf (take 0 nodes) columns
no_columns nodes columns off c = (λ on. absurd (omega (arith, on, off c)), λ found. absurd (omega (arith, found.1.1)))

pub columns_more : (nodes columns new : List ℕ) (at : ℕ) → at < length nodes → HasColumnsOf (take at nodes) columns → HasBit new (column (get_or nodes at 0)) →
    ((k : ℕ) → k ≢ column (get_or nodes at 0) → bit_of new k ≡ bit_of columns k) → HasColumnsOf (take (at + 1) nodes) new
columns_more nodes columns new at below are set others c =
    let node : ℕ = get_or nodes at 0 in
    let more = take_more nodes at 0 below in (
      λ on. elim (cases_eq c (column node)) [
        | inl same ↦ (node, subst (λ xs. Contains xs node) (sym more) (Contains-push (take at nodes) node), sym same)
        | inr apart ↦ let found = (are c).0 (sym (others c apart) ∙ on) in (found.0, subst (λ xs. Contains xs found.0) (sym more) (Contains-append_left (take at nodes) (node ∷ []) found.0 found.1), found.2)
      ],
      λ found. elim (cases_eq c (column node)) [
        | inl same ↦ subst (λ k. HasBit new k) (sym same) set
        | inr apart ↦ elim (Contains-append_cases (take at nodes) (node ∷ []) found.0 (subst (λ xs. Contains xs found.0) more found.1)) [
          | inl old ↦ others c apart ∙ (are c).1 (found.0, old, found.2)
          | inr last ↦ elim (Contains-cons_cases node found.0 [] last) [ inl same ↦ absurd (apart (sym found.2 ∙ ap (column) (sym same))) | inr none ↦ absurd (Contains-nil none) ]
        ]
      ],
    )
