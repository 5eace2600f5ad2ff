-- Facts on the bits of rows, for the proofs of this crate and of the crates above.
use Rattle.std.proofs.Common.{◌≡◌, ◌≢◌, ℕ, zero, suc, ◌*◌, ◌/◌, ◌%◌, ◌^◌, ◌<◌, inl, inr, List, [], ◌∷◌, ◌++◌, get_or, set, replicate, bit_or, length, refl, ap, ◌∙◌, arith}
use Rattle.std.specs.Int.{bit_at, w64}
use Rattle.std.proofs.lemmas.Bool.{cases_lt, cases_eq}
use Rattle.std.proofs.lemmas.List.{get_or-set_same, get_or-set_other, get_or-replicate, get_or_past, length-replicate}
use Rattle.std.proofs.lemmas.Nat.Bits.{bit_at_set_same, bit_at_set_other, bit_at-zero}
use Rattle.wit_digraph.specs.steps.Rows.{bit_of}

-- a word with one more bit, in its place
pub bit_of-set_same : (row : List ℕ) (i : ℕ) → i / 64 < length row → bit_of (set row (i / 64) (bit_or (get_or row (i / 64) 0) (1 * 2 ^ (i % 64) % 2 ^ 64))) i ≡ 1
bit_of-set_same row i below =
    rw (get_or-set_same row (i / 64) (bit_or (get_or row (i / 64) 0) (1 * 2 ^ (i % 64) % 2 ^ 64)) 0 below)
    (bit_at_set_same w64 (get_or row (i / 64) 0) (i % 64) (omega arith))

pub bit_of-set_other : (row : List ℕ) (i k : ℕ) → i / 64 < length row → k ≢ i → bit_of (set row (i / 64) (bit_or (get_or row (i / 64) 0) (1 * 2 ^ (i % 64) % 2 ^ 64))) k ≡ bit_of row k
bit_of-set_other row i k below apart =
    elim (cases_eq (k / 64) (i / 64)) [
      | inl same ↦
          let other : k % 64 ≢ i % 64 = λ e. apart (omega arith) in
          rw (same, get_or-set_same row (i / 64) (bit_or (get_or row (i / 64) 0) (1 * 2 ^ (i % 64) % 2 ^ 64)) 0 below)
          (bit_at_set_other w64 (get_or row (i / 64) 0) (i % 64) (omega arith) (k % 64) other)
      | inr elsewhere ↦
          ap (λ word. bit_at word (k % 64)) (get_or-set_other row (i / 64) (k / 64) (bit_or (get_or row (i / 64) 0) (1 * 2 ^ (i % 64) % 2 ^ 64)) 0 elsewhere)
    ]

-- a word of zeros has no bit
pub bit_of-zero : (row : List ℕ) (i : ℕ) → get_or row (i / 64) 0 ≡ 0 → bit_of row i ≡ 0
bit_of-zero row i none = ap (λ word. bit_at word (i % 64)) none ∙ bit_at-zero (i % 64)

-- nor has a row of zeros
pub no_bits : (words i : ℕ) → bit_of (replicate words 0) i ≡ 0
no_bits words i = bit_of-zero (replicate words 0) i
    (elim (cases_lt (i / 64) words) [ inl below ↦ get_or-replicate words (i / 64) 0 0 below | inr above ↦ get_or_past (replicate words 0) (i / 64) 0 (omega (arith, length-replicate {A = ℕ} words 0)) ])

-- a row that has one word of zeros more has no bit of that word, and the others as before
pub bit_of-selected_same : (row : List ℕ) (i k : ℕ) → i / 64 < length row → k / 64 ≡ i / 64 → bit_of (set row (i / 64) 0) k ≡ 0
bit_of-selected_same row i k below same = bit_of-zero (set row (i / 64) 0) k (rw same (get_or-set_same row (i / 64) 0 0 below))

pub bit_of-selected_other : (row : List ℕ) (i k : ℕ) → k / 64 ≢ i / 64 → bit_of (set row (i / 64) 0) k ≡ bit_of row k
bit_of-selected_other row i k apart = ap (λ word. bit_at word (k % 64)) (get_or-set_other row (i / 64) (k / 64) 0 0 apart)

-- a word of zeros at the end changes no bit
pub bit_of-longer : (row : List ℕ) (i : ℕ) → bit_of (row ++ 0 ∷ []) i ≡ bit_of row i
bit_of-longer row i = ap (λ word. bit_at word (i % 64)) (longer row (i / 64))
  where
    longer : (xs : List ℕ) (k : ℕ) → get_or (xs ++ 0 ∷ []) k 0 ≡ get_or xs k 0
    longer [] zero = refl
    longer [] (suc k) = refl
    longer (x ∷ xs) zero = refl
    longer (x ∷ xs) (suc k) = longer xs k
