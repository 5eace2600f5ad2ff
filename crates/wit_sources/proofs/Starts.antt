-- Where characters begin.
use native.Mathlib.Omega.{arith}
use Rattle.std.proofs.Common.{◌≡◌, ◌<◌, ◌-◌, ℕ, zero, suc, true, false, List, refl, ap}
use Rattle.std.specs.Prelude.{slice_index}
use Rattle.std.specs.Fmt.{is_char_start}
use Rattle.wit_sources.specs.Shown.{start_up_to}

-- one that begins at a position is the last up to it
pub start_there : (k : ℕ) (text : List ℕ) → is_char_start (slice_index text k) ≡ true → start_up_to k text ≡ k
unfolding start_up_to
start_there zero text starts = refl
start_there (suc k) text starts = rw starts refl

-- where none begins at a position the last is before it
pub start_before : (k : ℕ) (text : List ℕ) → 0 < k → is_char_start (slice_index text k) ≡ false → start_up_to k text ≡ start_up_to (k - 1) text
unfolding start_up_to
start_before zero text more starts = refl
start_before (suc k) text more starts =
    let same : k ≡ suc k - 1 = omega arith in
    rw starts (ap (λ (n : ℕ). start_up_to n text) same)

-- at the beginning there is nothing before it
pub start_first : (k : ℕ) (text : List ℕ) → k ≡ 0 → start_up_to k text ≡ k
unfolding start_up_to
start_first zero text first = refl
start_first (suc k) text first = absurd (omega (arith, first))
