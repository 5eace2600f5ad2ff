-- Rows of bits in words of 64.
use Rattle.std.specs.Prelude.{◌≡◌, ℕ, ◌/◌, ◌%◌, List, slice_index}
use Rattle.std.specs.Int.{bit_at}

-- bit i of a row, 0 past its end
abbrev pub bit_of : List ℕ → ℕ → ℕ
bit_of row i = bit_at (slice_index row (i / 64)) (i % 64)

-- bit i of a row is on
abbrev pub HasBit : List ℕ → ℕ → Type 0
HasBit row i = bit_of row i ≡ 1
