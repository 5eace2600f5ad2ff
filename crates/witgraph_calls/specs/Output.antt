-- What a call writes to its output.
use Rattle.std.specs.Prelude.{◌≡◌, ℕ, Bool, List, ◌++◌, ◌<◌, ◌≤◌, length, drop}

-- a text stands at the front of the output, and all behind it is as before
abbrev pub HasFront : List ℕ → List ℕ → List ℕ → Type 0
HasFront text old new = (length text ≤ length old) × (new ≡ text ++ drop (length text) old)

-- a text that may be written is, and its length is what is needed
abbrev pub IsWritten : (List ℕ → Type 0) → List ℕ → List ℕ → ℕ → Type 0
IsWritten May old new needed =
    (text : List ℕ) × May text × HasFront text old new × (needed ≡ length text)

-- a text that may be written is longer than the output, and its length is what is needed
abbrev pub IsTooLong : (Bool → List ℕ → Type 0) → List ℕ → ℕ → Type 0
IsTooLong May old needed =
    (understood : Bool) × (text : List ℕ) × May understood text × (length old < length text)
    × (needed ≡ length text)
