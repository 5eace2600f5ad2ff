-- Which call of a reader tells its end, which calls of a writer fail, and what is written where one does.
use Rattle.std.specs.Prelude.{ℕ, Bool, true, false, List, take, Option, Result, Ok, Err, ◌==◌, ◌&&◌, not}
use Rattle.std.specs.Io.KnownBytes.{Appends}

-- a read that gives nothing into a buffer with room: the reader is at its end
abbrev pub read_ends : {E : Type 0} → Result ℕ E → ℕ → Bool
read_ends (Ok n) room = (n == 0) && not (room == 0)
read_ends (Err e) room = false

-- a write that answers an error, or takes none of some bytes
abbrev pub write_fails : {E : Type 0} → Result ℕ E → ℕ → Bool
write_fails (Ok n) len = (n == 0) && not (len == 0)
write_fails (Err e) len = true

-- known bytes stay at the front and grow by a beginning of a text
abbrev pub AppendsBeginning : Option (List ℕ) → Option (List ℕ) → List ℕ → Type 0
AppendsBeginning old new text = (count : ℕ) × Appends old new (take count text)
