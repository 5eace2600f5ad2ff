-- Parts of the definitions under names of their own, for contracts of inner functions and for proofs. Each is what stands
-- in a definition in its place, so none has to be believed.
use Rattle.std.specs.Prelude.{ℕ, ◌||◌, Bool}
use Rattle.std.specs.Char.{is_ascii_digit, is_ascii_lowercase, is_ascii_uppercase}

-- a lower case letter or a digit
abbrev pub is_lower : ℕ → Bool
is_lower b = is_ascii_lowercase b || is_ascii_digit b

-- an upper case letter or a digit
abbrev pub is_upper : ℕ → Bool
is_upper b = is_ascii_uppercase b || is_ascii_digit b
