-- What a search for a difference tells, as the text of a message.
use Rattle.std.specs.Prelude.{ℕ, List, Option, String, IfNone, IfSome, string_bytes}
use Rattle.std.specs.declared.alloc.Global.{Global}

-- a text that is told says how they differ
abbrev pub Tells : (List ℕ → Type 0) → Option (String Global) → Type 0
Tells Differ =
    λ (found : Option (String Global)).
    IfSome found (λ (text : String Global). Differ (string_bytes text))

-- where none is told they don't
abbrev pub TellsNone : (List ℕ → Type 0) → Option (String Global) → Type 0
TellsNone Differ =
    λ (found : Option (String Global)). IfNone found ((text : List ℕ) → Differ text → ⊥)
