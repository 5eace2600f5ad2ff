-- What a call does to the graph that a handle stands for.
use Rattle.std.specs.Prelude.{◌≡◌, Option, Some}

-- a graph is open before a call and after it, and the call does this to it
abbrev pub StaysOpen : {S : Type 0} → Option S → Option S → (S → S → Type 0) → Type 0
StaysOpen {S = S} old new Does =
    (before : S) × (after : S) × (old ≡ Some before) × (new ≡ Some after) × Does before after
