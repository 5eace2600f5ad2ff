-- What an image refers to, said of ids: each id that it names is where an id that the old one names goes.
use Rattle.std.specs.Prelude.{◌≡◌, ◌⊎◌, ℕ, List, Contains}
use Rattle.wit_remap_spec.specs.Image.{Maps}

-- an id goes to its image or to what names a value of it
abbrev pub RemapsTo : Maps → ℕ → ℕ → Type 0
RemapsTo m t t' = (t' ≡ m.types t) ⊎ (t' ≡ m.values t)

-- each of the new ids is where one of the old ones goes
abbrev pub RefersUnder : Maps → List ℕ → List ℕ → Type 0
RefersUnder m old new = (t' : ℕ) → Contains new t' → (t : ℕ) × Contains old t × RemapsTo m t t'
