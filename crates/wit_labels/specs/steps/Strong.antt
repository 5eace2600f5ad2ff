-- Words of inner contracts and proofs, beside `Strong`.
use Rattle.std.specs.Prelude.{ℕ, List}
use Rattle.wit_data.specs.declared.world.WorldKey.{WorldKey}
use Rattle.wit_labels.specs.Strong.{Clashes}

-- no two labels of the list clash
abbrev pub AreStronglyUnique : List WorldKey → Type 0
AreStronglyUnique keys = (n m : List ℕ) → Clashes keys n m → ⊥
