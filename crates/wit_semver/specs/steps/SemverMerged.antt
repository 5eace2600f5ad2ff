-- Words of inner contracts and proofs, beside `SemverMerged`.
use Rattle.std.specs.Prelude.{ℕ, List}
use Rattle.wit_semver.specs.SemverMerged.{SemverMerge, Disagrees}

-- all replaced interfaces agree with the newest
abbrev pub Agrees : SemverMerge → Type 0
Agrees u = (f : ℕ) (message : List ℕ) → Disagrees u f message → ⊥
