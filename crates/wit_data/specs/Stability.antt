-- Feature gates.
use Rattle.wit_data.specs.declared.stability.Stability.{Stability}
use Rattle.wit_data.specs.declared.stability.Stability.TheVariants.{Unknown, Stable, Unstable}

-- the gate is `@since`
abbrev pub IsStable : Stability → Type 0
IsStable (Stable since deprecated) = Unit {0}
IsStable _ = ⊥
