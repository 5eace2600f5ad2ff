use Rattle.std.proofs.Common.{◌≡◌, ℕ, map, nat_eq, take}
use Rattle.std.specs.List.{enumerate_from}
use Rattle.std.specs.Map.{lookup}
use Rattle.wit_data.specs.declared.types.TypeDef.{TypeDef}
use Rattle.wit_semver.proofs.new_entries.retargeted_types.Given as goal
use Rattle.wit_semver.specs.steps.Parts.{retargeted}

abbrev pub invariant-loop-index : goal.invariant-loop-index
invariant-loop-index l = l.made ≡ map (λ (e : ℕ × TypeDef). retargeted e.1 (lookup (nat_eq e.0) l.targets)) (take l.index (enumerate_from 0 l.types))
