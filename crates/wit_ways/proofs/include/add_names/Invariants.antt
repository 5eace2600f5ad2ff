use Rattle.std.proofs.Common.{◌≡◌, ◌++◌, map, take}
use Rattle.wit_data.specs.declared.world.IncludeName.{IncludeName}
use Rattle.wit_ways.proofs.include.add_names.Given as goal

-- the first ones are noted
abbrev pub invariant-loop-name : goal.invariant-loop-name
invariant-loop-name l = l.labels ≡ l.initial.labels ++ map (λ (name : IncludeName). name.name) (take l.name-index l.name-items)
