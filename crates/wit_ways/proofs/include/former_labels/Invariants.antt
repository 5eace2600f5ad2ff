use Rattle.std.proofs.Common.{◌≡◌, ◌++◌, drop, map}
use Rattle.std.specs.List.{flat_map}
use Rattle.wit_data.specs.declared.world.IncludeName.{IncludeName}
use Rattle.wit_ways.specs.Includes.{former_labels}
use Rattle.wit_ways.specs.declared.include.Include.{Include}
use Rattle.wit_ways.proofs.include.former_labels.Given as goal

-- those so far, and those of the includes that are left, are all
abbrev pub invariant-loop-include : goal.invariant-loop-include
invariant-loop-include l = l.labels ++ flat_map (λ (i : Include). map (λ (name : IncludeName). name.name) i.names) (drop l.include-index l.includes) ≡ former_labels l.includes l.label
