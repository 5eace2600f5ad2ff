use Rattle.std.proofs.Common.{◌≡◌, take}
use Rattle.std.specs.List.{flat_map}
use Rattle.wit_ways.specs.Includes.{former_labels, included_by}
use Rattle.wit_ways.proofs.include.included_labels.Given as goal

-- those of the first includes
abbrev pub invariant-loop-include : goal.invariant-loop-include
invariant-loop-include l = l.arrows ≡ flat_map (included_by (former_labels l.includes l.label)) (take l.include-index l.includes)
