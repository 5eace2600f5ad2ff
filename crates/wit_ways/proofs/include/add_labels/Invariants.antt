use Rattle.std.proofs.Common.{◌≡◌, ◌++◌, take}
use Rattle.wit_ways.specs.Includes.{included_by}
use Rattle.wit_ways.proofs.include.add_labels.Given as goal

-- those of the first labels are noted
abbrev pub invariant-loop-label : goal.invariant-loop-label
invariant-loop-label l = l.arrows ≡ l.initial.arrows ++ included_by (take l.label-index l.labels) l.include
