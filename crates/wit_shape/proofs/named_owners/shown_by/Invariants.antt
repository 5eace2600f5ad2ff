use Rattle.std.proofs.Common.{take}
use Rattle.wit_shape.specs.steps.NamedOwners.{IsNamedOwners}
use Rattle.wit_shape.proofs.Telling.{ShowsAny}
use Rattle.wit_shape.proofs.named_owners.shown_by.Given as goal

-- what the first ones show
abbrev pub invariant-loop-id : goal.invariant-loop-id
invariant-loop-id l = IsNamedOwners (ShowsAny l.types (take l.id-index l.id-items)) l.told
