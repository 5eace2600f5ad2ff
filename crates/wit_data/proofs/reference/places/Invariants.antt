use Rattle.std.proofs.Common.{◌≡◌, take}
use Rattle.wit_data.proofs.reference.places.Given as goal

-- those of the first ones
abbrev pub invariant-loop-id : goal.invariant-loop-id
invariant-loop-id l = l.places ≡ take l.id-index l.ids
