use Rattle.std.proofs.Common.{◌≡◌, take}
use Rattle.wit_validity.proofs.same.same_params.Given as goal

-- the first ones are the same
abbrev pub invariant-loop-index : goal.invariant-loop-index
invariant-loop-index l = take l.index l.a ≡ take l.index l.b
