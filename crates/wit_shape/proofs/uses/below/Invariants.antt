use Rattle.std.proofs.Common.{◌≡◌, filter, take}
use Rattle.std.specs.Prelude.{nat_lt}
use Rattle.wit_shape.proofs.uses.below.Given as goal

-- those among the first ones
abbrev pub invariant-loop-number : goal.invariant-loop-number
invariant-loop-number l = l.kept ≡ filter (λ j. nat_lt j l.bound) (take l.number-index l.numbers)
