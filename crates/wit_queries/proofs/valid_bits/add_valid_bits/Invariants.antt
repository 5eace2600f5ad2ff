use Rattle.std.proofs.Common.{◌≡◌, length}
use Rattle.wit_queries.specs.steps.ValidBits.{AreRightBelow, AreRightOff, on_count}
use Rattle.wit_queries.proofs.valid_bits.add_valid_bits.Given as goal

-- flags that are off are right, and so are all of the types that had one
abbrev pub invariant-loop : goal.invariant-loop
invariant-loop l =
    (length l.flags ≡ length l.types)
    × (AreRightOff l.types l.flags × AreRightBelow l.first l.types l.flags)

abbrev pub decreases-loop : goal.decreases-loop
decreases-loop l = on_count l.flags
