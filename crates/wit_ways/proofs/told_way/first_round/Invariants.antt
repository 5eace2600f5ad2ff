use Rattle.std.proofs.Common.{◌<◌, ℕ, []}
use Rattle.wit_ways.specs.Told.{IsRoundAt}
use Rattle.wit_ways.proofs.told_way.first_round.Given as goal

-- none so far leads back to itself
abbrev pub invariant-loop-index : goal.invariant-loop-index
invariant-loop-index l = (k : ℕ) → k < l.index → IsRoundAt l.graph l.arrows l.name k []
