use Rattle.std.proofs.Common.{ℕ, take, Contains}
use Rattle.wit_elaboration.proofs.conflict.has_any.Given as goal

-- none so far
abbrev pub invariant-loop-node : goal.invariant-loop-node
invariant-loop-node l =
    (i : ℕ) → Contains (take l.node-index l.nodes) i → Contains l.listing.order i → ⊥
