use Rattle.std.proofs.Common.{All, Contains, take}
use Rattle.wit_elaboration.proofs.complete.has_all.Given as goal

-- all so far
abbrev pub invariant-loop-node : goal.invariant-loop-node
invariant-loop-node l = All (Contains l.listing.order) (take l.node-index l.nodes)
