use Rattle.std.proofs.Common.{◌≡◌, length}
use Rattle.wit_queries.specs.RemainingUses.{remaining_uses}
use Rattle.wit_queries.proofs.next.next_use.Given as goal

-- what is left is what was left
abbrev pub invariant-loop-begun : goal.invariant-loop-begun
invariant-loop-begun l =
    remaining_uses l.graph.types l.graph.interfaces l.initial.begun l.initial.rest
    ≡ remaining_uses l.graph.types l.graph.interfaces l.begun l.rest

abbrev pub decreases-loop-begun : goal.decreases-loop-begun
decreases-loop-begun l = length l.rest
