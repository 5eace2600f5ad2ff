use Rattle.std.proofs.Common.{◌≡◌, length}
use Rattle.wit_queries.specs.RemainingUses.{remaining_interfaces}
use Rattle.wit_queries.proofs.next.next_world_interface.Given as goal

-- what is left is what was left
abbrev pub invariant-loop-begun : goal.invariant-loop-begun
invariant-loop-begun l =
    remaining_interfaces l.graph.types l.graph.worlds l.initial.begun l.initial.rest
    ≡ remaining_interfaces l.graph.types l.graph.worlds l.begun l.rest

abbrev pub decreases-loop-begun : goal.decreases-loop-begun
decreases-loop-begun l = length l.rest
