use Rattle.std.proofs.Common.{◌≡◌}
use Rattle.wit_queries.proofs.next.next_named.Given as goal
use Rattle.wit_graph_data.specs.Queries.{entry_interfaces}

-- what was passed over names none
abbrev pub invariant-loop-item : goal.invariant-loop-item
invariant-loop-item l =
    (goal.iterator-loop-item).can_next l.entries × (goal.iterator-loop-item).is_finite l.entries
    × (entry_interfaces l.types l.initial.entries ≡ entry_interfaces l.types l.entries)
