use Rattle.std.proofs.Common.{◌≡◌, ◌++◌, filter_map}
use Rattle.wit_ways.specs.Arrows.{held_by, listed_by}
use Rattle.wit_ways.proofs.entries.add_entries.Given as goal

-- the entries so far, and those that are left
abbrev pub invariant-loop-key : goal.invariant-loop-key
invariant-loop-key l =
    l.arrows ++ filter_map (held_by l.features l.offset l.names l.home l.name) l.key-iterator
    ≡ l.initial.arrows ++ filter_map (held_by l.features l.offset l.names l.home l.name) (listed_by l.fn.side l.world)
