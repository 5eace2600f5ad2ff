use Rattle.std.proofs.Common.{◌≡◌, ◌++◌}
use Rattle.std.specs.List.{flat_map}
use Rattle.wit_link_spec.specs.Include.{entry_mentions}
use Rattle.wit_link_include.proofs.mentions.push_entries.Given as goal

-- what has been added, and what those will add that are left
abbrev pub invariant-loop-item : goal.invariant-loop-item
invariant-loop-item l =
    l.ids ++ flat_map (entry_mentions l.origin.graph.now l.origin.world.now) l.item-iterator ≡ l.fn.ids ++ flat_map (entry_mentions l.origin.graph.now l.origin.world.now) l.entries
