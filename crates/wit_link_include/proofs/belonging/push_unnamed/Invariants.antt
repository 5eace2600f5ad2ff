use Rattle.std.proofs.Common.{◌≡◌, ◌++◌, filter}
use Rattle.wit_data.specs.Entries.{interfaces_of_entries, is_unnamed}
use Rattle.wit_link_include.proofs.belonging.push_unnamed.Given as goal

-- what has been added, and what is left
abbrev pub invariant-loop-item : goal.invariant-loop-item
invariant-loop-item l =
    l.ids ++ filter (is_unnamed l.graph.interfaces) (interfaces_of_entries l.item-iterator) ≡ l.fn.ids ++ filter (is_unnamed l.graph.interfaces) (interfaces_of_entries l.entries)
