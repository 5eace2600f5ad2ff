use Rattle.std.proofs.Common.{◌≡◌, ◌++◌}
use Rattle.wit_data.specs.Entries.{interfaces_of_entries}
use Rattle.witgraph_dot.proofs.entries.add_interfaces.Given as goal

-- with those of the entries that are left it has all
abbrev pub invariant-loop-item : goal.invariant-loop-item
invariant-loop-item l = l.interfaces.items ++ interfaces_of_entries l.item-iterator ≡ l.fn.interfaces.items ++ interfaces_of_entries l.entries
