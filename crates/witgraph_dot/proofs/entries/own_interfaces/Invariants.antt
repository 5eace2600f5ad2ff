use Rattle.std.proofs.Common.{◌≡◌, ◌++◌}
use Rattle.wit_elaboration.specs.Entries.{keyed_interfaces}
use Rattle.witgraph_dot.proofs.entries.own_interfaces.Given as goal

-- those so far, and those of the entries that are left
abbrev pub invariant-loop-key : goal.invariant-loop-key
invariant-loop-key l = l.interfaces.items ++ keyed_interfaces l.key-iterator ≡ keyed_interfaces l.entries
