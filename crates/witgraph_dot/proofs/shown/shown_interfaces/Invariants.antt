use Rattle.std.proofs.Common.{◌≡◌, ◌++◌, drop}
use Rattle.witgraph_dot.specs.Shown.{indices_from, is_interface_shown}
use Rattle.witgraph_dot.proofs.shown.shown_interfaces.Given as goal

-- those so far, and those among the interfaces that are left
abbrev pub invariant-loop-index : goal.invariant-loop-index
invariant-loop-index l =
    l.shown.items ++ indices_from (is_interface_shown l.choice l.resolve.graph.packages l.entries.items) l.index (drop l.index l.resolve.graph.interfaces)
    ≡ indices_from (is_interface_shown l.choice l.resolve.graph.packages l.entries.items) 0 l.resolve.graph.interfaces
