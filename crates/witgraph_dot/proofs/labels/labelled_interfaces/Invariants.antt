use Rattle.std.proofs.Common.{◌≡◌, ◌++◌, filter}
use Rattle.wit_digraph.specs.PostOrder.{fresh, first_of_each}
use Rattle.witgraph_dot.specs.Sets.{is_one_of}
use Rattle.witgraph_dot.proofs.labels.labelled_interfaces.Given as goal
use Rattle.witgraph_dot.specs.steps.Parts.{labelled_interfaces}

-- those so far, and those that are left and aren't among them
abbrev pub invariant-loop-key : goal.invariant-loop-key
invariant-loop-key l =
    l.found.items ++ fresh l.found.items (filter (is_one_of l.shown) (labelled_interfaces l.key-iterator)) ≡ first_of_each (filter (is_one_of l.shown) (labelled_interfaces l.entries))
