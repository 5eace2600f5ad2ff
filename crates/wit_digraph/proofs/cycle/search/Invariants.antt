use Rattle.wit_digraph.proofs.SearchSteps.{IsSearching, search_turns}
use Rattle.wit_digraph.proofs.cycle.search.Given as goal

abbrev pub invariant-loop-frame : goal.invariant-loop-frame
invariant-loop-frame l = IsSearching l.uses l.fn.marks l.marks l.root l.stack.items

-- each turn takes a use or a node off what is left, or opens a node that was not met
abbrev pub decreases-loop-frame : goal.decreases-loop-frame
decreases-loop-frame l = search_turns l.uses l.marks l.stack.items
