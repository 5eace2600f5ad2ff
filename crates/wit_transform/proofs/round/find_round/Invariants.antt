use Rattle.wit_transform.proofs.Searching.{IsSearching, search_turns}
use Rattle.wit_transform.proofs.round.find_round.Given as goal

abbrev pub invariant-loop-frame : goal.invariant-loop-frame
invariant-loop-frame l = IsSearching l.uses l.found.user l.seen.items l.stack.items

-- each turn takes a use or a node off what is left, or comes to a node that was not seen
abbrev pub decreases-loop-frame : goal.decreases-loop-frame
decreases-loop-frame l = search_turns l.uses l.seen.items l.stack.items
