use Rattle.std.proofs.Common.{ℕ, ◌+◌, ◌-◌, ◌<◌, ◌≤◌, Bool, List, Some, length}
use Rattle.wit_ways.specs.steps.Searching.{IsAt, IsClosed, IsSearching, unseen}
use Rattle.wit_ways.proofs.way.all_reached.Given as goal

-- all names so far are left behind
abbrev pub invariant-loop-next : goal.invariant-loop-next
invariant-loop-next l = record {
  searching : IsSearching l.arrows l.goals l.start l.met l.search;
  begun : IsClosed l.arrows l.goals l.search l.start l.met;
  closed : (q : ℕ) (name : List ℕ) (met : Bool) → q < l.next → IsAt l.arrows l.start l.met l.search.reached (Some q) name met → IsClosed l.arrows l.goals l.search name met;
  within : l.next ≤ length l.search.reached;
}

abbrev pub decreases-loop-next : goal.decreases-loop-next
decreases-loop-next l = unseen l.arrows l.search + (length l.search.reached - l.next)
