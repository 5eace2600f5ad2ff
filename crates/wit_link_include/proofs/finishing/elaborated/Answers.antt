use Rattle.std.proofs.Common.{rules}
use Rattle.wit_link_include.proofs.finishing.elaborated.Goals.{then-complete, else-complete+in_ok-lists}
use Rattle.wit_link_include.proofs.finishing.elaborated.Goals as goal

pub returns-clause-ok : goal.returns-clause-ok
returns-clause-ok c = search rules

pub returns-clause-no_conflict : goal.returns-clause-no_conflict
returns-clause-no_conflict c = elim c.if-complete.branch [
  | then-complete w ↦ c.in_ok-complete.ensures.no_conflict w.if-complete.true
  | else-complete+in_ok-lists w ↦ w.in_ok-lists.ensures.no_conflict
]
