use Rattle.std.proofs.Common.{List, ℕ, subst}
use Rattle.wit_elaboration.specs.steps.Elaborating.{AreMarked, AreOutside}
use Rattle.wit_elaboration.proofs.ConflictIs.{marks_tell}
use Rattle.wit_elaboration.proofs.conflict.find_conflict.Goals as goal

pub first_conflict-requires-clause-marked : goal.first_conflict-requires-clause-marked
first_conflict-requires-clause-marked c =
    let exported : List ℕ = c.args.marks.now.exported.order in
    let reaching : List ℕ = c.mark_reaching.new.marked.order in
    let outside : List ℕ = c.list_outside.new.outside.order in
    marks_tell c.args.uses.now c.requires.acyclic c.args.exports.now c.list_exports_by.new.walked.order exported reaching outside c.mark_reaching-2.new.marked.order c.in_ok-list_exports_by.ensures.ok c.in_ok-list_exports_by.ensures.post_order.uses_first c.requires.exported
    (subst (λ xs. AreMarked c.args.uses.now xs exported reaching) c.order.ensures.order c.in_ok-mark_reaching.ensures.ok)
    (subst (λ xs. AreOutside xs reaching exported outside) c.order-2.ensures.order c.in_ok-list_outside.ensures.ok)
    (subst (λ xs. AreMarked c.args.uses.now xs outside c.mark_reaching-2.new.marked.order) c.order-3.ensures.order c.in_ok-mark_reaching-2.ensures.ok)
