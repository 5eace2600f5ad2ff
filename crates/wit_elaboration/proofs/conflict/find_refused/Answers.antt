use Rattle.std.proofs.Common.{List, ℕ, ap, sym, subst}
use Rattle.wit_digraph.specs.steps.PostOrder.{Listed}
use Rattle.wit_elaboration.specs.steps.Elaborating.{IsExportedList}
use Rattle.wit_elaboration.proofs.ConflictIs.{tells_keys, conflict_from}
use Rattle.wit_elaboration.proofs.Refusing.{always_ok}
use Rattle.wit_elaboration.proofs.conflict.find_refused.Goals as goal

pub find_conflict-requires-clause-exported : goal.find_conflict-requires-clause-exported
find_conflict-requires-clause-exported c = tells_keys c.list_exported.new.exported.order c.args.exports.now c.in_ok-list_exported.ensures.ok

pub returns-clause-exported : goal.returns-clause-exported
returns-clause-exported c =
    let tells = tells_keys c.list_exported.new.exported.order c.args.exports.now c.in_ok-list_exported.ensures.ok in
    always_ok c.find_conflict.result (IsExportedList c.find_conflict.new.marks.exported.order c.args.exports.now)
    (subst (λ (xs : List ℕ). IsExportedList xs c.args.exports.now) (sym (ap (λ (l : Listed). l.order) c.find_conflict.ensures.exported)) tells)

pub returns-then-not-may-clause-found : goal.returns-then-not-may-clause-found
returns-then-not-may-clause-found c = λ e has conflict.
    let on = c.in_ok-may.ensures (conflict_from c.args.uses.now c.args.exports.now c.requires.own e has conflict) in
    let off = c.if-not-may.true in
    cc

pub may_conflict-requires-clause-tells : goal.may_conflict-requires-clause-tells
may_conflict-requires-clause-tells c = tells_keys c.list_exported.new.exported.order c.args.exports.now c.in_ok-list_exported.ensures.ok

pub returns-then-not-may-clause-exported : goal.returns-then-not-may-clause-exported
returns-then-not-may-clause-exported c = tells_keys c.list_exported.new.exported.order c.args.exports.now c.in_ok-list_exported.ensures.ok
