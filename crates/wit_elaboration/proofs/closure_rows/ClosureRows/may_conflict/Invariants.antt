use Rattle.std.proofs.Common.{Contains}
use Rattle.wit_elaboration.specs.Entries.{Entry}
use Rattle.wit_elaboration.proofs.MayConflict.{EntryMayNeed}
use Rattle.wit_elaboration.proofs.closure_rows.ClosureRows.may_conflict.Given as goal

-- those that may need any are left
abbrev pub invariant-loop-item : goal.invariant-loop-item
invariant-loop-item l =
    (e : Entry) → Contains l.exports e
    → EntryMayNeed l.uses l.self.rows l.exported.order l.columns.items e
    → Contains l.item-iterator e
