use Rattle.std.proofs.Common.{◌<◌, length, arith}
use Rattle.std.proofs.lemmas.List.Elements.{All-contains}
use Rattle.wit_elaboration.specs.Entries.{Entry, item_interface}
use Rattle.wit_elaboration.specs.Imported.{IsEntryInConflict}
use Rattle.wit_elaboration.proofs.ExportSteps.{given_at, nothing_given}
use Rattle.wit_elaboration.proofs.FirstConflict.{conflict_here, conflict_passed, marked_use, no_interface, use_marked}
use Rattle.wit_elaboration.proofs.Marking.{none_all, none_next}
use Rattle.wit_elaboration.proofs.conflict.first_conflict.Goals.{in-Some+else-has_any, in_default}
use Rattle.wit_elaboration.proofs.conflict.first_conflict.Goals as goal
use Rattle.wit_elaboration.specs.steps.Parts.{exported_interfaces}

pub direct_uses-requires : goal.direct_uses-requires
direct_uses-requires c =
    let e : Entry = (c.entry_at.result.0.now, c.entry_at.result.1.now) in
    let has = given_at (λ (f : Entry). item_interface f.1) c.args.exports.now c.loop-index.index e c.in-Some.id c.entry_at.ensures c.in-Some.ensures in
    let below : c.in-Some.id < length c.args.uses.now = All-contains (λ i. i < length c.args.uses.now) (exported_interfaces c.args.exports.now) c.in-Some.id c.requires.in_range has in
    omega (arith, c.index.ensures)

pub returns-then-has_any : goal.returns-then-has_any
returns-then-has_any c =
    let e : Entry = (c.entry_at.result.0.now, c.entry_at.result.1.now) in
    conflict_here c.args.uses.now c.args.exports.now c.args.leading.now.order c.requires.marked c.loop-index.index e c.entry_at.ensures c.in-Some.id c.in-Some.ensures
    (marked_use c.args.uses.now c.args.leading.now.order c.direct_uses.result.now c.in-Some.id c.index.result c.direct_uses.ensures c.index.ensures (c.has_any.ensures.0 c.if-has_any.true))
    c.loop-index.invariant

pub loop-index-preserved : goal.loop-index-preserved
loop-index-preserved c =
    let e : Entry = (c.entry_at.result.0.now, c.entry_at.result.1.now) in
    none_next (λ (f : Entry). IsEntryInConflict c.args.uses.now c.args.exports.now f) c.args.exports.now c.loop-index.index e c.entry_at.ensures c.loop-index.invariant
    (elim c.match-item_interface.branch [
      | in-Some+else-has_any w ↦
          conflict_passed c.args.uses.now c.args.exports.now c.args.leading.now.order c.requires.marked c.loop-index.index e c.entry_at.ensures w.in-Some.id w.in-Some.ensures
          (λ found.
          let on = w.has_any.ensures.1 (use_marked c.args.uses.now c.args.leading.now.order w.direct_uses.result.now w.in-Some.id w.index.result w.direct_uses.ensures w.index.ensures found) in
          let off = w.if-has_any.false in
          cc)
      | in_default w ↦
          no_interface c.args.uses.now c.args.exports.now c.args.leading.now.order c.requires.marked c.loop-index.index e c.entry_at.ensures
          (nothing_given c.item_interface.result (item_interface e.1) w.in_default.not-Some c.item_interface.ensures)
    ])

pub returns : goal.returns
returns c =
    none_all (λ (f : Entry). IsEntryInConflict c.args.uses.now c.args.exports.now f) c.args.exports.now c.loop-index.index (omega arith) c.loop-index.invariant
