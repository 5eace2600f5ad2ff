use Rattle.std.proofs.Common.{◌<◌, ◌∙◌, ℕ, List, Contains, length, arith, sym, subst}
use Rattle.std.proofs.lemmas.List.Elements.{All-contains}
use Rattle.std.proofs.lemmas.Map.Iter.{iter_turn, rest_all, rest_more}
use Rattle.std.specs.Map.Iter.{deref_pair}
use Rattle.wit_elaboration.specs.Entries.{Entry, item_interface}
use Rattle.wit_elaboration.specs.steps.Closures.{HasColumnsOf, MayNeed}
use Rattle.wit_elaboration.proofs.ExportSteps.{given_at, nothing_given}
use Rattle.wit_elaboration.proofs.MayConflict.{EntryMayNeed, given_passed, left_none, none_needed, nothing_passed}
use Rattle.wit_elaboration.proofs.closure_rows.ClosureRows.may_conflict.Goals as goal
use Rattle.wit_elaboration.specs.steps.Parts.{exported_interfaces}

pub loop-item-init : goal.loop-item-init
loop-item-init c = λ e has need. subst (λ (xs : List Entry). Contains xs e) (sym (c.into_iter-item-iterator.ensures.into_iter_gives ∙ c.iter-item-items.ensures.rest)) has

pub may_need-requires-clause-node : goal.may_need-requires-clause-node
may_need-requires-clause-node c =
    let at = (iter_turn deref_pair c.args.exports.now c.loop-item.yielded _ _ _ _ (c.into_iter-item-iterator.ensures.into_iter_gives ∙ c.iter-item-items.ensures.rest) c.loop-item.yielded_by _ c.in-Some.is c.next.ensures.steps).1 in
    let has = given_at (λ (f : Entry). item_interface f.1) c.args.exports.now (length c.loop-item.yielded) _ c.in-Some-item_interface.id at c.in-Some-item_interface.ensures in
    let below : c.in-Some-item_interface.id < length c.args.uses.now = All-contains (λ i. i < length c.args.uses.now) (exported_interfaces c.args.exports.now) c.in-Some-item_interface.id c.requires.interfaces has in
    omega (arith, c.index.ensures, below)

pub loop-item-preserved-else-may_need : goal.loop-item-preserved-else-may_need
loop-item-preserved-else-may_need c =
    let uses = c.args.uses.now in
    let rows = c.args.self.now.rows in
    let exported : List ℕ = c.args.exported.now.order in
    let columns = c.in_ok-columns.columns.items in
    given_passed uses rows exported columns (rest_more deref_pair _ _ _ _ c.in-Some.is c.next.ensures.steps) c.args.exports.now c.loop-item.invariant c.in-Some-item_interface.id c.in-Some-item_interface.ensures
    (λ found.
    let there : MayNeed uses rows exported c.deref.result.now c.index.result =
    subst (λ (cs : List ℕ). MayNeed uses rows exported cs c.index.result) (sym c.deref.ensures.value) (subst (λ (m : ℕ). MayNeed uses rows exported columns m) (sym c.index.ensures) found) in
    let on = c.may_need.ensures.1 there in
    let off = c.if-may_need.false in
    cc)

pub loop-item-preserved : goal.loop-item-preserved
loop-item-preserved c =
    let uses = c.args.uses.now in
    let rows = c.args.self.now.rows in
    let exported : List ℕ = c.args.exported.now.order in
    let columns = c.in_ok-columns.columns.items in
    nothing_passed uses rows exported columns (rest_more deref_pair _ _ _ _ c.in-Some.is c.next.ensures.steps) c.args.exports.now c.loop-item.invariant
    (nothing_given c.item_interface.result _ c.in_default.not-Some c.item_interface.ensures)

pub returns : goal.returns
returns c = λ conflict.
    let uses = c.args.uses.now in
    let rows = c.args.self.now.rows in
    let exported : List ℕ = c.args.exported.now.order in
    let columns = c.in_ok-columns.columns.items in
    let has : HasColumnsOf exported columns = subst (λ (xs : List ℕ). HasColumnsOf xs columns) c.order.ensures.order c.in_ok-columns.ensures.columns in
    let none = left_none (EntryMayNeed uses rows exported columns) c.args.exports.now (rest_all deref_pair _ _ _ c.in-None.is c.next.ensures.steps) c.loop-item.invariant in
    absurd (none_needed uses rows c.requires.acyclic c.args.exports.now exported columns c.requires.rows.rows c.requires.tells has none conflict)
