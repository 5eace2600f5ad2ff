use Rattle.std.proofs.Common.{◌≡◌, ◌++◌, List, ℕ, length, drop, ap, ◌∙◌}
use Rattle.std.proofs.lemmas.Result.{on_ok_weaker}
use Rattle.wit_digraph.specs.PostOrder.{fresh}
use Rattle.wit_digraph.specs.steps.PostOrder.{Listed}
use Rattle.wit_elaboration.specs.Elaborated.{dependencies_before}
use Rattle.wit_elaboration.specs.Entries.{Entry, Role, role_of}
use Rattle.wit_elaboration.proofs.Importing.{grown, entry_imported, importing_entry}
use Rattle.wit_elaboration.proofs.imports.import_entry.Goals as goal

pub order_from-requires : goal.order_from-requires
order_from-requires c =
    grown c.order-start.result.now c.args.walked.now.order c.list_needs.new.walked.order (fresh c.args.walked.now.order (dependencies_before c.args.uses.now c.of.result)) c.order-start.ensures.order
    (ap (λ (l : Listed). l.order) c.in_ok-list_needs.ensures.ok)

pub returns-clause-imports : goal.returns-clause-imports
returns-clause-imports c =
    let e : Entry = (c.args.key.now, c.args.item.now) in
    let order : c.list_needs.new.walked.order ≡ c.args.walked.now.order ++ fresh c.args.walked.now.order (dependencies_before c.args.uses.now (role_of c.args.types.now c.args.item.now)) =
    ap (λ (l : Listed). l.order) c.in_ok-list_needs.ensures.ok ∙ ap (λ (r : Role). c.args.walked.now.order ++ fresh c.args.walked.now.order (dependencies_before c.args.uses.now r)) c.of.ensures in
    let slice : c.order_from.result.now ≡ drop (length c.args.walked.now.order) c.list_needs.new.walked.order =
    c.order_from.ensures.order ∙ ap (λ (xs : List ℕ). drop (length xs) c.list_needs.new.walked.order) c.order-start.ensures.order in
    on_ok_weaker c.add_import.result
    (λ done. entry_imported c.args.types.now c.args.uses.now e c.args.walked.now.order c.list_needs.new.walked.order c.order_from.result.now c.args.imports.now c.add_needed.new.imports c.add_import.new.entries order slice c.requires.state.imported c.in_ok-add_needed.ensures done)
    c.add_import.ensures

pub returns-clause-state : goal.returns-clause-state
returns-clause-state c =
    let e : Entry = (c.args.key.now, c.args.item.now) in
    let order : c.list_needs.new.walked.order ≡ c.args.walked.now.order ++ fresh c.args.walked.now.order (dependencies_before c.args.uses.now (role_of c.args.types.now c.args.item.now)) =
    ap (λ (l : Listed). l.order) c.in_ok-list_needs.ensures.ok ∙ ap (λ (r : Role). c.args.walked.now.order ++ fresh c.args.walked.now.order (dependencies_before c.args.uses.now r)) c.of.ensures in
    let slice : c.order_from.result.now ≡ drop (length c.args.walked.now.order) c.list_needs.new.walked.order =
    c.order_from.ensures.order ∙ ap (λ (xs : List ℕ). drop (length xs) c.list_needs.new.walked.order) c.order-start.ensures.order in
    on_ok_weaker c.add_import.result
    (λ done. importing_entry c.args.types.now c.args.uses.now e c.args.walked.now c.list_needs.new.walked c.args.imports.now c.add_import.new.entries c.requires.state c.in_ok-list_needs.ensures.post_order order
    (entry_imported c.args.types.now c.args.uses.now e c.args.walked.now.order c.list_needs.new.walked.order c.order_from.result.now c.args.imports.now c.add_needed.new.imports c.add_import.new.entries order slice c.requires.state.imported c.in_ok-add_needed.ensures done))
    c.add_import.ensures
