use Rattle.std.proofs.Common.{◌≡◌, ◌++◌, ◌<◌, List, ℕ, All, drop, length, ap, subst, sym, ◌∙◌}
use Rattle.std.proofs.lemmas.Result.{on_ok_weaker}
use Rattle.wit_digraph.specs.PostOrder.{fresh}
use Rattle.wit_digraph.specs.steps.PostOrder.{Listed}
use Rattle.wit_elaboration.specs.Elaborated.{dependencies_before, inherited_by_export}
use Rattle.wit_elaboration.specs.steps.Elaborating.{is_listed}
use Rattle.wit_elaboration.specs.Entries.{Entry, Instance}
use Rattle.wit_elaboration.proofs.Exporting.{imports_added, entry_exported_after, exporting_entry}
use Rattle.wit_elaboration.proofs.Importing.{grown}
use Rattle.wit_elaboration.proofs.exports.export_entry.Goals as goal

pub order_from-requires : goal.order_from-requires
order_from-requires c =
    grown c.order-start.result.now c.args.walked.now.order c.list_needs.new.walked.order (fresh c.args.walked.now.order (dependencies_before c.args.uses.now (Instance c.args.interface))) c.order-start.ensures.order
    (ap (λ (l : Listed). l.order) c.in_ok-list_needs.ensures.ok)

pub add_walked-requires : goal.add_walked-requires
add_walked-requires c =
    let nodes : c.list_needs.new.walked.nodes ≡ c.args.exported.now.nodes = c.in_ok-list_needs.ensures.post_order.nodes ∙ sym c.requires.exported in
    subst (λ (n : ℕ). All (λ i. i < n) c.order_from.result.now) nodes c.order_from.ensures.in_range

pub returns-clause-exports : goal.returns-clause-exports
returns-clause-exports c =
    let e : Entry = (c.args.key.now, c.args.item.now) in
    let needed : List ℕ = dependencies_before c.args.uses.now (Instance c.args.interface) in
    let order : c.list_needs.new.walked.order ≡ c.args.walked.now.order ++ fresh c.args.walked.now.order needed = ap (λ (l : Listed). l.order) c.in_ok-list_needs.ensures.ok in
    let slice : c.order_from.result.now ≡ drop (length c.args.walked.now.order) c.list_needs.new.walked.order =
    c.order_from.ensures.order ∙ ap (λ (xs : List ℕ). drop (length xs) c.list_needs.new.walked.order) c.order-start.ensures.order in
    on_ok_weaker c.add_copy.result
    (λ done. entry_exported_after c.args.uses.now (is_listed c.args.exported.now) e (inherited_by_export c.args.item.now) needed c.args.walked.now c.list_needs.new.walked c.order_from.result.now
    c.args.lists.now.imports c.add_walked.new.lists.imports c.args.lists.now.exports c.add_walked.new.lists.exports c.requires.state order slice c.in_ok-add_walked.ensures.imports c.in_ok-add_walked.ensures.exports c.add_copy.new.entries done)
    c.add_copy.ensures

pub returns-clause-imports : goal.returns-clause-imports
returns-clause-imports c =
    let e : Entry = (c.args.key.now, c.args.item.now) in
    let needed : List ℕ = dependencies_before c.args.uses.now (Instance c.args.interface) in
    let order : c.list_needs.new.walked.order ≡ c.args.walked.now.order ++ fresh c.args.walked.now.order needed = ap (λ (l : Listed). l.order) c.in_ok-list_needs.ensures.ok in
    let slice : c.order_from.result.now ≡ drop (length c.args.walked.now.order) c.list_needs.new.walked.order =
    c.order_from.ensures.order ∙ ap (λ (xs : List ℕ). drop (length xs) c.list_needs.new.walked.order) c.order-start.ensures.order in
    on_ok_weaker c.add_copy.result
    (λ done. imports_added c.args.uses.now (is_listed c.args.exported.now) e (inherited_by_export c.args.item.now) needed c.args.walked.now c.list_needs.new.walked c.order_from.result.now
    c.args.lists.now.imports c.add_walked.new.lists.imports c.args.lists.now.exports c.add_walked.new.lists.exports c.requires.state order slice c.in_ok-add_walked.ensures.imports c.in_ok-add_walked.ensures.exports)
    c.add_copy.ensures

pub returns-clause-state : goal.returns-clause-state
returns-clause-state c =
    let e : Entry = (c.args.key.now, c.args.item.now) in
    let needed : List ℕ = dependencies_before c.args.uses.now (Instance c.args.interface) in
    let order : c.list_needs.new.walked.order ≡ c.args.walked.now.order ++ fresh c.args.walked.now.order needed = ap (λ (l : Listed). l.order) c.in_ok-list_needs.ensures.ok in
    let slice : c.order_from.result.now ≡ drop (length c.args.walked.now.order) c.list_needs.new.walked.order =
    c.order_from.ensures.order ∙ ap (λ (xs : List ℕ). drop (length xs) c.list_needs.new.walked.order) c.order-start.ensures.order in
    on_ok_weaker c.add_copy.result
    (λ done. exporting_entry c.args.uses.now (is_listed c.args.exported.now) e (inherited_by_export c.args.item.now) needed c.args.walked.now c.list_needs.new.walked c.order_from.result.now
    c.args.lists.now.imports c.add_walked.new.lists.imports c.args.lists.now.exports c.add_walked.new.lists.exports c.requires.state order slice c.in_ok-add_walked.ensures.imports c.in_ok-add_walked.ensures.exports c.add_copy.new.entries done
    c.in_ok-list_needs.ensures.post_order)
    c.add_copy.ensures
