use Rattle.std.proofs.Common.{◌++◌, List, ℕ, Bool, not, length, filter, ap, ◌∙◌}
use Rattle.std.specs.List.{flat_map}
use Rattle.std.specs.Map.{keys_of}
use Rattle.wit_elaboration.specs.Elaborated.{export_needs}
use Rattle.wit_elaboration.specs.Entries.{Entry, fresh_entries}
use Rattle.wit_elaboration.proofs.ElaboratedIs.{interfaces_below, imports_are, exports_are, listed_is}
use Rattle.wit_elaboration.proofs.Roles.{in_order}
use Rattle.wit_elaboration.proofs.elaboration.lists_of.Goals as goal
use Rattle.wit_elaboration.specs.steps.Parts.{export_with_needs, is_interface}

pub export_listed-requires-clause-in_range : goal.export_listed-requires-clause-in_range
export_listed-requires-clause-in_range c =
    interfaces_below c.args.types.now c.args.uses.now c.requires.acyclic c.args.world.now.imports c.args.world.now.exports
    (in_order c.args.types.now (length c.args.uses.now) c.args.world.now.imports c.args.world.now.exports c.requires.listed)

pub returns-clause-imports : goal.returns-clause-imports
returns-clause-imports c =
    let uses : List (List ℕ) = c.args.uses.now in
    let exports : List Entry = c.args.world.now.exports in
    let order = in_order c.args.types.now (length uses) c.args.world.now.imports exports c.requires.listed in
    let start : List Entry = c.in_ok-imports.imports in
    c.shrink.ensures
    ∙ imports_are c.args.types.now uses c.requires.acyclic c.args.world.now.imports exports order start c.export_listed.new.lists.imports c.in_ok-imports-2.imports c.in_ok-imports.ensures.imports
    (c.in_ok-export_listed.ensures.imports
    ∙ ap (λ (t : ℕ → Bool). start ++ fresh_entries (keys_of start) (flat_map (export_needs uses (λ i. not (t i))) exports)) (listed_is c.args.marks.now.exported exports c.requires.exported))
    c.in_ok-imports-2.ensures

pub returns-clause-exports : goal.returns-clause-exports
returns-clause-exports c =
    let uses : List (List ℕ) = c.args.uses.now in
    let exports : List Entry = c.args.world.now.exports in
    let order = in_order c.args.types.now (length uses) c.args.world.now.imports exports c.requires.listed in
    let start : List Entry = c.add_functions.new.exports in
    c.shrink-2.ensures
    ∙ exports_are c.args.types.now uses c.requires.acyclic c.args.world.now.imports exports order c.keys_differ.ensures.test start c.export_listed.new.lists.exports
    (c.in_ok-add_functions.ensures ∙ ap (λ (xs : List Entry). xs ++ fresh_entries (keys_of xs) (filter (λ (e : Entry). not (is_interface e)) exports)) c.new.ensures)
    (c.in_ok-export_listed.ensures.exports
    ∙ ap (λ (t : ℕ → Bool). start ++ fresh_entries (keys_of start) (flat_map (export_with_needs uses t) (filter is_interface exports))) (listed_is c.args.marks.now.exported exports c.requires.exported))
