use Rattle.std.proofs.Common.{◌++◌, ◌<◌, ℕ, Bool, List, length, filter, not, ap, ◌∙◌}
use Rattle.std.specs.List.{flat_map}
use Rattle.std.specs.Map.{keys_of}
use Rattle.std.specs.Map.Iter.{deref_pair}
use Rattle.std.proofs.lemmas.List.Elements.{All-contains}
use Rattle.std.proofs.lemmas.Map.Iter.{iter_turn, rest_more}
use Rattle.wit_elaboration.specs.steps.Elaborating.{is_listed}
use Rattle.wit_elaboration.specs.Entries.{Entry, fresh_entries, item_interface}
use Rattle.wit_elaboration.proofs.ExportSteps.{given_at}
use Rattle.wit_elaboration.proofs.Exporting.{exports_of, imports_of, instance_is}
use Rattle.wit_elaboration.specs.facts.Filters.{filter-pass}
use Rattle.wit_elaboration.specs.facts.FreshEntries.{fresh_entries-left}
use Rattle.wit_elaboration.proofs.exports.export_listed.Goals as goal
use Rattle.wit_elaboration.specs.steps.Parts.{export_with_needs, is_interface, exported_interfaces}
use Rattle.wit_elaboration.specs.Elaborated.{export_needs}

pub export_entry-requires-clause-interface : goal.export_entry-requires-clause-interface
export_entry-requires-clause-interface c =
    let at = (iter_turn deref_pair c.args.listed.now c.loop-key.yielded _ _ _ _ (c.into_iter-key-iterator.ensures.into_iter_gives ∙ c.iter-key-items.ensures.rest) c.loop-key.yielded_by _ c.in-Some.is c.next.ensures.steps).1 in
    let has = given_at (λ (f : Entry). item_interface f.1) c.args.listed.now (length c.loop-key.yielded) _ c.in-Some-item_interface.id at c.in-Some-item_interface.ensures in
    All-contains (λ i. i < length c.args.uses.now) (exported_interfaces c.args.listed.now) c.in-Some-item_interface.id c.requires.in_range has

pub loop-key-preserved-in-Continue-1 : goal.loop-key-preserved-in-Continue-1
loop-key-preserved-in-Continue-1 c =
    let e : Entry = (c.in-Some.key.now, c.in-Some.item.now) in
    let uses = c.args.uses.now in
    let exported : ℕ → Bool = is_listed c.args.exported.now in
    let first = rest_more deref_pair _ _ _ _ c.in-Some.is c.next.ensures.steps in
    let id = c.in-Some-item_interface.id in
    let gives = c.in-Some-item_interface.ensures in
    record {
      exports_are =
          fresh_entries-left _ (export_with_needs uses exported e) _ _ _ _ (ap (λ (xs : List Entry). flat_map (export_with_needs uses exported) xs) (ap (filter is_interface) first ∙ filter-pass is_interface e c.next.new.self (instance_is e.1 id gives))) c.loop-key.invariant.exports_are
          (c.in_ok-export_entry.ensures.exports ∙ ap (λ (xs : List Entry). c.loop-key.lists.exports ++ fresh_entries (keys_of c.loop-key.lists.exports) xs) (exports_of uses exported e id gives));
      imports_are =
          fresh_entries-left _ (export_needs uses (λ i. not (exported i)) e) _ _ _ _ (ap (λ (xs : List Entry). flat_map (export_needs uses (λ i. not (exported i))) xs) first) c.loop-key.invariant.imports_are
          (c.in_ok-export_entry.ensures.imports ∙ ap (λ (xs : List Entry). c.loop-key.lists.imports ++ fresh_entries (keys_of c.loop-key.lists.imports) xs) (imports_of uses exported e id gives));
      state = c.in_ok-export_entry.ensures.state;
      nodes = c.in_ok-export_entry.ensures.nodes ∙ c.loop-key.invariant.nodes;
    }
