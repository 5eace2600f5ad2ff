use Rattle.std.proofs.Common.{◌≡◌, sym, ap, ◌∙◌}
use Rattle.std.proofs.lemmas.Map.Iter.{rest_more}
use Rattle.std.specs.List.{flat_map}
use Rattle.std.specs.Map.Iter.{deref_pair}
use Rattle.wit_elaboration.specs.Elaborated.{import_with_needs}
use Rattle.wit_elaboration.specs.Entries.{Entry, Role, elaboration_class, role_of}
use Rattle.wit_elaboration.proofs.FirstClasses.{class_first}
use Rattle.wit_elaboration.specs.facts.FreshEntries.{fresh_entries-left}
use Rattle.wit_elaboration.proofs.imports.import_class.Goals as goal

pub loop-key-preserved-in-Continue-1 : goal.loop-key-preserved-in-Continue-1
loop-key-preserved-in-Continue-1 c =
    let e : Entry = (c.in-Some.key.now, c.in-Some.item.now) in
    let post_order = import_with_needs c.args.types.now c.args.uses.now in
    let class : c.class.result ≡ elaboration_class (role_of c.args.types.now e.1) = c.class.ensures ∙ ap (λ (r : Role). elaboration_class r) c.of.ensures in
    let first = class_first c.args.types.now c.args.class (rest_more deref_pair _ _ _ _ c.in-Some.is c.next.ensures.steps) (sym class ∙ c.if-class.true) in
    record {
      imports_are = fresh_entries-left _ (post_order e) _ _ _ _ (ap (flat_map post_order) first) c.loop-key.invariant.imports_are c.in_ok-import_entry.ensures.imports;
      nodes = c.in_ok-import_entry.ensures.nodes ∙ c.loop-key.invariant.nodes;
      state = c.in_ok-import_entry.ensures.state;
    }
