use Rattle.std.proofs.Common.{inr, List, Contains, sym, subst}
use Rattle.std.specs.Map.{keys_of}
use Rattle.wit_data.specs.declared.world.WorldKey.TheVariants as key
use Rattle.wit_elaboration.specs.Entries.{Entry}
use Rattle.wit_graph_theory.specs.facts.ListFacts.{contained_at}
use Rattle.wit_transform.specs.Transformed.{type_entries}
use Rattle.wit_transform.specs.facts.Distinct.{key_of_entry}
use Rattle.wit_transform.proofs.new_lists.importized_lists.Goals as goal

pub add_copies-requires : goal.add_copies-requires
add_copies-requires c =
    λ k has other.
    let among : Contains (keys_of (type_entries c.args.world.now.imports)) k = subst (λ (es : List Entry). Contains (keys_of es) k) c.in_ok-imports.ensures other in
    let label = c.requires k among in
    c.in-None.ensures.none label.0 (subst (Contains (keys_of c.args.world.now.exports)) label.1 has) (subst (Contains (keys_of c.in_ok-imports.imports)) label.1 other)

pub returns-in_ok-add_copies-in-None-clause-no_clash : goal.returns-in_ok-add_copies-in-None-clause-no_clash
returns-in_ok-add_copies-in-None-clause-no_clash c =
    λ label clash. c.in-None.ensures.none label clash.0 (subst (λ (es : List Entry). Contains (keys_of es) (key.Name label)) (sym c.in_ok-imports.ensures) clash.1)

pub returns-in_ok-label_clash-in-Some-clause-cause : goal.returns-in_ok-label_clash-in-Some-clause-cause
returns-in_ok-label_clash-in-Some-clause-cause c =
    let told = c.in-Some.ensures.some in
    let exports = c.args.world.now.exports in
    inr (
      c.in-Some.label.now,
      (
        key_of_entry exports _ (contained_at exports told.index _ told.here),
        subst (λ (es : List Entry). Contains (keys_of es) (key.Name c.in-Some.label.now)) c.in_ok-imports.ensures told.common,
      ),
      c.in_ok-label_clash-in-Some.ensures,
    )
