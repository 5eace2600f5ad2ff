-- The transformed world of a valid graph is good and canonical.
use Rattle.std.proofs.Common.{◌≡◌, ◌⊎◌, inl, inr, ℕ, true, List, ◌++◌, length, Some, slice_get, refl, sym, subst, Contains}
use Rattle.std.proofs.lemmas.List.{length-map}
use Rattle.std.proofs.lemmas.List.Elements.{Contains-append_cases}
use Rattle.wit_data.specs.Ownership.{entry_type, world_types}
use Rattle.wit_data.specs.Uses.{interface_uses, uses_of}
use Rattle.wit_data.specs.declared.world.World.{World}
use Rattle.wit_data.specs.declared.world.WorldItem.{WorldItem}
use Rattle.wit_data.specs.declared.world.WorldKey.{WorldKey}
use Rattle.wit_data.specs.declared.world.WorldItem.TheVariants as item
use Rattle.wit_data.specs.declared.world.WorldKey.TheVariants as key
use Rattle.wit_digraph.specs.facts.MemberFacts.{Contains-flat_map, Contains-flat_map_cases, Contains-nil}
use Rattle.wit_elaboration.specs.facts.Classes.{in_by_class}
use Rattle.wit_elaboration.specs.facts.Filters.{Contains-filter, Contains-filtered}
use Rattle.wit_elaboration.specs.Elaborated.{Elaborated, without_span}
use Rattle.wit_elaboration.specs.Elaboration.{graph_uses}
use Rattle.wit_elaboration.specs.Entries.{Entry, by_class}
use Rattle.wit_elaboration.specs.Imported.{HasTransitiveConflict}
use Rattle.wit_elaboration.specs.laws.KeptByElaboration.{IsListedWithoutSpan, is_label, labelled, listed_without_span}
use Rattle.wit_elaboration.specs.Sound.{HasSoundEntries}
use Rattle.wit_elaboration.specs.facts.SoundFacts.{HasSoundEntries-of_world}
use Rattle.wit_elaboration.specs.Valid.{IsValid}
use Rattle.wit_graph_data.specs.declared.graph.Graph.{Graph}
use Rattle.wit_graph_theory.specs.facts.Covered.{IsDependency}
use Rattle.wit_graph_theory.specs.facts.EntryFacts.{key_entry, named_export}
use Rattle.wit_graph_theory.specs.facts.Good.{HasGoodThings, IsGoodExport, IsGoodImport, IsGoodWorld}
use Rattle.wit_graph_theory.specs.facts.GoodIsValid.{good_things}
use Rattle.wit_graph_theory.specs.facts.GoodWorlds.{dependency_export, dependency_import, export_from_import, import_from_export, without_span_is_good}
use Rattle.wit_graph_theory.specs.facts.ListFacts.{Contains-map, contained_at, place_of}
use Rattle.wit_graph_theory.specs.facts.NamedUses.{IsUsed_named}
use Rattle.wit_graph_theory.specs.facts.LawsOfElaboration.{LawsOfElaboration}
use Rattle.wit_transform.specs.facts.ListsFrom.{ComesFrom}
use Rattle.wit_transform.specs.Transformed.{WorldLists, is_type}
use Rattle.wit_transform.specs.steps.Parts.{listed_world, transformed_world}

abbrev entry : WorldKey → WorldItem → Entry
entry k held = (k, held)

-- a type that an entry lists stands under a label and has no span to lose
listed_is : (e : Entry) (n : List ℕ × ℕ) → Contains (entry_type e.0 e.1) n → (is_type e.1 ≡ true) × (is_label e.0 ≡ true) × (listed_without_span e ≡ e)
listed_is e n has = by e.0 e.1 has
  where
    by : (k : WorldKey) (held : WorldItem) → Contains (entry_type k held) n → (is_type held ≡ true) × (is_label k ≡ true) × (entry k (without_span held) ≡ entry k held)
    by (key.Name name) (item.Type_ t span) has = (refl, refl, refl)
    by (key.Name name) (item.Interface i stability docs span external_id) has = absurd (Contains-nil has)
    by (key.Name name) (item.Function fn) has = absurd (Contains-nil has)
    by (key.Interface f) held has = absurd (Contains-nil has)

module _ (g : Graph) (valid : IsValid g) (w : ℕ) (old : World) (there : slice_get g.worlds w ≡ Some old) (transform : WorldLists) (from : ComesFrom old transform) where
  abbrev pub uses : List (List ℕ)
  uses = uses_of g.types g.interfaces

  abbrev pub listed : World
  listed = listed_world old transform

  abbrev pub done : World
  done = transformed_world g old transform

  things : HasGoodThings g
  things = good_things g valid

  -- the entries of the old world, as imports
  pub old_entry : (e : Entry) → Contains (old.imports ++ old.exports) e → IsGoodImport g.types g.interfaces w old e
  old_entry e has =
      elim (Contains-append_cases old.imports old.exports e has) [
        | inl among ↦ let place = place_of old.imports e among in (things.worlds w old there).imports place.0 e place.1
        | inr among ↦
            let place = place_of old.exports e among in
            let export = (things.worlds w old there).exports place.0 e place.1 in
            record { is = import_from_export g.interfaces g.types w e.0 e.1 export.is; own = export.own; home = export.home }
      ]

  exported : (e : Entry) → Contains transform.exports e → IsGoodExport g.types g.interfaces w old e
  exported e has =
      let comes = from.exports e has in
      let good = old_entry e comes.0 in
      record { is = export_from_import g.interfaces g.types w e.0 e.1 good.is comes.1; own = good.own; home = good.home }

  -- the new lists are in order
  pub in_order_over : (n : ℕ) → n ≡ length g.interfaces → HasSoundEntries g.types n transform.imports transform.exports
  in_order_over n same =
      subst (λ (m : ℕ). HasSoundEntries g.types m transform.imports transform.exports) (sym same)
      (HasSoundEntries-of_world g.types g.interfaces valid.well_formed.references.aliases w listed (λ i e on. (old_entry e (from.imports e (contained_at transform.imports i e on))).is)
      (λ i e on. (exported e (contained_at transform.exports i e on)).is))

  pub in_order : HasSoundEntries g.types (length uses) transform.imports transform.exports
  in_order = in_order_over (length uses) (length-map g.interfaces (interface_uses g.types))

  module _ (laws : LawsOfElaboration) (no_conflict : HasTransitiveConflict (graph_uses g) transform.exports → ⊥) where
    pub is_elaborated : Elaborated g.types uses listed done
    is_elaborated = record { no_conflict = no_conflict; world_is = refl }

    -- an import of the transformed world was listed, or is a named interface that elaboration adds
    pub import_from : (e : Entry) → Contains done.imports e → IsListedWithoutSpan transform.imports e ⊎ IsDependency g.interfaces e
    import_from e has =
        elim ((laws.entries g.types uses listed done e valid.no_cycles.uses in_order is_elaborated).0 has) [
          | inl stays ↦ inl stays
          | inr made ↦
              inr (subst (IsDependency g.interfaces) (sym made.2)
              (record { f = made.1; key = refl; held = refl; named = IsUsed_named g.types g.interfaces valid.well_formed.references.aliases transform.imports made.1 made.3 }))
        ]

    pub export_from : (e : Entry) → Contains done.exports e → Contains transform.exports e ⊎ IsDependency g.interfaces e
    export_from e has =
        elim ((laws.entries g.types uses listed done e valid.no_cycles.uses in_order is_elaborated).1 has) [
          | inl stays ↦ inl stays
          | inr made ↦
              let entry = key_entry transform.exports made.1 made.3 in
              inr (subst (IsDependency g.interfaces) (sym made.2)
              (record { f = made.1; key = refl; held = refl; named = named_export g.interfaces entry.0.0 entry.0.1 made.1 entry.2 (exported entry.0 entry.1).is }))
        ]

    good_settled : (f : Entry) → Contains transform.imports f → IsGoodImport g.types g.interfaces w done (listed_without_span f)
    good_settled f has =
        let good = old_entry f (from.imports f has) in without_span_is_good g.types g.interfaces w done f (record { is = good.is; own = good.own; home = good.home })

    -- the transformed world is good
    pub done_is_good : IsGoodWorld g.types g.interfaces w done
    done_is_good =
        let distinct = laws.distinct g.types uses listed done valid.no_cycles.uses in_order is_elaborated in
        record {
          imports = λ i e on. elim (import_from e (contained_at done.imports i e on)) [
            | inl stays ↦ subst (IsGoodImport g.types g.interfaces w done) (sym stays.2) (good_settled stays.0 stays.1)
            | inr added ↦ dependency_import g w done e added
          ];
          exports = λ i e on. elim (export_from e (contained_at done.exports i e on)) [
            | inl stays ↦ let good = exported e stays in record { is = good.is; own = good.own; home = good.home }
            | inr added ↦ dependency_export g w done e added
          ];
          distinct_imports = distinct.0;
          distinct_exports = distinct.1 from.distinct_exports;
          no_includes = (things.worlds w old there).no_includes;
        }

    -- and canonical
    pub done_is_canonical : Elaborated g.types uses done done
    done_is_canonical = laws.once g.types uses listed done valid.no_cycles.uses in_order is_elaborated

    -- the world lists the types that it listed
    pub types_stay : (n : List ℕ × ℕ) → Contains (world_types old) n → Contains (world_types done) n
    types_stay n has =
        let entry = Contains-flat_map_cases (λ (e : Entry). entry_type e.0 e.1) old.imports n has in
        let is = listed_is entry.0 n entry.1.1 in
        let sorted = in_by_class g.types transform.imports entry.0 (from.types entry.0 entry.1.0 is.0) in
        let under : Contains (labelled (by_class g.types transform.imports)) entry.0 = Contains-filtered (λ (e : Entry). is_label e.0) (by_class g.types transform.imports) entry.0 sorted is.1 in
        let stays = laws.labels g.types uses listed done valid.no_cycles.uses in_order from.distinct_imports is_elaborated in
        let among : Contains (labelled done.imports) (listed_without_span entry.0) = subst (λ (es : List Entry). Contains es (listed_without_span entry.0)) (sym stays) (Contains-map listed_without_span (labelled (by_class g.types transform.imports)) entry.0 under) in
        let import = (Contains-filter (λ (e : Entry). is_label e.0) done.imports (listed_without_span entry.0) among).0 in
        Contains-flat_map (λ (e : Entry). entry_type e.0 e.1) done.imports entry.0 n (subst (Contains done.imports) is.2 import) entry.1.1
