-- The worlds of a semver-merged graph are good and canonical.
use Rattle.std.proofs.Common.{◌≡◌, ◌∙◌, ◌⊎◌, inl, inr, ℕ, Bool, true, false, not, List, [], ◌∷◌, Option, Some, length, slice_get, refl, sym, ap, subst, Contains}
use Rattle.std.specs.List.{list_any}
use Rattle.wit_values.specs.Table.{HasDistinctKeys}
use Rattle.wit_digraph.specs.facts.MemberFacts.{Contains-flat_map, Contains-flat_map_cases, Contains-nil}
use Rattle.wit_digraph.specs.Relation.{IsAcyclic}
use Rattle.wit_data.specs.Entries.{is_unnamed, item_interface, entries_of}
use Rattle.wit_data.specs.Ownership.{entry_type, world_types}
use Rattle.wit_data.specs.declared.interface.Interface.{Interface}
use Rattle.wit_data.specs.declared.types.TypeDef.{TypeDef}
use Rattle.wit_data.specs.declared.world.World.{World}
use Rattle.wit_data.specs.declared.world.WorldItem.{WorldItem}
use Rattle.wit_data.specs.declared.world.WorldKey.{WorldKey}
use Rattle.wit_data.specs.declared.world.WorldItem.TheVariants as item
use Rattle.wit_data.specs.declared.world.WorldKey.TheVariants as key
use Rattle.wit_elaboration.specs.facts.Classes.{in_by_class}
use Rattle.wit_elaboration.specs.facts.Filters.{Contains-filter, Contains-filtered}
use Rattle.wit_elaboration.specs.Elaborated.{Elaborated, without_span}
use Rattle.wit_elaboration.specs.Entries.{Entry, by_class, key_interface}
use Rattle.wit_elaboration.specs.laws.KeptByElaboration.{IsListedWithoutSpan, is_label, labelled, listed_without_span}
use Rattle.wit_elaboration.specs.Sound.{HasSoundEntries}
use Rattle.wit_elaboration.specs.Valid.{IsOfPackage, IsValid}
use Rattle.wit_graph_data.specs.declared.graph.Graph.{Graph}
use Rattle.wit_graph_theory.specs.facts.Covered.{IsDependency}
use Rattle.wit_graph_theory.specs.facts.CutIsGood.{distinct_kept}
use Rattle.wit_graph_theory.specs.facts.EntryFacts.{key_entry, named_export}
use Rattle.wit_graph_theory.specs.facts.Good.{HasGoodThings, IsGoodExport, IsGoodImport, IsGoodWorld}
use Rattle.wit_graph_theory.specs.facts.GoodIsValid.{good_things}
use Rattle.wit_graph_theory.specs.facts.GoodWorlds.{dependency_export, dependency_import, same_one, without_span_is_good}
use Rattle.wit_graph_theory.specs.facts.ListFacts.{Contains-map, contained_at, from_map, place_of, same_at}
use Rattle.wit_graph_theory.specs.facts.NamedUses.{IsUsed_named}
use Rattle.wit_graph_theory.specs.steps.UnnamedOnce.{StandsOnceOnly}
use Rattle.wit_graph_theory.specs.facts.UnnamedOnceCarried.{named_not}
use Rattle.wit_graph_theory.specs.facts.UnnamedOnceFrom.{StandsOnceOnly-from_once}
use Rattle.wit_elaboration.specs.AllElaborated.{all_elaborated, elaborated_world}
use Rattle.wit_graph_theory.specs.facts.ElaboratedCome.{interface_without_span}
use Rattle.wit_graph_theory.specs.facts.LawsOfElaboration.{LawsOfElaboration}
use Rattle.wit_semver.specs.SemverMerged.{with_new_entries_at, SemverMerge, is_replaced, SemverMergeIsAccepted}
use Rattle.wit_semver.specs.facts.Accepting.{Relisted, elaborates, in_order, new_aliases, new_exports, new_imports, new_types, new_uses, relisted_from, relisted_worlds, uses_acyclic}
use Rattle.wit_semver.specs.facts.TypesGood.{item_own_after}
use Rattle.wit_semver.specs.steps.Parts.{is_replaced_entry}

abbrev entry : WorldKey → WorldItem → Entry
entry k held = (k, held)

-- a type that an entry lists stands under a label, has no span to lose, and isn't replaced
listed_is : (u : SemverMerge) (e : Entry) (n : List ℕ × ℕ) → Contains (entry_type e.0 e.1) n → (not (is_replaced_entry u e) ≡ true) × (is_label e.0 ≡ true) × (listed_without_span e ≡ e)
listed_is u e n has = by e.0 e.1 has
  where
    by : (k : WorldKey) (held : WorldItem) → Contains (entry_type k held) n → (not (list_any (is_replaced u) (key_interface k)) ≡ true) × (is_label k ≡ true) × (entry k (without_span held) ≡ entry k held)
    by (key.Name name) (item.Type_ t span) has = (refl, refl, refl)
    by (key.Name name) (item.Interface i stability docs span external_id) has = absurd (Contains-nil has)
    by (key.Name name) (item.Function fn) has = absurd (Contains-nil has)
    by (key.Interface f) held has = absurd (Contains-nil has)

module _ (laws : LawsOfElaboration) (u : SemverMerge) (valid : IsValid u.graph) (w : ℕ) (there : slice_get u.graph.worlds w ≡ Some u.world) (accepted : SemverMergeIsAccepted u.rule u.graph w) where
  abbrev types : List TypeDef
  types = new_types u valid w there

  abbrev uses : List (List ℕ)
  uses = new_uses u valid w there

  abbrev interfaces : List Interface
  interfaces = u.graph.interfaces

  abbrev pub with_new_entries : Graph
  with_new_entries = with_new_entries_at u w

  acyclic : IsAcyclic uses
  acyclic = uses_acyclic u valid w there accepted

  things : HasGoodThings u.graph
  things = good_things u.graph valid

  module _ (v : ℕ) (listed : World) (at : slice_get (relisted_worlds u valid w there) v ≡ Some listed) where
    pub from : Relisted u valid w there v listed
    from = relisted_from u valid w there v listed at

    abbrev pub done : World
    done = elaborated_world with_new_entries listed

    order : HasSoundEntries types (length uses) listed.imports listed.exports
    order = in_order u valid w there v listed at

    is_elaborated : Elaborated types uses listed done
    is_elaborated = elaborates u valid w there accepted laws.refused v listed at

    pub same_package : done.package ≡ from.before.package
    same_package = ap (λ (x : World). x.package) from.is

    pub same_name : done.name ≡ from.before.name
    same_name = ap (λ (x : World). x.name) from.is

    same_exports : listed.exports ≡ from.before.exports
    same_exports = ap (λ (x : World). x.exports) from.is

    good_listed : (e : Entry) → Contains listed.imports e → IsGoodImport types interfaces v done e
    good_listed e has =
        let place = place_of listed.imports e has in
        let before = place_of from.before.imports e (from.imports e has) in
        let good = (things.worlds v from.before from.at).imports before.0 e before.1 in
        record {
          is = new_imports u valid w there v listed at place.0 e place.1;
          own = item_own_after u valid w there v e.1 good.own;
          home = subst (λ (home : Option ℕ). IsOfPackage interfaces home e.1) (sym same_package) good.home;
        }

    good_export : (e : Entry) → Contains listed.exports e → IsGoodExport types interfaces v done e
    good_export e has =
        let place = place_of listed.exports e has in
        let before = place_of from.before.exports e (subst (λ (es : List Entry). Contains es e) same_exports has) in
        let good = (things.worlds v from.before from.at).exports before.0 e before.1 in
        record {
          is = new_exports u valid w there v listed at place.0 e place.1;
          own = item_own_after u valid w there v e.1 good.own;
          home = subst (λ (home : Option ℕ). IsOfPackage interfaces home e.1) (sym same_package) good.home;
        }

    -- an import was listed, or is a named interface that elaboration adds; and so is an export
    pub import_from : (e : Entry) → Contains done.imports e → IsListedWithoutSpan listed.imports e ⊎ IsDependency interfaces e
    import_from e has =
        elim ((laws.entries types uses listed done e acyclic order is_elaborated).0 has) [
          | inl stays ↦ inl stays
          | inr made ↦
              inr (subst (IsDependency interfaces) (sym made.2)
              (record { f = made.1; key = refl; held = refl; named = IsUsed_named types interfaces (new_aliases u valid w there) listed.imports made.1 made.3 }))
        ]

    pub export_from : (e : Entry) → Contains done.exports e → Contains listed.exports e ⊎ IsDependency interfaces e
    export_from e has =
        elim ((laws.entries types uses listed done e acyclic order is_elaborated).1 has) [
          | inl stays ↦ inl stays
          | inr made ↦
              let entry = key_entry listed.exports made.1 made.3 in
              inr (subst (IsDependency interfaces) (sym made.2)
              (record { f = made.1; key = refl; held = refl; named = named_export interfaces entry.0.0 entry.0.1 made.1 entry.2 (good_export entry.0 entry.1).is }))
        ]

    good_settled : (f : Entry) → Contains listed.imports f → IsGoodImport types interfaces v done (listed_without_span f)
    good_settled f has = without_span_is_good types interfaces v done f (good_listed f has)

    listed_distinct : HasDistinctKeys listed.imports
    listed_distinct = elim from.either [
      | inl here ↦ subst (λ (x : World). HasDistinctKeys x.imports) (sym here.1) (distinct_kept (λ (e : Entry). not (is_replaced_entry u e)) u.world.imports (things.worlds w u.world there).distinct_imports)
      | inr same ↦ subst (λ (x : World). HasDistinctKeys x.imports) (sym same) (things.worlds v from.before from.at).distinct_imports
    ]

    exports_distinct : HasDistinctKeys listed.exports
    exports_distinct = subst (λ (es : List Entry). HasDistinctKeys es) (sym same_exports) (things.worlds v from.before from.at).distinct_exports

    pub done_is_good : IsGoodWorld types interfaces v done
    done_is_good =
        let distinct = laws.distinct types uses listed done acyclic order is_elaborated in
        record {
          imports = λ i e on. elim (import_from e (contained_at done.imports i e on)) [
            | inl stays ↦ subst (IsGoodImport types interfaces v done) (sym stays.2) (good_settled stays.0 stays.1)
            | inr added ↦ dependency_import with_new_entries v done e added
          ];
          exports = λ i e on. elim (export_from e (contained_at done.exports i e on)) [ inl stays ↦ good_export e stays | inr added ↦ dependency_export with_new_entries v done e added ];
          distinct_imports = distinct.0;
          distinct_exports = distinct.1 exports_distinct;
          no_includes = ap (λ (x : World). x.includes) from.is ∙ (things.worlds v from.before from.at).no_includes;
        }

    pub done_is_canonical : Elaborated types uses done done
    done_is_canonical = laws.once types uses listed done acyclic order is_elaborated

    -- the world lists the types that it listed
    pub types_stay : (n : List ℕ × ℕ) → Contains (world_types from.before) n → Contains (world_types done) n
    types_stay n has =
        let entry = Contains-flat_map_cases (λ (e : Entry). entry_type e.0 e.1) from.before.imports n has in
        let is = listed_is u entry.0 n entry.1.1 in
        let still : Contains listed.imports entry.0 = elim from.either [
          | inl here ↦
              let one = same_at u.graph.worlds v w from.before u.world here.0 from.at there in
              subst (λ (x : World). Contains x.imports entry.0) (sym here.1)
              (Contains-filtered (λ (e : Entry). not (is_replaced_entry u e)) u.world.imports entry.0 (subst (λ (x : World). Contains x.imports entry.0) one entry.1.0) is.0)
          | inr same ↦ subst (λ (x : World). Contains x.imports entry.0) (sym same) entry.1.0
        ] in
        let sorted = in_by_class types listed.imports entry.0 still in
        let under : Contains (labelled (by_class types listed.imports)) entry.0 = Contains-filtered (λ (e : Entry). is_label e.0) (by_class types listed.imports) entry.0 sorted is.1 in
        let stays = laws.labels types uses listed done acyclic order listed_distinct is_elaborated in
        let among : Contains (labelled done.imports) (listed_without_span entry.0) = subst (λ (es : List Entry). Contains es (listed_without_span entry.0)) (sym stays) (Contains-map listed_without_span (labelled (by_class types listed.imports)) entry.0 under) in
        let import = (Contains-filter (λ (e : Entry). is_label e.0) done.imports (listed_without_span entry.0) among).0 in
        Contains-flat_map (λ (e : Entry). entry_type e.0 e.1) done.imports entry.0 n (subst (Contains done.imports) is.2 import) entry.1.1

    -- ---- where an unnamed interface stood

    pub record Stood (b : Bool) (e : Entry) (f : ℕ) : Type 0 where
      pub place : ℕ
      pub before : Entry
      pub was : slice_get (entries_of b from.before) place ≡ Some before
      pub held : item_interface before.1 ≡ f ∷ []
      pub key : e.0 ≡ before.0

    pub stood : (b : Bool) (i f : ℕ) (e : Entry) → is_unnamed interfaces f ≡ true → slice_get (entries_of b done) i ≡ Some e → item_interface e.1 ≡ f ∷ [] → Stood b e f
    stood false i f e unnamed on held =
        elim (import_from e (contained_at done.imports i e on)) [
          | inl stays ↦
              let place = place_of from.before.imports stays.0 (from.imports stays.0 stays.1) in
              record { place = place.0; before = stays.0; was = place.1; held = sym (interface_without_span stays.0.1) ∙ ap (λ (d : Entry). item_interface d.1) (sym stays.2) ∙ held; key = ap (λ (d : Entry). d.0) stays.2 }
          | inr added ↦
              let same : added.f ≡ f = same_one added.f f (sym added.held ∙ held) in
              absurd (named_not interfaces added.f added.named (subst (λ (i : ℕ). is_unnamed interfaces i ≡ true) (sym same) unnamed))
        ]
    stood true i f e unnamed on held =
        elim (export_from e (contained_at done.exports i e on)) [
          | inl stays ↦
              let place = place_of from.before.exports e (subst (λ (es : List Entry). Contains es e) same_exports stays) in
              record { place = place.0; before = e; was = place.1; held = held; key = refl }
          | inr added ↦
              let same : added.f ≡ f = same_one added.f f (sym added.held ∙ held) in
              absurd (named_not interfaces added.f added.named (subst (λ (i : ℕ). is_unnamed interfaces i ≡ true) (sym same) unnamed))
        ]

    pub side_distinct : (b : Bool) → HasDistinctKeys (entries_of b done)
    side_distinct false = done_is_good.distinct_imports
    side_distinct true = done_is_good.distinct_exports

  -- ---- all worlds

  abbrev pub new : Graph
  new = all_elaborated with_new_entries

  pub record WorldFrom (v : ℕ) (world : World) : Type 0 where
    pub listed : World
    pub at : slice_get (relisted_worlds u valid w there) v ≡ Some listed
    pub is : done v listed at ≡ world

  pub world_from : (v : ℕ) (world : World) → slice_get new.worlds v ≡ Some world → WorldFrom v world
  world_from v world on = let came = from_map (elaborated_world with_new_entries) (relisted_worlds u valid w there) v world on in record { listed = came.0; at = came.1; is = came.2 }

  -- unnamed interfaces have one place
  one_place : StandsOnceOnly interfaces new.worlds
  one_place f v x b c i j unnamed first second =
      let a = world_from v first.world first.there in
      let d = world_from x second.world second.there in
      let on_a : slice_get (entries_of b (done v a.listed a.at)) i ≡ Some first.entry = subst (λ (y : World). slice_get (entries_of b y) i ≡ Some first.entry) (sym a.is) first.at in
      let on_d : slice_get (entries_of c (done x d.listed d.at)) j ≡ Some second.entry = subst (λ (y : World). slice_get (entries_of c y) j ≡ Some second.entry) (sym d.is) second.at in
      let s = stood v a.listed a.at b i f first.entry unnamed on_a first.held in
      let t = stood x d.listed d.at c j f second.entry unnamed on_d second.held in
      let places = StandsOnceOnly-from_once interfaces u.graph.worlds valid.well_formed.worlds.once f v x b c s.place t.place unnamed
      (record { world = (from v a.listed a.at).before; there = (from v a.listed a.at).at; entry = s.before; at = s.was; held = s.held })
      (record { world = (from x d.listed d.at).before; there = (from x d.listed d.at).at; entry = t.before; at = t.was; held = t.held }) in
      let befores = same_at u.graph.worlds v x (from v a.listed a.at).before (from x d.listed d.at).before places.0 (from v a.listed a.at).at (from x d.listed d.at).at in
      let lists : entries_of b (from v a.listed a.at).before ≡ entries_of c (from x d.listed d.at).before = λ k. entries_of (places.1 k) (befores k) in
      let entries = same_at (entries_of c (from x d.listed d.at).before) s.place t.place s.before t.before places.2 (subst (λ (es : List Entry). slice_get es s.place ≡ Some s.before) lists s.was) t.was in
      let keys : first.entry.0 ≡ second.entry.0 = s.key ∙ ap (λ (e : Entry). e.0) entries ∙ sym t.key in
      let worlds = same_at new.worlds v x first.world second.world places.0 first.there second.there in
      let moved : slice_get (entries_of b first.world) j ≡ Some second.entry = subst (λ (es : List Entry). slice_get es j ≡ Some second.entry) (λ k. entries_of (sym places.1 k) (sym worlds k)) second.at in
      let on_moved : slice_get (entries_of b (done v a.listed a.at)) j ≡ Some second.entry = subst (λ (y : World). slice_get (entries_of b y) j ≡ Some second.entry) (sym a.is) moved in
      (places.0, places.1, side_distinct v a.listed a.at b i j first.entry second.entry on_a on_moved keys)

  pub one_place_new : StandsOnceOnly interfaces new.worlds
  one_place_new = one_place
