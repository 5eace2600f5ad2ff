-- The worlds of two graphs that are one, elaborated: where no interface uses itself and no world is in conflict, they
-- list the types that they listed and come of the two graphs as before, and each is its own elaboration.
use Rattle.std.proofs.Common.{◌≡◌, ◌⊎◌, inl, inr, ℕ, List, [], length, Some, slice_get, refl, sym, subst, Contains}
use Rattle.wit_digraph.specs.facts.MemberFacts.{Contains-cons_cases, Contains-flat_map_cases, Contains-nil}
use Rattle.wit_data.specs.Each.{Each, SomeAt}
use Rattle.wit_data.specs.Entries.{Entry, IsExport}
use Rattle.wit_data.specs.Ownership.{IsNamed, world_types}
use Rattle.wit_data.specs.declared.interface.Interface.{Interface}
use Rattle.wit_data.specs.declared.world.World.{World}
use Rattle.wit_data.specs.declared.world.WorldItem.{WorldItem}
use Rattle.wit_data.specs.declared.world.WorldKey.{WorldKey}
use Rattle.wit_data.specs.declared.world.WorldItem.TheVariants as item
use Rattle.wit_data.specs.declared.world.WorldKey.TheVariants as key
use Rattle.wit_elaboration.specs.facts.Classes.{in_by_class}
use Rattle.wit_elaboration.specs.facts.Filters.{Contains-filter, Contains-filtered}
use Rattle.wit_elaboration.specs.Elaborated.{Elaborated}
use Rattle.wit_elaboration.specs.Elaboration.{graph_uses}
use Rattle.wit_elaboration.specs.Entries.{by_class, key_interface}
use Rattle.wit_elaboration.specs.laws.KeptByElaboration.{IsListedWithoutSpan, IsMadeExport, IsMadeImport, IsUsed, is_label, labelled, listed_without_span}
use Rattle.wit_elaboration.specs.Sound.{HasSoundEntries}
use Rattle.wit_elaboration.specs.Valid.{IsValid}
use Rattle.wit_graph_data.specs.declared.graph.Graph.{Graph}
use Rattle.wit_elaboration.specs.AllElaborated.{elaborated_world}
use Rattle.wit_graph_theory.specs.facts.Covered.{IsCovered, WorldComes}
use Rattle.wit_graph_theory.specs.facts.ElaboratedCome.{elaborated_comes}
use Rattle.wit_remap_spec.specs.steps.Kept.{everything}
use Rattle.wit_graph_theory.specs.facts.LawsOfElaboration.{LawsOfElaboration}
use Rattle.wit_graph_theory.specs.facts.ListFacts.{Contains-map, at_map, contained_at, found_at, from_map, place_of, some_at}
use Rattle.wit_graph_theory.specs.facts.NamedUses.{IsUsed_named}
use Rattle.wit_graph_theory.specs.Operations.{merge_sources}
use Rattle.wit_graph_theory.specs.steps.Sources.{Carries, Source, WorldStands}
use Rattle.wit_merge_spec.specs.Matches.{GraphMerge}
use Rattle.wit_merge_spec.specs.Merged.{merge_maps, joined_graph, merged}
use Rattle.wit_merge_spec.specs.Cause.{HasNoMismatch}
use Rattle.wit_merge_laws.specs.facts.InterfacesStand as interfaces
use Rattle.wit_merge_laws.specs.facts.JoinedGood.{MergeCanElaborate, aliases, in_order, listed_exports}
use Rattle.wit_merge_laws.specs.facts.ListedStand.{worlds_come}
use Rattle.wit_merge_laws.specs.facts.TypesStand as types
use Rattle.wit_merge_laws.specs.facts.WorldsStand.{entry, joined_stands, listed_by, lists_it}
use Rattle.wit_elaboration.specs.steps.Parts.{exported_keys}

-- an exported key is that of an interface with a name
pub named_key : (interfaces : List Interface) (k : WorldKey) (held : WorldItem) (j : ℕ) → Contains (key_interface k) j → IsExport interfaces k held → IsNamed interfaces j
named_key interfaces (key.Name name) held j has is = absurd (Contains-nil has)
named_key interfaces (key.Interface f) (item.Interface i stability docs span external_id) j has is = elim (Contains-cons_cases f j [] has) [
  | inl same ↦ subst (IsNamed interfaces) same is.1
  | inr none ↦ absurd (Contains-nil none)
]
named_key interfaces (key.Interface f) (item.Function fn) j has is = absurd is
named_key interfaces (key.Interface f) (item.Type_ t span) j has is = absurd is

module _ (laws : LawsOfElaboration) (m : GraphMerge) (valid : IsValid m.graph) (valid_other : IsValid m.other) (one : HasNoMismatch m) (can : MergeCanElaborate m) where
  abbrev g : Graph
  g = joined_graph m

  abbrev at : ℕ → Source
  at = merge_sources m.graph m.other (merge_maps m)

  module _ (w' : ℕ) (listed : World) (there : slice_get g.worlds w' ≡ Some listed) where
    abbrev order : HasSoundEntries g.types (length (graph_uses g)) listed.imports listed.exports
    order = in_order m valid valid_other one w' listed there

    pub is_elaborated : Elaborated g.types (graph_uses g) listed (elaborated_world g listed)
    is_elaborated = record { no_conflict = can.clear listed (contained_at g.worlds w' listed there); world_is = refl }

    -- the world lists the types that it listed
    pub types_listed : (name : List ℕ) (t : ℕ) → Contains (world_types listed) (name, t) → Contains (world_types (elaborated_world g listed)) (name, t)
    types_listed name t has =
        let done = elaborated_world g listed in
        let by = listed_by listed name t has in
        let e : Entry = entry (key.Name name) (item.Type_ t by.span) in
        let sorted = in_by_class g.types listed.imports e by.has in
        let under : Contains (labelled (by_class g.types listed.imports)) e = Contains-filtered (λ (d : Entry). is_label d.0) (by_class g.types listed.imports) e sorted refl in
        let stays = laws.labels g.types (graph_uses g) listed done can.acyclic order (worlds_come m valid valid_other w' listed there).distinct_imports is_elaborated in
        let among : Contains (labelled done.imports) (listed_without_span e) = subst (λ (es : List Entry). Contains es (listed_without_span e)) (sym stays) (Contains-map listed_without_span (labelled (by_class g.types listed.imports)) e under) in
        lists_it done name t by.span (Contains-filter (λ (d : Entry). is_label d.0) done.imports (listed_without_span e) among).0

    -- what elaboration adds has a name
    pub used_is_named : (j : ℕ) → IsUsed g.types (graph_uses g) listed.imports j → IsNamed g.interfaces j
    used_is_named j used = IsUsed_named g.types g.interfaces (aliases m valid valid_other one) listed.imports j used

    pub exported_is_named : (j : ℕ) → Contains (exported_keys listed.exports) j → IsNamed g.interfaces j
    exported_is_named j has =
        let from = Contains-flat_map_cases (λ (e : Entry). key_interface e.0) listed.exports j has in
        let place = place_of listed.exports from.0 from.1.0 in
        named_key g.interfaces from.0.0 from.0.1 j from.1.1 (listed_exports m valid valid_other one w' listed there place.0 from.0 place.1)

    -- an entry was listed, or is added
    pub entries_from : (e : Entry) → (Contains (elaborated_world g listed).imports e → IsListedWithoutSpan listed.imports e ⊎ IsMadeImport g.types (graph_uses g) listed.imports listed.exports e)
        × (Contains (elaborated_world g listed).exports e → Contains listed.exports e ⊎ IsMadeExport listed.exports e)
    entries_from e = laws.entries g.types (graph_uses g) listed (elaborated_world g listed) e can.acyclic order is_elaborated

    -- it comes of the two graphs
    pub elaborated_world_comes : WorldComes at g w' (elaborated_world g listed)
    elaborated_world_comes =
        elaborated_comes at g w' listed (elaborated_world g listed) laws.entries laws.distinct can.acyclic order used_is_named exported_is_named
        (worlds_come m valid valid_other w' listed there) is_elaborated (worlds_come m valid valid_other w' listed there).no_includes

    -- and is its own elaboration
    pub is_canonical : Elaborated g.types (graph_uses g) (elaborated_world g listed) (elaborated_world g listed)
    is_canonical = laws.once g.types (graph_uses g) listed (elaborated_world g listed) can.acyclic order is_elaborated

  -- ---- the merged graph

  pub merged_canonical : Each (λ (world : World). Elaborated g.types (graph_uses g) world world) (merged m).worlds
  merged_canonical w' world there =
      let from = from_map (elaborated_world g) g.worlds w' world there in
      subst (λ (x : World). Elaborated g.types (graph_uses g) x x) from.2 (is_canonical w' from.0 from.1)

  -- what stood stands
  stands_so : (s : Source) (w w' : ℕ) (old : World) → SomeAt g.worlds w' (WorldStands s w old) → SomeAt (merged m).worlds w' (WorldStands s w old)
  stands_so s w w' old stands =
      let found = found_at (WorldStands s w old) g.worlds w' stands in
      some_at (WorldStands s w old) (merged m).worlds w' (elaborated_world g found.0) (at_map (elaborated_world g) g.worlds w' found.0 found.1) (record {
        types = λ name t has taken. types_listed w' found.0 found.1 (s.maps.labels w name) (s.maps.types t) (found.2.types name t has taken);
        home = found.2.home;
      })

  pub merged_stands : (k : ℕ) → Carries (at k) (merged m)
  merged_stands k =
      let stands = joined_stands m valid valid_other one k in
      record { types = stands.types; values = stands.values; interfaces = stands.interfaces; worlds = λ w old there takes. stands_so (at k) w ((at k).maps.worlds w) old (stands.worlds w old there takes) }

  pub merged_covered : IsCovered everything at (merged m)
  merged_covered = record {
    types = λ t' new there takes. types.types_come m valid valid_other (merged m) t' new there;
    interfaces = λ f' new there takes. interfaces.interfaces_come m valid valid_other f' new there;
    worlds = λ w' new there takes.
        let from = from_map (elaborated_world g) g.worlds w' new there in
        let comes = subst (WorldComes at g w') from.2 (elaborated_world_comes w' from.0 from.1) in
        record { imports = comes.imports; exports = comes.exports; distinct_imports = comes.distinct_imports; distinct_exports = comes.distinct_exports; no_includes = comes.no_includes };
  }
