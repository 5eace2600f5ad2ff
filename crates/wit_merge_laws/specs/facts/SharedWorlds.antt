-- A world that both graphs have imports the same interfaces under their own keys in both, and in what is made of them:
-- matched worlds have matched entries, so what is used there by either is imported by both.
use Rattle.std.proofs.Common.{◌≡◌, ◌∙◌, ◌⊎◌, inl, inr, ℕ, Bool, true, false, List, [], ◌∷◌, nat_eq, Option, None, Some, slice_get, refl, sym, ap, subst, Contains}
use Rattle.std.specs.List.{flat_map, list_any}
use Rattle.std.specs.Map.{lookup}
use Rattle.std.specs.Option.{option_map_or}
use Rattle.std.proofs.lemmas.Bool.{false≢true}
use Rattle.std.proofs.lemmas.Map.Views.{Contains-from_lookup}
use Rattle.wit_digraph.specs.facts.FreshFacts.{any_from_contains, contains_from_any}
use Rattle.wit_digraph.specs.facts.MemberFacts.{Contains-flat_map, Contains-flat_map_cases, Contains-here, Contains-nil}
use Rattle.wit_digraph.specs.Relation.{direct}
use Rattle.wit_data.specs.Entries.{Entry, IsImport, item_interface, entries_of}
use Rattle.wit_data.specs.Uses.{type_interface_dep}
use Rattle.wit_data.specs.declared.interface.Interface.{Interface}
use Rattle.wit_data.specs.declared.types.TypeDef.{TypeDef}
use Rattle.wit_data.specs.declared.world.World.{World}
use Rattle.wit_data.specs.declared.world.WorldItem.{WorldItem}
use Rattle.wit_data.specs.declared.world.WorldKey.{WorldKey}
use Rattle.wit_data.specs.declared.types.TypeOwner.TheVariants as owner
use Rattle.wit_data.specs.declared.world.WorldItem.TheVariants as item
use Rattle.wit_data.specs.declared.world.WorldKey.TheVariants as key
use Rattle.wit_elaboration.specs.facts.FreshEntries.{same_key-true}
use Rattle.wit_elaboration.specs.Elaboration.{graph_uses}
use Rattle.wit_elaboration.specs.Entries.{keyed_interfaces, role_of, same_key}
use Rattle.wit_elaboration.specs.laws.Imports.{roots_of}
use Rattle.wit_elaboration.specs.laws.KeptByElaboration.{HoldsImports, ImportsAreLeast}
use Rattle.wit_graph_data.specs.Queries.{entry_interface}
use Rattle.wit_elaboration.specs.Valid.{IsValid}
use Rattle.wit_graph_data.specs.declared.graph.Graph.{Graph}
use Rattle.wit_graph_theory.specs.facts.DependencyFacts.{needs_from, needs_into}
use Rattle.wit_graph_theory.specs.facts.EntryFacts.{export_uses, import_uses, instance_interface, key_entry, one_of, root_interface}
use Rattle.wit_graph_theory.specs.facts.EntryFacts as entries
use Rattle.wit_graph_theory.specs.facts.GoodWorlds.{same_one}
use Rattle.wit_graph_theory.specs.facts.ListFacts.{Contains-map_cases, found_at, place_of}
use Rattle.wit_graph_theory.specs.laws.PackageCycles.{ListsKey}
use Rattle.wit_remap_spec.specs.Joined.{joined_entry, joined_item}
use Rattle.wit_merge_spec.specs.Cause.{same_sort, HasNoMismatch}
use Rattle.wit_merge_spec.specs.Merged.{joined_graph, with_world, merged_interface}
use Rattle.wit_merge_spec.specs.Matches.{GraphMerge, counterpart_key, counterpart_of, counterpart_world}
use Rattle.wit_merge_laws.specs.facts.ListedStand.{interfaces_apart}
use Rattle.wit_merge_laws.specs.facts.MatchedEntries.{covered}
use Rattle.wit_merge_laws.specs.facts.MatchedOnce.{lists_distinct, one_under}
use Rattle.wit_merge_laws.specs.facts.NamesParts.{item_matched}
use Rattle.wit_merge_laws.specs.facts.UsesFrom.{old_needs, use_from}
use Rattle.wit_merge_laws.specs.facts.UsesListed.{counterpart_lists_key, held_one, key_in, key_remapped, one_held, world_keeps_entries}
use Rattle.wit_merge_laws.specs.facts.WorldsStand.{entry, entry_there}
use Rattle.wit_elaboration.specs.steps.Parts.{type_role, exported_keys, exported_interfaces}
use Rattle.wit_merge_spec.specs.steps.Parts.{joined_world}

-- ---- items

-- what is of the sort of an interface is one
interface_sort : (held here : WorldItem) (i : ℕ) → same_sort held here ≡ true → item_interface here ≡ i ∷ [] → (j : ℕ) × (item_interface held ≡ j ∷ [])
interface_sort (item.Interface j stability docs span external_id) here i sort is = (j, refl)
interface_sort (item.Function f) (item.Interface i' stability docs span external_id) i sort is = absurd (false≢true sort)
interface_sort (item.Function f) (item.Function f') i sort is = cc
interface_sort (item.Function f) (item.Type_ t span) i sort is = cc
interface_sort (item.Type_ t span) (item.Interface i' stability docs span' external_id) i sort is = absurd (false≢true sort)
interface_sort (item.Type_ t span) (item.Function f') i sort is = cc
interface_sort (item.Type_ t span) (item.Type_ t' span') i sort is = cc

-- a type with a stability joined to its entry was that type
type_before : (from held : WorldItem) (t : ℕ) (span : _) → joined_item false from held ≡ item.Type_ t span → held ≡ item.Type_ t span
type_before (item.Interface i stability docs span external_id) (item.Interface i' stability' docs' span' external_id') t s is = cc
type_before (item.Interface i stability docs span external_id) (item.Function f') t s is = is
type_before (item.Interface i stability docs span external_id) (item.Type_ t' span') t s is = is
type_before (item.Function f) (item.Interface i' stability' docs' span' external_id') t s is = is
type_before (item.Function f) (item.Function f') t s is = is
type_before (item.Function f) (item.Type_ t' span') t s is = is
type_before (item.Type_ t' span) (item.Interface i' stability' docs' span' external_id') t s is = is
type_before (item.Type_ t' span) (item.Function f') t s is = is
type_before (item.Type_ t' span) (item.Type_ t'' span') t s is = is

entry_before : (brought : List Entry) (d : Entry) (t : ℕ) (span : _) → (joined_entry false brought d).1 ≡ item.Type_ t span → d.1 ≡ item.Type_ t span
entry_before brought d t span = by (lookup (same_key d.0) brought)
  where
    by : (o : Option WorldItem) → option_map_or (λ (from : WorldItem). joined_item false from d.1) o d.1 ≡ item.Type_ t span → d.1 ≡ item.Type_ t span
    by None is = is
    by (Some from) is = type_before from d.1 t span is

type_import : (m : GraphMerge) (e : ℕ × World) (k : WorldKey) (t : ℕ) (span : _) → Contains (joined_world m e).imports (entry k (item.Type_ t span)) → Contains e.1.imports (entry k (item.Type_ t span))
type_import m e k t span = by (counterpart_of (counterpart_world m) m.other.worlds e.0)
  where
    came : (brought : List Entry) (d : Entry) → Contains e.1.imports d → joined_entry false brought d ≡ entry k (item.Type_ t span) → Contains e.1.imports (entry k (item.Type_ t span))
    came brought d has same =
        subst (λ (held : WorldItem). Contains e.1.imports (entry k held)) (entry_before brought d t span (ap (λ (x : Entry). x.1) same))
        (subst (λ (x : WorldKey). Contains e.1.imports (entry x d.1)) (ap (λ (x : Entry). x.0) same) has)

    by : (o : Option (ℕ × World)) → Contains (option_map_or (λ (p : ℕ × World). with_world m p e.1) o e.1).imports (entry k (item.Type_ t span)) → Contains e.1.imports (entry k (item.Type_ t span))
    by None has = has
    by (Some p) has = let from = Contains-map_cases (joined_entry false _) e.1.imports (entry k (item.Type_ t span)) has in came _ from.0 from.1 from.2

-- an interface that stands under the key of one is that one
own_key : (interfaces : List Interface) (types : List TypeDef) (w : ℕ) (k : WorldKey) (held : WorldItem) (f i : ℕ) → k ≡ key.Interface f → item_interface held ≡ i ∷ [] → IsImport interfaces types w k held → i ≡ f
own_key interfaces types w (key.Name label) held f i same is import = cc
own_key interfaces types w (key.Interface g) (item.Interface id stability docs span external_id) f i same is import = let one : g ≡ f = cc in sym (same_one id i is) ∙ (import.0 ∙ one)
own_key interfaces types w (key.Interface g) (item.Function fn) f i same is import = absurd import
own_key interfaces types w (key.Interface g) (item.Type_ t span) f i same is import = absurd import

-- and under such a key stands an interface
pub keyed_import : (interfaces : List Interface) (types : List TypeDef) (w : ℕ) (k : WorldKey) (held : WorldItem) (f : ℕ) → k ≡ key.Interface f → IsImport interfaces types w k held → item_interface held ≡ f ∷ []
keyed_import interfaces types w (key.Name label) held f same import = cc
keyed_import interfaces types w (key.Interface g) (item.Interface id stability docs span external_id) f same import = let one : g ≡ f = cc in ap (λ (x : ℕ). x ∷ []) (import.0 ∙ one)
keyed_import interfaces types w (key.Interface g) (item.Function fn) f same import = absurd import
keyed_import interfaces types w (key.Interface g) (item.Type_ t span) f same import = absurd import

-- ---- what a world lists of what its entries use

abbrev SideLists : Bool → World → ℕ → Type 0
SideLists false world j = Contains (keyed_interfaces world.imports) j
SideLists true world j = ListsKey world j

module _ (least : ImportsAreLeast) (h : Graph) (valid : IsValid h) (w : ℕ) (world : World) (there : slice_get h.worlds w ≡ Some world) where
  valid_uses : (exported : Bool) (e : Entry) (i j : ℕ) → Contains (entries_of exported world) e → item_interface e.1 ≡ i ∷ [] → Contains (direct (graph_uses h) i) j → SideLists exported world j
  valid_uses false e i j has is edge =
      import_uses least h.types h.interfaces valid.well_formed.references.aliases valid.no_cycles.uses w world (valid.well_formed.worlds.imports w world there) (valid.well_formed.worlds.exports w world there)
      (valid.canonical w world there) e i j has (instance_interface h.types e.1 i (one_held e.1 i is)) edge
  valid_uses true e i j has is edge =
      export_uses least h.types h.interfaces valid.well_formed.references.aliases valid.no_cycles.uses w world (valid.well_formed.worlds.imports w world there) (valid.well_formed.worlds.exports w world there)
      (valid.canonical w world there) e i j has (one_held e.1 i is) edge

  valid_holds : HoldsImports h.types (graph_uses h) world.imports world.exports (Contains (keyed_interfaces world.imports))
  valid_holds =
      entries.holds least h.types h.interfaces valid.well_formed.references.aliases valid.no_cycles.uses w world (valid.well_formed.worlds.imports w world there) (valid.well_formed.worlds.exports w world there)
      (valid.canonical w world there)

-- ---- matched worlds

module _ (least : ImportsAreLeast) (m : GraphMerge) (valid : IsValid m.graph) (valid_other : IsValid m.other) (one : HasNoMismatch m) where
  abbrev g : Graph
  g = joined_graph m

  abbrev uses : List (List ℕ)
  uses = graph_uses g

  module _ (w w' : ℕ) (old into : World) (there : slice_get m.other.worlds w ≡ Some old) (found : counterpart_world m w ≡ Some w') (into_there : slice_get m.graph.worlds w' ≡ Some into) where
    -- where an interface at the place of one stands, that one stands there
    stands_too : (exported : Bool) (e : Entry) (i : ℕ) → Contains (entries_of exported into) e → item_interface e.1 ≡ merged_interface m i ∷ [] → (d : Entry) × Contains (entries_of exported old) d × (item_interface d.1 ≡ i ∷ [])
    stands_too exported e i has is =
        let from = covered m valid valid_other one w w' old into there found into_there exported e has in
        let here = entry_there m valid valid_other one w w' old into there found into_there exported from.0.0 from.0.1 from.1 in
        let same_key_is : here.k' ≡ e.0 = some_key here.k' e.0 (sym here.key_is ∙ from.2) in
        let under = subst (λ (k : WorldKey). Contains (entries_of exported into) (entry k here.here)) same_key_is (Contains-from_lookup same_key-true here.k' here.here (entries_of exported into) here.looked) in
        let same : here.here ≡ e.1 = one_under (entries_of exported into) (lists_distinct m.graph valid w' exported into into_there) e.0 here.here e.1 under has in
        let is_there : item_interface here.here ≡ merged_interface m i ∷ [] = ap item_interface same ∙ is in
        let sort = interface_sort from.0.1 here.here (merged_interface m i) here.same is_there in
        let goes_there = item_matched m from.0.1 here.here here.same here.agrees sort.0 sort.1 in
        let back : sort.0 ≡ i = interfaces_apart m valid valid_other sort.0 i (same_one (merged_interface m sort.0) (merged_interface m i) (sym goes_there ∙ is_there)) in
        (from.0, from.1, sort.1 ∙ ap (λ (x : ℕ). x ∷ []) back)
      where
        some_key : (a b : WorldKey) → Some a ≡ Some b → a ≡ b
        some_key a b same = cc

    -- what the other world imports, this one imports at its place; and the other way
    pub import_into : (j : ℕ) → Contains (keyed_interfaces old.imports) j → Contains (keyed_interfaces into.imports) (merged_interface m j)
    import_into j has =
        let e = key_entry old.imports j has in
        let listed = subst (λ (k : WorldKey). Contains old.imports (entry k e.0.1)) e.2 e.1 in
        let here = entry_there m valid valid_other one w w' old into there found into_there false (key.Interface j) e.0.1 listed in
        key_in into.imports (merged_interface m j) here.here
        (subst (λ (k : WorldKey). Contains into.imports (entry k here.here)) (key_remapped m j here.k' here.key_is) (Contains-from_lookup same_key-true here.k' here.here into.imports here.looked))

    pub import_from : (i : ℕ) → Contains (keyed_interfaces into.imports) i → (j : ℕ) × (i ≡ merged_interface m j) × Contains (keyed_interfaces old.imports) j
    import_from i has =
        let e = key_entry into.imports i has in
        let from = covered m valid valid_other one w w' old into there found into_there false e.0 e.1 in
        by from.0.0 (from.2 ∙ ap (λ (k : WorldKey). Some k) e.2) from.0.1 from.1
      where
        by : (k : WorldKey) → counterpart_key m k ≡ Some (key.Interface i) → (held : WorldItem) → Contains old.imports (entry k held) → (j : ℕ) × (i ≡ merged_interface m j) × Contains (keyed_interfaces old.imports) j
        by (key.Name label) is held has = cc
        by (key.Interface j) is held has = (j, one_key (key_remapped m j (key.Interface i) is), key_in old.imports j held has)
          where
            one_key : {a b : ℕ} → key.Interface a ≡ key.Interface b → a ≡ b
            one_key same = cc

    side_into : (exported : Bool) (j : ℕ) → SideLists exported old j → SideLists exported into (merged_interface m j)
    side_into false j lists = import_into j lists
    side_into true j lists = counterpart_lists_key m valid valid_other one w w' old into j there found into_there lists

    -- what an entry uses in the two as one the world lists
    used : (exported : Bool) (e : Entry) (i j : ℕ) → Contains (entries_of exported into) e → item_interface e.1 ≡ i ∷ [] → Contains (direct uses i) j → SideLists exported into j
    used exported e i j has is edge = elim (use_from m valid valid_other one i j edge) [
      | inl mine ↦ valid_uses least m.graph valid w' into into_there exported e i j has is mine
      | inr theirs ↦
          let d = stands_too exported e theirs.i has (is ∙ ap (λ (x : ℕ). x ∷ []) theirs.place) in
          subst (SideLists exported into) (sym theirs.used_place) (side_into exported theirs.j (valid_uses least m.other valid_other w old there exported d.0 theirs.i theirs.j d.1 d.2 theirs.used))
    ]

    -- ---- the imports of the listed world are closed

    abbrev listed : World
    listed = joined_world m (w', into)

    import_is : (e : Entry) → Contains into.imports e → IsImport m.graph.interfaces m.graph.types w' e.0 e.1
    import_is e has = let place = place_of into.imports e has in valid.well_formed.worlds.imports w' into into_there place.0 e place.1

    closed : (i j : ℕ) → Contains (keyed_interfaces into.imports) i → Contains (direct uses i) j → Contains (keyed_interfaces into.imports) j
    closed i j has edge =
        let e = key_entry into.imports i has in
        used false e.0 i j e.1 (keyed_import m.graph.interfaces m.graph.types w' e.0.0 e.0.1 i e.2 (import_is e.0 e.1)) edge

    -- what the exports name from outside
    from_outside : (x d : ℕ) → Contains (exported_interfaces listed.exports) x → Contains (direct uses x) d → (Contains (exported_keys listed.exports) d → ⊥) → Contains (keyed_interfaces into.imports) d
    from_outside x d exported edge apart =
        let e = Contains-flat_map_cases (λ (e : Entry). item_interface e.1) listed.exports x exported in
        let from = (world_keeps_entries m (w', into)).from true e.0 e.1.0 in
        let lists = used true from.0 x d from.1 (sym from.3 ∙ held_one e.0.1 x e.1.1) edge in
        elim lists [ inl imported ↦ imported | inr there ↦ absurd (apart (exported_too d there)) ]
      where
        exported_too : (d : ℕ) → Contains (keyed_interfaces into.exports) d → Contains (keyed_interfaces listed.exports) d
        exported_too d has =
            let e = key_entry into.exports d has in
            let now = (world_keeps_entries m (w', into)).into true (entry (key.Interface d) e.0.1) (subst (λ (k : WorldKey). Contains into.exports (entry k e.0.1)) e.2 e.1) in
            key_in listed.exports d now.0 now.1

    -- where an import begins
    type_root : (k : WorldKey) (t : ℕ) (span : _) (r : ℕ) → Contains listed.imports (entry k (item.Type_ t span)) → type_interface_dep g.types t ≡ Some r → Contains (keyed_interfaces into.imports) r
    type_root k t span r has dep =
        let before = type_import m (w', into) k t span has in
        let def = type_there k (import_is (entry k (item.Type_ t span)) before) in
        let needs = needs_into m.graph.types t r (old_needs m valid valid_other one t r def.0 def.1 (needs_from g.types t r dep)) in
        (valid_holds least m.graph valid w' into into_there).roots r
        (Contains-flat_map (λ (e : Entry). roots_of (graph_uses m.graph) e.0 (role_of m.graph.types e.1)) into.imports (entry k (item.Type_ t span)) r before (type_root_at k (type_interface_dep m.graph.types t) needs))
      where
        type_there : (k : WorldKey) → IsImport m.graph.interfaces m.graph.types w' k (item.Type_ t span) → (def : TypeDef) × (slice_get m.graph.types t ≡ Some def)
        type_there (key.Name label) is = let found = found_at (λ (def : TypeDef). (def.name ≡ Some label) × (def.owner ≡ owner.World w')) m.graph.types t is in (found.0, found.1)
        type_there (key.Interface f) is = absurd is

        type_root_at : (k : WorldKey) (o : Option ℕ) → o ≡ Some r → Contains (roots_of (graph_uses m.graph) k (type_role o)) r
        type_root_at k None is = cc
        type_root_at (key.Name label) (Some x) is = let same : x ≡ r = cc in subst (λ (y : ℕ). Contains (y ∷ []) r) (sym same) (Contains-here r [])
        type_root_at (key.Interface f) (Some x) is = let same : x ≡ r = cc in subst (λ (y : ℕ). Contains (y ∷ []) r) (sym same) (Contains-here r [])

    root : (k : WorldKey) (held : WorldItem) (r : ℕ) → Contains listed.imports (entry k held) → Contains (roots_of uses k (role_of g.types held)) r → Contains (keyed_interfaces into.imports) r
    root (key.Interface f) (item.Interface id stability docs span external_id) r has root_is =
        let from = (world_keeps_entries m (w', into)).from false (entry (key.Interface f) (item.Interface id stability docs span external_id)) has in
        let mine = own_key m.graph.interfaces m.graph.types w' from.0.0 from.0.1 f id (sym from.2) (sym from.3) (import_is from.0 from.1) in
        subst (Contains (keyed_interfaces into.imports)) (sym mine ∙ one_of id r root_is)
        (key_in into.imports f from.0.1 (subst (λ (k : WorldKey). Contains into.imports (entry k from.0.1)) (sym from.2) from.1))
    root (key.Name label) (item.Interface id stability docs span external_id) r has root_is =
        let from = (world_keeps_entries m (w', into)).from false (entry (key.Name label) (item.Interface id stability docs span external_id)) has in
        used false from.0 id r from.1 (sym from.3) root_is
    root k (item.Function fn) r has root_is = let at = root_interface g.types uses k (item.Function fn) r root_is in let is = at.1 in cc
    root k (item.Type_ t span) r has root_is = by (root_interface g.types uses k (item.Type_ t span) r root_is)
      where
        by : (i : ℕ) × (entry_interface g.types (item.Type_ t span) ≡ Some i) × ((i ≡ r) ⊎ (Contains (item_interface (item.Type_ t span)) i × Contains (direct uses i) r)) → Contains (keyed_interfaces into.imports) r
        by (i, is, inl same) = type_root k t span r has (is ∙ ap Some same)
        by (i, is, inr used) = absurd (Contains-nil used.0)

    roots : (r : ℕ) → Contains (flat_map (λ (e : Entry). roots_of uses e.0 (role_of g.types e.1)) listed.imports) r → Contains (keyed_interfaces into.imports) r
    roots r has = let from = Contains-flat_map_cases (λ (e : Entry). roots_of uses e.0 (role_of g.types e.1)) listed.imports r has in root from.0.0 from.0.1 r from.1.0 from.1.1

    -- so they are all that the listed world must import
    pub holds_test : HoldsImports g.types uses listed.imports listed.exports (λ j. list_any (nat_eq j) (keyed_interfaces into.imports) ≡ true)
    holds_test = record {
      roots = λ r has. any_from_contains r (keyed_interfaces into.imports) (roots r has);
      from_outside = λ x d exported edge apart. any_from_contains d (keyed_interfaces into.imports) (from_outside x d exported edge apart);
      closed = λ i j on edge. any_from_contains j (keyed_interfaces into.imports) (closed i j (contains_from_any i (keyed_interfaces into.imports) on) edge);
    }
