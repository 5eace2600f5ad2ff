-- In two graphs as one a world lists what its interfaces without names use: each of the two graphs does, and what comes
-- to such an interface comes with a world that is matched.
use Rattle.std.proofs.Common.{◌≡◌, ◌∙◌, inl, inr, ℕ, ◌<◌, Bool, true, false, List, [], ◌∷◌, map, filter, length, is_some, not, Option, None, Some, option_map, slice_get, refl, sym, ap, subst, arith, Contains}
use Rattle.std.specs.Option.{option_map_or}
use Rattle.std.proofs.lemmas.Bool.{cases_Bool, eqb-true}
use Rattle.std.proofs.lemmas.Map.Views.{Contains-from_lookup}
use Rattle.std.proofs.lemmas.Option.{slice_get_within}
use Rattle.wit_digraph.specs.facts.MemberFacts.{Contains-cons_cases, Contains-flat_map, Contains-here, Contains-nil}
use Rattle.wit_digraph.specs.Relation.{direct}
use Rattle.wit_data.specs.Entries.{Entry, is_unnamed, item_interface, entries_of}
use Rattle.wit_data.specs.Uses.{interface_uses}
use Rattle.wit_data.specs.declared.interface.Interface.{Interface}
use Rattle.wit_data.specs.declared.world.World.{World}
use Rattle.wit_data.specs.declared.world.WorldItem.{WorldItem}
use Rattle.wit_data.specs.declared.world.WorldKey.{WorldKey}
use Rattle.wit_data.specs.declared.world.WorldItem.TheVariants as item
use Rattle.wit_data.specs.declared.world.WorldKey.TheVariants as key
use Rattle.wit_elaboration.specs.facts.FreshEntries.{same_key-true}
use Rattle.wit_elaboration.specs.Elaboration.{graph_uses}
use Rattle.wit_elaboration.specs.Entries.{key_interface, keyed_interfaces}
use Rattle.wit_elaboration.specs.laws.KeptByElaboration.{ImportsAreLeast}
use Rattle.wit_elaboration.specs.Valid.{IsValid}
use Rattle.wit_graph_data.specs.declared.graph.Graph.{Graph}
use Rattle.wit_graph_theory.specs.Cut.{mapped_source}
use Rattle.wit_graph_theory.specs.facts.EntryFacts.{canonical_lists_uses, key_entry}
use Rattle.wit_remap_spec.specs.Image.{entry_image, world_image}
use Rattle.wit_graph_theory.specs.facts.ListFacts.{Contains-map, Contains-map_cases, found_at, from_row, place_of}
use Rattle.wit_graph_theory.specs.facts.UnnamedOnceCarried.{unnamed_same}
use Rattle.wit_graph_theory.specs.laws.PackageCycles.{ListsKey, ListsUses}
use Rattle.wit_graph_theory.specs.steps.Sources.{InterfaceStands}
use Rattle.wit_remap_spec.specs.Joined.{joined_entry}
use Rattle.wit_merge_spec.specs.Merged.{is_under_id, joined_graph, with_world, merge_maps, merged_interface}
use Rattle.wit_merge_spec.specs.Matches.{GraphMerge, counterpart_interface, counterpart_key, counterpart_of, counterpart_world, world_labels}
use Rattle.wit_merge_spec.specs.Cause.{HasNoMismatch}
use Rattle.wit_merge_laws.specs.facts.InterfacesStand.{interface_stands, joined_keeps, moved_interface_remapped, old_interface_at}
use Rattle.wit_merge_laws.specs.facts.ListedStand.{WorldFrom, interfaces_apart, of_graph, of_other, world_at_from}
use Rattle.wit_merge_laws.specs.facts.MatchFacts.{goes_to, interface_is, label_home, stands_at}
use Rattle.wit_merge_laws.specs.facts.OnceStand.{entry_held, image_held, spot_of, world_label_key}
use Rattle.wit_merge_laws.specs.facts.TypesStand.{matched_some}
use Rattle.wit_merge_laws.specs.facts.UsesFrom.{UseOfOther, use_from}
use Rattle.wit_merge_laws.specs.facts.WorldsStand.{entry, entry_there}
use Rattle.wit_merge_spec.specs.steps.Parts.{joined_interface, joined_world, moves_interface, moves_world}

-- the key of an interface is looked for as the key of that at its place
pub key_remapped : (m : GraphMerge) (j : ℕ) (k : WorldKey) → counterpart_key m (key.Interface j) ≡ Some k → k ≡ key.Interface (merged_interface m j)
key_remapped m j k = by (counterpart_interface m j) refl
  where
    by : (o : Option ℕ) → counterpart_interface m j ≡ o → option_map (λ i'. key.Interface i') o ≡ Some k → k ≡ key.Interface (merged_interface m j)
    by None is looked = cc
    by (Some j') is looked = let same : key.Interface j' ≡ k = cc in sym same ∙ ap (λ (x : ℕ). key.Interface x) (sym (goes_to (counterpart_interface m j) _ j' is))

-- ---- keys that a world lists

pub key_in : (es : List Entry) (j : ℕ) (held : WorldItem) → Contains es (entry (key.Interface j) held) → Contains (keyed_interfaces es) j
key_in es j held has = Contains-flat_map (λ (e : Entry). key_interface e.0) es (entry (key.Interface j) held) j has (Contains-here j [])

lists_key : (exported : Bool) (world : World) (j : ℕ) (held : WorldItem) → Contains (entries_of exported world) (entry (key.Interface j) held) → ListsKey world j
lists_key false world j held has = inl (key_in world.imports j held has)
lists_key true world j held has = inr (key_in world.exports j held has)

-- the entry under the key
record Keyed (world : World) (j : ℕ) : Type 0 where
  exported : Bool
  held : WorldItem
  has : Contains (entries_of exported world) (entry (key.Interface j) held)

keyed_by : (exported : Bool) (world : World) (j : ℕ) → Contains (keyed_interfaces (entries_of exported world)) j → Keyed world j
keyed_by exported world j has =
    let e = key_entry (entries_of exported world) j has in
    record { exported = exported; held = e.0.1; has = subst (λ (k : WorldKey). Contains (entries_of exported world) (entry k e.0.1)) e.2 e.1 }

keyed : (world : World) (j : ℕ) → ListsKey world j → Keyed world j
keyed world j lists = elim lists [ inl has ↦ keyed_by false world j has | inr has ↦ keyed_by true world j has ]

pub held_one : (held : WorldItem) (f : ℕ) → Contains (item_interface held) f → item_interface held ≡ f ∷ []
held_one (item.Interface i stability docs span external_id) f has = elim (Contains-cons_cases i f [] has) [ inl same ↦ ap (λ (x : ℕ). x ∷ []) same | inr none ↦ absurd (Contains-nil none) ]
held_one (item.Function fn) f has = absurd (Contains-nil has)
held_one (item.Type_ t span) f has = absurd (Contains-nil has)

pub one_held : (held : WorldItem) (f : ℕ) → item_interface held ≡ f ∷ [] → Contains (item_interface held) f
one_held (item.Interface i stability docs span external_id) f is = subst (λ (x : List ℕ). Contains x f) (sym is) (Contains-here f [])
one_held (item.Function fn) f is = cc
one_held (item.Type_ t span) f is = cc

-- what an interface without a name uses, where it stands on either side, the world lists
abbrev ListsUse : List Interface → List (List ℕ) → World → Type 0
ListsUse interfaces uses world =
    (exported : Bool) (e : Entry) (f j : ℕ) → Contains (entries_of exported world) e
    → item_interface e.1 ≡ f ∷ [] → is_unnamed interfaces f ≡ true → Contains (direct uses f) j
    → ListsKey world j

either_side : (interfaces : List Interface) (uses : List (List ℕ)) (world : World) → ListsUses interfaces uses world → ListsUse interfaces uses world
either_side interfaces uses world lists false e f j has is unnamed edge = lists.imports e f j has (one_held e.1 f is) unnamed edge
either_side interfaces uses world lists true e f j has is unnamed edge = lists.exports e f j has (one_held e.1 f is) unnamed edge

both_sides : (interfaces : List Interface) (uses : List (List ℕ)) (world : World) → ListsUse interfaces uses world → ListsUses interfaces uses world
both_sides interfaces uses world lists = record {
  imports = λ e f j has held unnamed edge. lists false e f j has (held_one e.1 f held) unnamed edge;
  exports = λ e f j has held unnamed edge. lists true e f j has (held_one e.1 f held) unnamed edge;
}

-- a world of a valid graph does
valid_lists : ImportsAreLeast → (g : Graph) → IsValid g → (w : ℕ) (world : World) → slice_get g.worlds w ≡ Some world → ListsUse g.interfaces (graph_uses g) world
valid_lists least g valid w world there =
    either_side g.interfaces (graph_uses g) world
    (canonical_lists_uses least g.types g.interfaces valid.well_formed.references.aliases valid.no_cycles.uses w world (valid.well_formed.worlds.imports w world there) (valid.well_formed.worlds.exports w world there)
    (valid.canonical w world there))

-- ---- a world with stabilities joined to its entries keeps their keys and what they hold

pub record KeepsEntries (old new : World) : Type 0 where
  pub from : (exported : Bool) (e : Entry) → Contains (entries_of exported new) e
      → (d : Entry) × Contains (entries_of exported old) d × (e.0 ≡ d.0)
      × (item_interface e.1 ≡ item_interface d.1)
  pub into : (exported : Bool) (d : Entry) → Contains (entries_of exported old) d
      → (held : WorldItem) × Contains (entries_of exported new) (entry d.0 held)
      × (item_interface held ≡ item_interface d.1)

entries_from : (brought es : List Entry) (e : Entry) → Contains (map (joined_entry false brought) es) e → (d : Entry) × Contains es d × (e.0 ≡ d.0) × (item_interface e.1 ≡ item_interface d.1)
entries_from brought es e has =
    let from = Contains-map_cases (joined_entry false brought) es e has in
    (from.0, from.1, ap (λ (x : Entry). x.0) (sym from.2), ap (λ (x : Entry). item_interface x.1) (sym from.2) ∙ entry_held brought from.0)

entries_into : (brought es : List Entry) (d : Entry) → Contains es d → (held : WorldItem) × Contains (map (joined_entry false brought) es) (entry d.0 held) × (item_interface held ≡ item_interface d.1)
entries_into brought es d has = ((joined_entry false brought d).1, Contains-map (joined_entry false brought) es d has, entry_held brought d)

pub world_keeps_entries : (m : GraphMerge) (e : ℕ × World) → KeepsEntries e.1 (joined_world m e)
world_keeps_entries m e = by (counterpart_of (counterpart_world m) m.other.worlds e.0)
  where
    some_from : (p : ℕ × World) (exported : Bool) (x : Entry) → Contains (entries_of exported (with_world m p e.1)) x
        → (d : Entry) × Contains (entries_of exported e.1) d × (x.0 ≡ d.0) × (item_interface x.1 ≡ item_interface d.1)
    some_from p false x has = entries_from (map (entry_image (merge_maps m) p.0) (filter (λ (x : Entry). is_under_id x.0) p.1.imports)) e.1.imports x has
    some_from p true x has = entries_from (map (entry_image (merge_maps m) p.0) (filter (λ (x : Entry). is_under_id x.0) p.1.exports)) e.1.exports x has

    some_into : (p : ℕ × World) (exported : Bool) (d : Entry) → Contains (entries_of exported e.1) d → (held : WorldItem) × Contains (entries_of exported (with_world m p e.1)) (entry d.0 held) × (item_interface held ≡ item_interface d.1)
    some_into p false d has = entries_into (map (entry_image (merge_maps m) p.0) (filter (λ (x : Entry). is_under_id x.0) p.1.imports)) e.1.imports d has
    some_into p true d has = entries_into (map (entry_image (merge_maps m) p.0) (filter (λ (x : Entry). is_under_id x.0) p.1.exports)) e.1.exports d has

    by : (o : Option (ℕ × World)) → KeepsEntries e.1 (option_map_or (λ (p : ℕ × World). with_world m p e.1) o e.1)
    by None = record { from = λ exported x has. (x, has, refl, refl); into = λ exported d has. (d.1, has, refl) }
    by (Some p) = record { from = some_from p; into = some_into p }

-- ---- worlds of the other graph

module _ (m : GraphMerge) (valid : IsValid m.graph) (valid_other : IsValid m.other) (one : HasNoMismatch m) where
  -- what a matched world lists, its counterpart lists at its place
  pub counterpart_lists_key : (w w' : ℕ) (from into : World) (j : ℕ) → slice_get m.other.worlds w ≡ Some from → counterpart_world m w ≡ Some w' → slice_get m.graph.worlds w' ≡ Some into → ListsKey from j → ListsKey into (merged_interface m j)
  counterpart_lists_key w w' from into j there found into_there lists =
      let listed = keyed from j lists in
      let here = entry_there m valid valid_other one w w' from into there found into_there listed.exported (key.Interface j) listed.held listed.has in
      lists_key listed.exported into (merged_interface m j) here.here
      (subst (λ (k : WorldKey). Contains (entries_of listed.exported into) (entry k here.here)) (key_remapped m j here.k' here.key_is) (Contains-from_lookup same_key-true here.k' here.here (entries_of listed.exported into) here.looked))

  -- a world that moves
  module _ (w : ℕ) (old : World) (there : slice_get m.other.worlds w ≡ Some old) (moves : moves_world m w ≡ true) where
    -- no interface without a name in it is matched
    pub unmatched : (exported : Bool) (d : Entry) (i : ℕ) → Contains (entries_of exported old) d → item_interface d.1 ≡ i ∷ [] → is_unnamed m.other.interfaces i ≡ true → moves_interface m i ≡ true
    unmatched exported d i has held unnamed = elim (cases_Bool (moves_interface m i)) [
      | inl goes ↦ goes
      | inr stays ↦
          let some = matched_some (counterpart_interface m i) stays in
          let world_label = spot_of m valid valid_other i some.0 unnamed some.1 in
          let stands = stands_at m.other.worlds i world_label.world_label (Contains-from_lookup (λ a b. eqb-true a b) i world_label.world_label (world_labels m.other.worlds) world_label.world_label_is) in
          let place = place_of (entries_of exported old) d has in
          let mine = world_label_key m.other valid_other i world_label.world_label.world w world_label.world_label.exported exported place.0 stands.world world_label.world_label.label stands.held unnamed stands.there stands.listed stands.is
          (record { world = old; there = there; entry = d; at = place.1; held = held }) in
          absurd (found_moves (counterpart_world m w) world_label.w' (ap (counterpart_world m) (sym mine.0) ∙ world_label.matched) moves)
    ]
      where
        found_moves : (o : Option ℕ) (x : ℕ) → o ≡ Some x → not (is_some o) ≡ true → ⊥
        found_moves None x is moves = cc
        found_moves (Some y) x is moves = cc

    pub image_entry : (exported : Bool) (e : Entry) → Contains (entries_of exported (world_image (merge_maps m) w old)) e → (d : Entry) × Contains (entries_of exported old) d × (entry_image (merge_maps m) w d ≡ e)
    image_entry false e has = Contains-map_cases (entry_image (merge_maps m) w) old.imports e has
    image_entry true e has = Contains-map_cases (entry_image (merge_maps m) w) old.exports e has

    pub entry_imaged : (exported : Bool) (d : Entry) → Contains (entries_of exported old) d → Contains (entries_of exported (world_image (merge_maps m) w old)) (entry_image (merge_maps m) w d)
    entry_imaged false d has = Contains-map (entry_image (merge_maps m) w) old.imports d has
    entry_imaged true d has = Contains-map (entry_image (merge_maps m) w) old.exports d has

-- ---- the worlds of the two as one

module _ (least : ImportsAreLeast) (m : GraphMerge) (valid : IsValid m.graph) (valid_other : IsValid m.other) (one : HasNoMismatch m) where
  abbrev g : Graph
  g = joined_graph m

  -- a world of the graph
  module _ (w' : ℕ) (old : World) (there : slice_get m.graph.worlds w' ≡ Some old) where
    -- a use that comes with the other graph
    brought_listed : (exported : Bool) (d : Entry) (f j : ℕ) → Contains (entries_of exported old) d → item_interface d.1 ≡ f ∷ [] → is_unnamed m.graph.interfaces f ≡ true → f < length m.graph.interfaces → UseOfOther m valid valid_other one f j
        → ListsKey old j
    brought_listed exported d f j has held unnamed within brought = elim (cases_Bool (moves_interface m brought.i)) [
      | inl goes ↦
          let place = brought.place in
          let next = moved_interface_remapped m brought.i goes in
          absurd (omega (arith, within, place, next))
      | inr stays ↦
          let some = matched_some (counterpart_interface m brought.i) stays in
          let same : some.0 ≡ f = sym (goes_to (counterpart_interface m brought.i) _ some.0 some.1) ∙ sym brought.place in
          by (some.1 ∙ ap (λ (x : ℕ). Some x) same)
    ]
      where
        by : counterpart_interface m brought.i ≡ Some f → ListsKey old j
        by found =
            let is = interface_is m valid valid_other brought.i f found in
            let nameless : is_unnamed m.other.interfaces brought.i ≡ true = sym (unnamed_same m.other.interfaces m.graph.interfaces brought.i f is.from is.into is.from_is is.into_is is.called) ∙ unnamed in
            let world_label = spot_of m valid valid_other brought.i f nameless found in
            let stands = stands_at m.other.worlds brought.i world_label.world_label (Contains-from_lookup (λ a b. eqb-true a b) brought.i world_label.world_label (world_labels m.other.worlds) world_label.world_label_is) in
            let place = place_of (entries_of exported old) d has in
            let mine = world_label_key m.graph valid f world_label.w' w' world_label.world_label.exported exported place.0 world_label.there world_label.world_label.label world_label.held unnamed world_label.there_is
            (Contains-from_lookup same_key-true (key.Name world_label.world_label.label) world_label.held (entries_of world_label.world_label.exported world_label.there) world_label.listed) world_label.is
            (record { world = old; there = there; entry = d; at = place.1; held = held }) in
            let listed = valid_lists least m.other valid_other world_label.world_label.world stands.world stands.there world_label.world_label.exported (entry (key.Name world_label.world_label.label) stands.held) brought.i brought.j stands.listed stands.is nameless brought.used in
            subst (ListsKey old) (sym brought.used_place)
            (counterpart_lists_key m valid valid_other one world_label.world_label.world w' stands.world old brought.j stands.there (world_label.matched ∙ ap (λ (x : ℕ). Some x) mine.0) there listed)

    old_lists : ListsUse g.interfaces (graph_uses g) old
    old_lists exported d f j has held unnamed edge =
        let here = found_at (λ (interface : Interface). (interface.name ≡ None) → interface.package ≡ old.package) m.graph.interfaces f (label_home m.graph valid w' old exported d.0 d.1 f there has held) in
        let nameless : is_unnamed m.graph.interfaces f ≡ true = sym (unnamed_same m.graph.interfaces g.interfaces f f here.0 (joined_interface m (f, here.0)) here.1 (old_interface_at m f here.0 here.1) (joined_keeps m (f, here.0)).name) ∙ unnamed in
        elim (use_from m valid valid_other one f j edge) [
          | inl used ↦ valid_lists least m.graph valid w' old there exported d f j has held nameless used
          | inr brought ↦ brought_listed exported d f j has held nameless (slice_get_within m.graph.interfaces f here.0 here.1) brought
        ]

    joined_lists : ListsUse g.interfaces (graph_uses g) (joined_world m (w', old))
    joined_lists exported e f j has held unnamed edge =
        let keeps = world_keeps_entries m (w', old) in
        let from = keeps.from exported e has in
        let listed = keyed old j (old_lists exported from.0 f j from.1 (sym from.3 ∙ held) unnamed edge) in
        let into = keeps.into listed.exported (entry (key.Interface j) listed.held) listed.has in
        lists_key listed.exported (joined_world m (w', old)) j into.0 into.1

  -- a world that moves
  module _ (w : ℕ) (old : World) (there : slice_get m.other.worlds w ≡ Some old) (moves : moves_world m w ≡ true) where
    image_lists : ListsUse g.interfaces (graph_uses g) (world_image (merge_maps m) w old)
    image_lists exported e f j has held unnamed edge =
        let from = image_entry m valid valid_other one w old there moves exported e has in
        let is = image_held (merge_maps m) w from.0.1 f (ap (λ (x : Entry). item_interface x.1) from.2 ∙ held) in
        let i = is.0 in
        let here = found_at (λ (interface : Interface). (interface.name ≡ None) → interface.package ≡ old.package) m.other.interfaces i (label_home m.other valid_other w old exported from.0.0 from.0.1 i there from.1 is.1) in
        let stands = found_at (InterfaceStands (mapped_source m.other (merge_maps m)) here.0) g.interfaces (merged_interface m i) (interface_stands m valid valid_other i here.0 here.1) in
        let nameless : is_unnamed m.other.interfaces i ≡ true = sym (unnamed_same m.other.interfaces g.interfaces i (merged_interface m i) here.0 stands.0 here.1 stands.1 stands.2.name) ∙ (ap (is_unnamed g.interfaces) (sym is.2) ∙ unnamed) in
        elim (use_from m valid valid_other one f j edge) [
          | inl used ↦
              let row = from_row (interface_uses m.graph.types) m.graph.interfaces f j used in
              let within = slice_get_within m.graph.interfaces f row.0 row.1 in
              let next = moved_interface_remapped m i (unmatched m valid valid_other one w old there moves exported from.0 i from.1 is.1 nameless) in
              let place = is.2 in
              absurd (omega (arith, within, next, place))
          | inr brought ↦
              let same : brought.i ≡ i = interfaces_apart m valid valid_other brought.i i (sym brought.place ∙ is.2) in
              let edge_there : Contains (direct (graph_uses m.other) i) brought.j = subst (λ (x : ℕ). Contains (direct (graph_uses m.other) x) brought.j) same brought.used in
              let listed = keyed old brought.j (valid_lists least m.other valid_other w old there exported from.0 i brought.j from.1 is.1 nameless edge_there) in
              subst (ListsKey (world_image (merge_maps m) w old)) (sym brought.used_place)
              (lists_key listed.exported (world_image (merge_maps m) w old) (merged_interface m brought.j) (entry_image (merge_maps m) w (entry (key.Interface brought.j) listed.held)).1
              (entry_imaged m valid valid_other one w old there moves listed.exported (entry (key.Interface brought.j) listed.held) listed.has))
        ]

  pub joined_lists_uses : (w' : ℕ) (world : World) → slice_get g.worlds w' ≡ Some world → ListsUses g.interfaces (graph_uses g) world
  joined_lists_uses w' world there = both_sides g.interfaces (graph_uses g) world (by (world_at_from m w' world there))
    where
      by : WorldFrom m w' world → ListsUse g.interfaces (graph_uses g) world
      by (of_graph old is same) = subst (ListsUse g.interfaces (graph_uses g)) same (joined_lists w' old is)
      by (of_other w old is moves place same) = subst (ListsUse g.interfaces (graph_uses g)) same (image_lists w old is moves)
