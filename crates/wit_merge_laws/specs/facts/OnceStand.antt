-- An interface without a name stands in one place of a merged graph, as it did in the two graphs.
use Rattle.std.proofs.Common.{◌≡◌, ◌∙◌, ◌⊎◌, inl, inr, ℕ, ◌<◌, zero, suc, Bool, true, false, List, [], ◌∷◌, map, filter, length, Option, None, Some, slice_get, refl, sym, ap, subst, arith, Contains}
use Rattle.std.specs.Map.{lookup}
use Rattle.std.specs.Option.{option_map_or}
use Rattle.std.proofs.lemmas.Bool.{cases_Bool, eqb-true, ltb-true}
use Rattle.std.proofs.lemmas.Map.Views.{Contains-from_lookup}
use Rattle.wit_data.specs.Entries.{Entry, StandOnce, is_unnamed, item_interface, entries_of}
use Rattle.wit_data.specs.Ownership.{IsNamed}
use Rattle.wit_data.specs.declared.interface.Interface.{Interface}
use Rattle.wit_data.specs.declared.world.World.{World}
use Rattle.wit_data.specs.declared.world.WorldItem.{WorldItem}
use Rattle.wit_data.specs.declared.world.WorldKey.{WorldKey}
use Rattle.wit_data.specs.declared.world.WorldItem.TheVariants as item
use Rattle.wit_data.specs.declared.world.WorldKey.TheVariants as key
use Rattle.wit_elaboration.specs.facts.FreshEntries.{same_key-true}
use Rattle.wit_elaboration.specs.Entries.{same_key}
use Rattle.wit_elaboration.specs.Valid.{IsValid}
use Rattle.wit_graph_data.specs.declared.graph.Graph.{Graph}
use Rattle.wit_elaboration.specs.AllElaborated.{elaborated_world}
use Rattle.wit_graph_theory.specs.Cut.{kept_whole, mapped_source}
use Rattle.wit_remap_spec.specs.Kept.{cut_interface}
use Rattle.wit_graph_theory.specs.facts.ElaboratedCome.{interface_without_span}
use Rattle.wit_graph_theory.specs.facts.GoodWorlds.{same_one}
use Rattle.wit_remap_spec.specs.Image.{Maps, entry_image, item_image, key_image, world_image}
use Rattle.wit_graph_theory.specs.facts.LawsOfElaboration.{LawsOfElaboration}
use Rattle.wit_graph_theory.specs.facts.ListFacts.{Contains-map_cases, contained_at, found_at, from_map, place_of, same_at}
use Rattle.wit_graph_theory.specs.steps.UnnamedOnce.{Holds, Origin, StandsOnceOnly}
use Rattle.wit_graph_theory.specs.facts.UnnamedOnceCarried.{StandsOnceOnly-of_covered, named_not, unnamed_same}
use Rattle.wit_graph_theory.specs.facts.UnnamedOnceFacts.{StandOnce-from_entries}
use Rattle.wit_graph_theory.specs.facts.UnnamedOnceFrom.{cut_has_one_place}
use Rattle.wit_graph_theory.specs.Operations.{merge_sources}
use Rattle.wit_graph_theory.specs.facts.OptionFacts.{some_parts, some_same}
use Rattle.wit_graph_theory.specs.steps.Sources.{InterfaceStands, Source}
use Rattle.wit_remap_spec.specs.Joined.{joined_entry, joined_item}
use Rattle.wit_merge_spec.specs.Merged.{is_under_id, joined_graph, merged, with_world, merge_maps, merged_interface, merged_world}
use Rattle.wit_merge_spec.specs.Matches.{GraphMerge, counterpart_interface, counterpart_interface_by, counterpart_of, counterpart_world, world_labels}
use Rattle.wit_merge_spec.specs.Cause.{HasNoMismatch}
use Rattle.wit_merge_laws.specs.facts.InterfacesStand.{interface_stands, joined_keeps, moved_interface_remapped, old_interface_at}
use Rattle.wit_merge_laws.specs.facts.JoinedGood.{MergeCanElaborate}
use Rattle.wit_merge_laws.specs.facts.ListedStand.{WorldFrom, interfaces_apart, of_graph, of_other, world_at_from}
use Rattle.wit_merge_laws.specs.facts.MatchFacts.{LabelMatch, goes_to, label_home, label_match, no_name, stands_at}
use Rattle.wit_merge_laws.specs.facts.MatchedOnce.{lists_distinct, one_place}
use Rattle.wit_merge_laws.specs.facts.TypesStand.{matched_some}
use Rattle.wit_merge_laws.specs.facts.MergedWorlds.{entries_from, exported_is_named, merged_covered, merged_stands, used_is_named}
use Rattle.wit_merge_laws.specs.facts.WholeFacts.{world_from}
use Rattle.wit_merge_laws.specs.facts.WorldsStand.{sources_good}
use Rattle.wit_remap_spec.specs.steps.Parts.{identity}
use Rattle.wit_merge_spec.specs.steps.Parts.{joined_interface, moves_interface}

unnamed_cut : (g : Graph) (f : ℕ) → is_unnamed (map (cut_interface (kept_whole g)) g.interfaces) f ≡ is_unnamed g.interfaces f
unnamed_cut g f = by g.interfaces f
  where
    by : (xs : List Interface) (i : ℕ) → is_unnamed (map (cut_interface (kept_whole g)) xs) i ≡ is_unnamed xs i
    by [] i = refl
    by (x ∷ xs) zero = refl
    by (x ∷ xs) (suc i) = by xs i

module _ (g : Graph) (valid : IsValid g) where
  -- a place in a source of which all is selected
  abbrev holds_from : (m : Maps) (w : ℕ) (b : Bool) (i f : ℕ)
      → Holds (mapped_source g m).graph.worlds w b i f → Holds g.worlds w b i f
  holds_from m w b i f h =
      record {
        world = h.world;
        there = world_from g valid m w h.world h.there;
        entry = h.entry;
        at = h.at;
        held = h.held;
      }

  -- what stands under a label stands nowhere else
  pub world_label_key : (i w v : ℕ) (b c : Bool) (j : ℕ) (world : World) (label : List ℕ) (held : WorldItem) → is_unnamed g.interfaces i ≡ true → slice_get g.worlds w ≡ Some world
      → Contains (entries_of b world) (key.Name label, held) → item_interface held ≡ i ∷ [] → (h : Holds g.worlds v c j i) → (w ≡ v) × (key.Name label ≡ h.entry.0) × (b ≡ c)
  world_label_key i w v b c j world label held unnamed there listed is h =
      let place = place_of (entries_of b world) (key.Name label, held) listed in
      let places = one_place g valid i w v b c place.0 j unnamed (record { world = world; there = there; entry = (key.Name label, held); at = place.1; held = is }) h in
      let worlds = same_at g.worlds w v world h.world places.0 there h.there in
      let lists : entries_of b world ≡ entries_of c h.world = λ k. entries_of (places.1 k) (worlds k) in
      let entries = same_at (entries_of c h.world) place.0 j (key.Name label, held) h.entry places.2 (subst (λ (es : List Entry). slice_get es place.0 ≡ Some (key.Name label, held)) lists place.1) h.at in
      (places.0, ap (λ (e : Entry). e.0) entries, places.1)

-- the places of one source
same_origin : (s : Source) (f' w' v' : ℕ) (c d : WorldKey) → ((f e : ℕ) → s.maps.interfaces f ≡ s.maps.interfaces e → f ≡ e) → StandsOnceOnly s.graph.interfaces s.graph.worlds → Origin s f' w' c → Origin s f' v' d
    → (w' ≡ v') × (c ≡ d)
same_origin s f' w' v' c d injective one x y =
    let same = injective x.f y.f (sym x.place ∙ y.place) in
    let places = one x.f x.w y.w x.b y.b x.i y.i x.unnamed x.holds (subst (λ (f : ℕ). Holds s.graph.worlds y.w y.b y.i f) (sym same) y.holds) in
    let worlds = same_at s.graph.worlds x.w y.w x.holds.world y.holds.world places.0 x.holds.there y.holds.there in
    let lists : entries_of x.b x.holds.world ≡ entries_of y.b y.holds.world = λ i. entries_of (places.1 i) (worlds i) in
    let entries = same_at (entries_of y.b y.holds.world) x.i y.i x.holds.entry y.holds.entry places.2 (subst (λ (es : List Entry). slice_get es x.i ≡ Some x.holds.entry) lists x.holds.at) y.holds.at in
    (x.world_place ∙ ap s.maps.worlds places.0 ∙ sym y.world_place, x.key ∙ (λ i. key_image s.maps (places.0 i) (entries i).0) ∙ sym y.key)

module _ (m : GraphMerge) (valid : IsValid m.graph) (valid_other : IsValid m.other) where
  abbrev at : ℕ → Source
  at = merge_sources m.graph m.other (merge_maps m)

  one_in : (k : ℕ) → StandsOnceOnly (at k).graph.interfaces (at k).graph.worlds
  one_in zero = cut_has_one_place (kept_whole m.graph) m.graph.interfaces m.graph.worlds (one_place m.graph valid) (lists_distinct m.graph valid)
  one_in (suc k) = cut_has_one_place (kept_whole m.other) m.other.interfaces m.other.worlds (one_place m.other valid_other) (lists_distinct m.other valid_other)

  injective : (k f e : ℕ) → (at k).maps.interfaces f ≡ (at k).maps.interfaces e → f ≡ e
  injective zero f e same = same
  injective (suc k) f e same = interfaces_apart m valid valid_other f e same

  -- what the label of a world of a matched interface without a name says of both its places
  pub spot_of : (i i' : ℕ) → is_unnamed m.other.interfaces i ≡ true → counterpart_interface m i ≡ Some i' → LabelMatch m i i'
  spot_of i i' unnamed found =
      let from = some_parts (λ (interface : Interface). counterpart_interface_by m i interface.package interface.name) (slice_get m.other.interfaces i) i' found in
      let none = no_name m.other.interfaces i unnamed in
      let same : none.0 ≡ from.0 = some_same none.0 from.0 (sym none.1 ∙ from.1) in
      label_match m i i' (subst (λ (n : Option (List ℕ)). counterpart_interface_by m i from.0.package n ≡ Some i') (ap (λ (x : Interface). x.name) (sym same) ∙ none.2) from.2)

  -- where two places of different sources meet, they are of one world and one label
  meets : (f' w' v' : ℕ) (c d : WorldKey) (k : ℕ) → Origin (at zero) f' w' c → Origin (at (suc k)) f' v' d → (w' ≡ v') × (c ≡ d)
  meets f' w' v' c d k x y = elim (cases_Bool (moves_interface m y.f)) [
    | inl goes ↦
        let low : x.f < length m.graph.interfaces = ltb-true x.f (length m.graph.interfaces) x.takes in
        let high = moved_interface_remapped m y.f goes in
        let p = x.place in
        let q = y.place in
        absurd (omega (arith, low, high, p, q))
    | inr stays ↦ by (matched_some (counterpart_interface m y.f) stays)
  ]
    where
      by : (i' : ℕ) × (counterpart_interface m y.f ≡ Some i') → (w' ≡ v') × (c ≡ d)
      by (i', found) =
          let unnamed : is_unnamed m.other.interfaces y.f ≡ true = sym (unnamed_cut m.other y.f) ∙ y.unnamed in
          let world_label = spot_of y.f i' unnamed found in
          let stands = stands_at m.other.worlds y.f world_label.world_label (Contains-from_lookup (λ a b. eqb-true a b) y.f world_label.world_label (world_labels m.other.worlds) world_label.world_label_is) in
          let mine = world_label_key m.other valid_other y.f world_label.world_label.world y.w world_label.world_label.exported y.b y.i stands.world world_label.world_label.label stands.held unnamed stands.there stands.listed stands.is
          (holds_from m.other valid_other (merge_maps m) y.w y.b y.i y.f y.holds) in
          let goes : f' ≡ i' = y.place ∙ goes_to (counterpart_interface m y.f) _ i' found in
          let here : i' ≡ x.f = sym goes ∙ x.place in
          let theirs = world_label_key m.graph valid i' world_label.w' x.w world_label.world_label.exported x.b x.i world_label.there world_label.world_label.label world_label.held world_label.unnamed world_label.there_is
          (Contains-from_lookup same_key-true (key.Name world_label.world_label.label) world_label.held (entries_of world_label.world_label.exported world_label.there) world_label.listed) world_label.is
          (subst (λ (f : ℕ). Holds m.graph.worlds x.w x.b x.i f) (sym here) (holds_from m.graph valid identity x.w x.b x.i x.f x.holds)) in
          let label = world_label.world_label.label in (
            x.world_place ∙ (sym theirs.0 ∙ (sym (goes_to (counterpart_world m world_label.world_label.world) _ world_label.w' world_label.matched) ∙ (ap (merged_world m) mine.0 ∙ sym y.world_place))),
            x.key ∙ (ap (key_image identity x.w) (sym theirs.1) ∙ (ap (key_image (merge_maps m) y.w) mine.1 ∙ sym y.key)),
          )

  pub meet : (g : Graph) (f' w' v' : ℕ) (c d : WorldKey) (k l : ℕ) → is_unnamed g.interfaces f' ≡ true → Origin (at k) f' w' c → Origin (at l) f' v' d → (k ≡ l) ⊎ ((w' ≡ v') × (c ≡ d))
  meet g f' w' v' c d zero zero unnamed x y = inl refl
  meet g f' w' v' c d zero (suc l) unnamed x y = inr (meets f' w' v' c d l x y)
  meet g f' w' v' c d (suc k) zero unnamed x y = let both = meets f' v' w' d c k y x in inr (sym both.0, sym both.1)
  meet g f' w' v' c d (suc k) (suc l) unnamed x y = inr (same_origin (at 1) f' w' v' c d (injective 1) (one_in 1) x y)

-- ---- on one side

joined_held : (from held : WorldItem) → item_interface (joined_item false from held) ≡ item_interface held
joined_held (item.Interface i stability docs span external_id) (item.Interface i' stability' docs' span' external_id') = refl
joined_held (item.Interface i stability docs span external_id) (item.Function f') = refl
joined_held (item.Interface i stability docs span external_id) (item.Type_ t' span') = refl
joined_held (item.Function f) (item.Interface i' stability' docs' span' external_id') = refl
joined_held (item.Function f) (item.Function f') = refl
joined_held (item.Function f) (item.Type_ t' span') = refl
joined_held (item.Type_ t span) (item.Interface i' stability' docs' span' external_id') = refl
joined_held (item.Type_ t span) (item.Function f') = refl
joined_held (item.Type_ t span) (item.Type_ t' span') = refl

pub entry_held : (brought : List Entry) (e : Entry) → item_interface (joined_entry false brought e).1 ≡ item_interface e.1
entry_held brought e = by (lookup (same_key e.0) brought)
  where
    by : (o : Option WorldItem) → item_interface (option_map_or (λ (from : WorldItem). joined_item false from e.1) o e.1) ≡ item_interface e.1
    by None = refl
    by (Some from) = joined_held from e.1

-- what some joined entries hold, the old ones held
old_held : (brought es : List Entry) (d : Entry) → Contains (map (joined_entry false brought) es) d → (e : Entry) × Contains es e × (item_interface d.1 ≡ item_interface e.1)
old_held brought es d has =
    let from = Contains-map_cases (joined_entry false brought) es d has in
    (from.0, from.1, ap (λ (e : Entry). item_interface e.1) (sym from.2) ∙ entry_held brought from.0)

pub image_held : (m : Maps) (w : ℕ) (held : WorldItem) (f' : ℕ) → item_interface (item_image m w held) ≡ f' ∷ [] → (f : ℕ) × (item_interface held ≡ f ∷ []) × (f' ≡ m.interfaces f)
image_held m w (item.Interface i stability docs span external_id) f' is = (i, refl, sym (same_one (m.interfaces i) f' is))
image_held m w (item.Function f) f' is = cc
image_held m w (item.Type_ t span) f' is = cc

module _ (g : Graph) (valid : IsValid g) where
  -- an interface without a name doesn't stand on both sides
  both_sides : (w : ℕ) (world : World) (f : ℕ) (d e : Entry) → slice_get g.worlds w ≡ Some world → is_unnamed g.interfaces f ≡ true → Contains world.imports d → item_interface d.1 ≡ f ∷ [] → Contains world.exports e
      → item_interface e.1 ≡ f ∷ [] → ⊥
  both_sides w world f d e there unnamed has held other held_so =
      let i = place_of world.imports d has in
      let j = place_of world.exports e other in
      let places = one_place g valid f w w false true i.0 j.0 unnamed (record { world = world; there = there; entry = d; at = i.1; held = held }) (record { world = world; there = there; entry = e; at = j.1; held = held_so }) in
      let never = places.1 in
      cc

  -- one that an entry holds is there
  held_there : (w : ℕ) (world : World) (d : Entry) (f : ℕ) → slice_get g.worlds w ≡ Some world → Contains world.imports d → item_interface d.1 ≡ f ∷ [] → (interface : Interface) × (slice_get g.interfaces f ≡ Some interface)
  held_there w world d f there has held =
      let found = found_at (λ (interface : Interface). (interface.name ≡ None) → interface.package ≡ world.package) g.interfaces f (label_home g valid w world false d.0 d.1 f there has held) in
      (found.0, found.1)

module _ (m : GraphMerge) (valid : IsValid m.graph) (valid_other : IsValid m.other) (f' : ℕ) (unnamed : is_unnamed (joined_graph m).interfaces f' ≡ true) where
  old_side : (w' : ℕ) (old : World) → slice_get m.graph.worlds w' ≡ Some old → (d e : Entry) → Contains old.imports d → item_interface d.1 ≡ f' ∷ [] → Contains old.exports e → item_interface e.1 ≡ f' ∷ [] → ⊥
  old_side w' old there d e has held other held_so =
      let is = held_there m.graph valid w' old d f' there has held in
      let same = unnamed_same m.graph.interfaces (joined_graph m).interfaces f' f' is.0 (joined_interface m (f', is.0)) is.1 (old_interface_at m f' is.0 is.1) (joined_keeps m (f', is.0)).name in
      both_sides m.graph valid w' old f' d e there (sym same ∙ unnamed) has held other held_so

  joined_side : (w' : ℕ) (old : World) → slice_get m.graph.worlds w' ≡ Some old → (o : Option (ℕ × World)) (d e : Entry) → Contains (option_map_or (λ (p : ℕ × World). with_world m p old) o old).imports d → item_interface d.1 ≡ f' ∷ []
      → Contains (option_map_or (λ (p : ℕ × World). with_world m p old) o old).exports e → item_interface e.1 ≡ f' ∷ [] → ⊥
  joined_side w' old there None d e has held other held_so = old_side w' old there d e has held other held_so
  joined_side w' old there (Some p) d e has held other held_so =
      let x = old_held (map (entry_image (merge_maps m) p.0) (filter (λ (z : Entry). is_under_id z.0) p.1.imports)) old.imports d has in
      let y = old_held (map (entry_image (merge_maps m) p.0) (filter (λ (z : Entry). is_under_id z.0) p.1.exports)) old.exports e other in
      old_side w' old there x.0 y.0 x.1 (sym x.2 ∙ held) y.1 (sym y.2 ∙ held_so)

  image_side : (w : ℕ) (old : World) → slice_get m.other.worlds w ≡ Some old → (d e : Entry) → Contains (world_image (merge_maps m) w old).imports d → item_interface d.1 ≡ f' ∷ [] → Contains (world_image (merge_maps m) w old).exports e
      → item_interface e.1 ≡ f' ∷ [] → ⊥
  image_side w old there d e has held other held_so =
      let x = Contains-map_cases (entry_image (merge_maps m) w) old.imports d has in
      let y = Contains-map_cases (entry_image (merge_maps m) w) old.exports e other in
      let a = image_held (merge_maps m) w x.0.1 f' (ap (λ (z : Entry). item_interface z.1) x.2 ∙ held) in
      let b = image_held (merge_maps m) w y.0.1 f' (ap (λ (z : Entry). item_interface z.1) y.2 ∙ held_so) in
      let same : b.0 ≡ a.0 = interfaces_apart m valid valid_other b.0 a.0 (sym b.2 ∙ a.2) in
      let is = held_there m.other valid_other w old x.0 a.0 there x.1 a.1 in
      let stands = found_at (InterfaceStands (mapped_source m.other (merge_maps m)) is.0) (joined_graph m).interfaces (merged_interface m a.0) (interface_stands m valid valid_other a.0 is.0 is.1) in
      let none = unnamed_same m.other.interfaces (joined_graph m).interfaces a.0 (merged_interface m a.0) is.0 stands.0 is.1 stands.1 stands.2.name in
      both_sides m.other valid_other w old a.0 x.0 y.0 there (sym none ∙ (ap (is_unnamed (joined_graph m).interfaces) (sym a.2) ∙ unnamed)) x.1 a.1 y.1 (b.1 ∙ ap (λ (z : ℕ). z ∷ []) same)

  listed_side : (w' : ℕ) (listed : World) → slice_get (joined_graph m).worlds w' ≡ Some listed → (d e : Entry) → Contains listed.imports d → item_interface d.1 ≡ f' ∷ [] → Contains listed.exports e → item_interface e.1 ≡ f' ∷ [] → ⊥
  listed_side w' listed there d e has held other held_so = by (world_at_from m w' listed there)
    where
      by : WorldFrom m w' listed → ⊥
      by (of_graph old is same) =
          joined_side w' old is (counterpart_of (counterpart_world m) m.other.worlds w') d e (subst (λ (x : World). Contains x.imports d) (sym same) has) held (subst (λ (x : World). Contains x.exports e) (sym same) other) held_so
      by (of_other w old is moves place same) = image_side w old is d e (subst (λ (x : World). Contains x.imports d) (sym same) has) held (subst (λ (x : World). Contains x.exports e) (sym same) other) held_so

module _ (laws : LawsOfElaboration) (m : GraphMerge) (valid : IsValid m.graph) (valid_other : IsValid m.other) (one : HasNoMismatch m) (can : MergeCanElaborate m) where
  added_named : (j f' : ℕ) → j ∷ [] ≡ f' ∷ [] → IsNamed (merged m).interfaces j → is_unnamed (merged m).interfaces f' ≡ true → ⊥
  added_named j f' same named unnamed = named_not (merged m).interfaces j named (ap (is_unnamed (merged m).interfaces) (same_one j f' same) ∙ unnamed)

  -- the listed entry of an elaborated one that holds such an interface
  listed_import : (w' : ℕ) (listed : World) → slice_get (joined_graph m).worlds w' ≡ Some listed → (f' : ℕ) (e : Entry) → is_unnamed (merged m).interfaces f' ≡ true
      → Contains (elaborated_world (joined_graph m) listed).imports e → item_interface e.1 ≡ f' ∷ [] → (d : Entry) × Contains listed.imports d × (item_interface d.1 ≡ f' ∷ [])
  listed_import w' listed there f' e unnamed has held =
      elim ((entries_from laws m valid valid_other one can w' listed there e).0 has) [
        | inl stays ↦ (stays.0, stays.1, sym (interface_without_span stays.0.1) ∙ (ap (λ (d : Entry). item_interface d.1) (sym stays.2) ∙ held))
        | inr made ↦ absurd (added_named made.1 f' (ap (λ (d : Entry). item_interface d.1) (sym made.2) ∙ held) (used_is_named laws m valid valid_other one can w' listed there made.1 made.3) unnamed)
      ]

  listed_export : (w' : ℕ) (listed : World) → slice_get (joined_graph m).worlds w' ≡ Some listed → (f' : ℕ) (e : Entry) → is_unnamed (merged m).interfaces f' ≡ true
      → Contains (elaborated_world (joined_graph m) listed).exports e → item_interface e.1 ≡ f' ∷ [] → Contains listed.exports e
  listed_export w' listed there f' e unnamed has held =
      elim ((entries_from laws m valid valid_other one can w' listed there e).1 has) [
        | inl stays ↦ stays
        | inr made ↦ absurd (added_named made.1 f' (ap (λ (d : Entry). item_interface d.1) (sym made.2) ∙ held) (exported_is_named laws m valid valid_other one can w' listed there made.1 made.3) unnamed)
      ]

  one_side : (w' i' j' f' : ℕ) → is_unnamed (merged m).interfaces f' ≡ true → Holds (merged m).worlds w' false i' f' → Holds (merged m).worlds w' true j' f' → ⊥
  one_side w' i' j' f' unnamed x y =
      let from = from_map (elaborated_world (joined_graph m)) (joined_graph m).worlds w' x.world x.there in
      let same = same_at (merged m).worlds w' w' y.world x.world refl y.there x.there in
      let import : Contains (elaborated_world (joined_graph m) from.0).imports x.entry = subst (λ (z : World). Contains z.imports x.entry) (sym from.2) (contained_at x.world.imports i' x.entry x.at) in
      let export : Contains (elaborated_world (joined_graph m) from.0).exports y.entry = subst (λ (z : World). Contains z.exports y.entry) (same ∙ sym from.2) (contained_at y.world.exports j' y.entry y.at) in
      let d = listed_import w' from.0 from.1 f' x.entry unnamed import x.held in
      listed_side m valid valid_other f' unnamed w' from.0 from.1 d.0 y.entry d.1 d.2 (listed_export w' from.0 from.1 f' y.entry unnamed export y.held) y.held

  -- interfaces without names stay apart, so each has one place
  pub stand_once : StandOnce (merged m).interfaces (merged m).worlds
  stand_once =
      StandOnce-from_entries (merged m).interfaces (merged m).worlds
      (StandsOnceOnly-of_covered (at m valid valid_other) (merged m) (sources_good m valid valid_other one) (merged_stands laws m valid valid_other one can) (merged_covered laws m valid valid_other one can)
      (record { injective = λ k f e takes other same unnamed. injective m valid valid_other k f e same; meet = meet m valid valid_other (merged m); one_side = one_side }) (one_in m valid valid_other))
