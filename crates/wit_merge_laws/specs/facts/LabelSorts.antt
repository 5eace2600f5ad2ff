-- What stands under a label of a merged world is of the sort of what stood there in one of the two graphs: a function, an
-- interface or a type.
use Rattle.std.proofs.Common.{◌≡◌, ◌∙◌, inl, inr, ℕ, Bool, true, false, List, map, filter, Option, None, Some, slice_get, refl, sym, ap, subst, Contains}
use Rattle.std.specs.Map.{lookup}
use Rattle.std.specs.Option.{option_map_or}
use Rattle.std.proofs.lemmas.Bool.{false≢true}
use Rattle.std.proofs.lemmas.Map.Views.{Contains-from_lookup}
use Rattle.wit_data.specs.Entries.{Entry, entries_of}
use Rattle.wit_data.specs.declared.world.World.{World}
use Rattle.wit_data.specs.declared.world.WorldItem.{WorldItem}
use Rattle.wit_data.specs.declared.world.WorldKey.{WorldKey}
use Rattle.wit_data.specs.declared.world.WorldItem.TheVariants as item
use Rattle.wit_data.specs.declared.world.WorldKey.TheVariants as key
use Rattle.wit_elaboration.specs.facts.FreshEntries.{same_key-true}
use Rattle.wit_elaboration.specs.Elaborated.{without_span}
use Rattle.wit_elaboration.specs.Entries.{same_key}
use Rattle.wit_elaboration.specs.Valid.{IsValid}
use Rattle.wit_graph_data.specs.declared.graph.Graph.{Graph}
use Rattle.wit_elaboration.specs.AllElaborated.{elaborated_world}
use Rattle.wit_remap_spec.specs.Image.{Maps, entry_image, item_image}
use Rattle.wit_graph_theory.specs.facts.LawsOfElaboration.{LawsOfElaboration}
use Rattle.wit_graph_theory.specs.facts.ListFacts.{Contains-map_cases, found_at, from_map}
use Rattle.wit_graph_theory.specs.facts.OptionFacts.{some_same}
use Rattle.wit_remap_spec.specs.Joined.{joined_entry, joined_item}
use Rattle.wit_merge_spec.specs.Cause.{same_sort, HasNoMismatch}
use Rattle.wit_merge_spec.specs.Merged.{is_under_id, joined_graph, merged, with_world, merge_maps, merged_world}
use Rattle.wit_merge_spec.specs.Matches.{GraphMerge, counterpart_of, counterpart_world}
use Rattle.wit_merge_laws.specs.facts.JoinedGood.{MergeCanElaborate}
use Rattle.wit_merge_laws.specs.facts.LabelsStay.{no_label}
use Rattle.wit_merge_laws.specs.facts.ListedStand.{world_at_from}
use Rattle.wit_merge_laws.specs.facts.ListedStand as worlds
use Rattle.wit_merge_laws.specs.facts.MatchedOnce.{lists_distinct, one_under}
use Rattle.wit_merge_laws.specs.laws.Names.{HasLabel}
use Rattle.wit_merge_laws.specs.facts.NamesCome.{label_key}
use Rattle.wit_merge_laws.specs.facts.MergedWorlds.{entries_from}
use Rattle.wit_merge_laws.specs.facts.UsesListed.{image_entry}
use Rattle.wit_merge_laws.specs.facts.WorldsStand.{entry, entry_there}
use Rattle.wit_merge_spec.specs.steps.Parts.{joined_world, moves_world}

-- ---- sorts

-- an interface, a function or a type
abbrev pub sort_of : WorldItem → ℕ
sort_of (item.Interface i stability docs span external_id) = 0
sort_of (item.Function f) = 1
sort_of (item.Type_ t span) = 2

pub same_sort_is : (a b : WorldItem) → same_sort a b ≡ true → sort_of a ≡ sort_of b
same_sort_is (item.Interface i stability docs span external_id) (item.Interface i' stability' docs' span' external_id') same = refl
same_sort_is (item.Interface i stability docs span external_id) (item.Function f') same = absurd (false≢true same)
same_sort_is (item.Interface i stability docs span external_id) (item.Type_ t' span') same = absurd (false≢true same)
same_sort_is (item.Function f) (item.Interface i' stability' docs' span' external_id') same = absurd (false≢true same)
same_sort_is (item.Function f) (item.Function f') same = refl
same_sort_is (item.Function f) (item.Type_ t' span') same = absurd (false≢true same)
same_sort_is (item.Type_ t span) (item.Interface i' stability' docs' span' external_id') same = absurd (false≢true same)
same_sort_is (item.Type_ t span) (item.Function f') same = absurd (false≢true same)
same_sort_is (item.Type_ t span) (item.Type_ t' span') same = refl

pub is_same_sort : (a b : WorldItem) → sort_of a ≡ sort_of b → same_sort a b ≡ true
is_same_sort (item.Interface i stability docs span external_id) (item.Interface i' stability' docs' span' external_id') same = refl
is_same_sort (item.Interface i stability docs span external_id) (item.Function f') same = cc
is_same_sort (item.Interface i stability docs span external_id) (item.Type_ t' span') same = cc
is_same_sort (item.Function f) (item.Interface i' stability' docs' span' external_id') same = cc
is_same_sort (item.Function f) (item.Function f') same = refl
is_same_sort (item.Function f) (item.Type_ t' span') same = cc
is_same_sort (item.Type_ t span) (item.Interface i' stability' docs' span' external_id') same = cc
is_same_sort (item.Type_ t span) (item.Function f') same = cc
is_same_sort (item.Type_ t span) (item.Type_ t' span') same = refl

-- ---- what keeps them

without_span_sort : (held : WorldItem) → sort_of (without_span held) ≡ sort_of held
without_span_sort (item.Interface i stability docs span external_id) = refl
without_span_sort (item.Function f) = refl
without_span_sort (item.Type_ t span) = refl

image_sort : (m : Maps) (w : ℕ) (held : WorldItem) → sort_of (item_image m w held) ≡ sort_of held
image_sort m w (item.Interface i stability docs span external_id) = refl
image_sort m w (item.Function f) = refl
image_sort m w (item.Type_ t span) = refl

joined_sort : (from held : WorldItem) → sort_of (joined_item false from held) ≡ sort_of held
joined_sort (item.Interface i stability docs span external_id) (item.Interface i' stability' docs' span' external_id') = refl
joined_sort (item.Interface i stability docs span external_id) (item.Function f') = refl
joined_sort (item.Interface i stability docs span external_id) (item.Type_ t' span') = refl
joined_sort (item.Function f) (item.Interface i' stability' docs' span' external_id') = refl
joined_sort (item.Function f) (item.Function f') = refl
joined_sort (item.Function f) (item.Type_ t' span') = refl
joined_sort (item.Type_ t span) (item.Interface i' stability' docs' span' external_id') = refl
joined_sort (item.Type_ t span) (item.Function f') = refl
joined_sort (item.Type_ t span) (item.Type_ t' span') = refl

entry_sort : (brought : List Entry) (d : Entry) → sort_of (joined_entry false brought d).1 ≡ sort_of d.1
entry_sort brought d = by (lookup (same_key d.0) brought)
  where
    by : (o : Option WorldItem) → sort_of (option_map_or (λ (from : WorldItem). joined_item false from d.1) o d.1) ≡ sort_of d.1
    by None = refl
    by (Some from) = joined_sort from d.1

-- what stands under a key, and is of the sort of an item
pub record OfSort (es : List Entry) (k : WorldKey) (held : WorldItem) : Type 0 where
  pub there : WorldItem
  pub has : Contains es (entry k there)
  pub sort : sort_of there ≡ sort_of held

joined_from : (brought es : List Entry) (k : WorldKey) (held : WorldItem) → Contains (map (joined_entry false brought) es) (entry k held) → OfSort es k held
joined_from brought es k held has =
    let from = Contains-map_cases (joined_entry false brought) es (entry k held) has in
    record {
      there = from.0.1;
      has = subst (λ (x : WorldKey). Contains es (entry x from.0.1)) (ap (λ (x : Entry). x.0) from.2) from.1;
      sort = sym (entry_sort brought from.0) ∙ ap (λ (x : Entry). sort_of x.1) from.2;
    }

world_from : (m : GraphMerge) (e : ℕ × World) (exported : Bool) (k : WorldKey) (held : WorldItem) → Contains (entries_of exported (joined_world m e)) (entry k held) → OfSort (entries_of exported e.1) k held
world_from m e exported k held = by (counterpart_of (counterpart_world m) m.other.worlds e.0)
  where
    with_from : (p : ℕ × World) (exported : Bool) → Contains (entries_of exported (with_world m p e.1)) (entry k held) → OfSort (entries_of exported e.1) k held
    with_from p false has = joined_from (map (entry_image (merge_maps m) p.0) (filter (λ (x : Entry). is_under_id x.0) p.1.imports)) e.1.imports k held has
    with_from p true has = joined_from (map (entry_image (merge_maps m) p.0) (filter (λ (x : Entry). is_under_id x.0) p.1.exports)) e.1.exports k held has

    by : (o : Option (ℕ × World)) → Contains (entries_of exported (option_map_or (λ (p : ℕ × World). with_world m p e.1) o e.1)) (entry k held) → OfSort (entries_of exported e.1) k held
    by None has = record { there = held; has = has; sort = refl }
    by (Some p) has = with_from p exported has

module _ (laws : LawsOfElaboration) (m : GraphMerge) (valid : IsValid m.graph) (valid_other : IsValid m.other) (one : HasNoMismatch m) (can : MergeCanElaborate m) where
  abbrev g : Graph
  g = joined_graph m

  listed_from : (w' : ℕ) (listed : World) → slice_get g.worlds w' ≡ Some listed → (exported : Bool) (label : List ℕ) (held : WorldItem) → Contains (entries_of exported (elaborated_world g listed)) (entry (key.Name label) held)
      → OfSort (entries_of exported listed) (key.Name label) held
  listed_from w' listed there false label held has = elim ((entries_from laws m valid valid_other one can w' listed there (entry (key.Name label) held)).0 has) [
    | inl stays ↦ record {
      there = stays.0.1;
      has = subst (λ (k : WorldKey). Contains listed.imports (entry k stays.0.1)) (ap (λ (e : Entry). e.0) (sym stays.2)) stays.1;
      sort = sym (without_span_sort stays.0.1) ∙ ap (λ (e : Entry). sort_of e.1) (sym stays.2);
    }
    | inr made ↦ absurd (no_label label made.1 (ap (λ (e : Entry). e.0) made.2))
  ]
  listed_from w' listed there true label held has = elim ((entries_from laws m valid valid_other one can w' listed there (entry (key.Name label) held)).1 has) [
    | inl stays ↦ record { there = held; has = stays; sort = refl }
    | inr made ↦ absurd (no_label label made.1 (ap (λ (e : Entry). e.0) made.2))
  ]

  -- what stood under the label, in a world of the graph or in one that moves
  pub data SortFrom (w' : ℕ) (exported : Bool) (label : List ℕ) (held : WorldItem) : Type 0 where
    sort_of_graph : (old : World) (d : WorldItem) → slice_get m.graph.worlds w' ≡ Some old
        → Contains (entries_of exported old) (entry (key.Name label) d) → sort_of d ≡ sort_of held
        → SortFrom w' exported label held
    sort_of_other : (w : ℕ) (old : World) (d : WorldItem) → slice_get m.other.worlds w ≡ Some old
        → moves_world m w ≡ true → w' ≡ merged_world m w
        → Contains (entries_of exported old) (entry (key.Name label) d) → sort_of d ≡ sort_of held
        → SortFrom w' exported label held

  pub sort_from : (w' : ℕ) (exported : Bool) (label : List ℕ) (held : WorldItem) → HasLabel (merged m) w' exported label held → SortFrom w' exported label held
  sort_from w' exported label held has =
      let world = found_at (λ (world : World). Contains (entries_of exported world) (entry (key.Name label) held)) (merged m).worlds w' has in
      let listed = from_map (elaborated_world g) g.worlds w' world.0 world.1 in
      let before = listed_from w' listed.0 listed.1 exported label held (subst (λ (x : World). Contains (entries_of exported x) (entry (key.Name label) held)) (sym listed.2) world.2) in
      by listed.0 before.there before.has before.sort (world_at_from m w' listed.0 listed.1)
    where
      by : (listed : World) (d : WorldItem) → Contains (entries_of exported listed) (entry (key.Name label) d) → sort_of d ≡ sort_of held → worlds.WorldFrom m w' listed → SortFrom w' exported label held
      by listed d stands sort (worlds.of_graph old is joined) =
          let from = world_from m (w', old) exported (key.Name label) d (subst (λ (x : World). Contains (entries_of exported x) (entry (key.Name label) d)) (sym joined) stands) in
          sort_of_graph old from.there is from.has (from.sort ∙ sort)
      by listed d stands sort (worlds.of_other w old is moves place image) =
          let from = image_entry m valid valid_other one w old is moves exported (entry (key.Name label) d) (subst (λ (x : World). Contains (entries_of exported x) (entry (key.Name label) d)) (sym image) stands) in
          let at_key = label_key m w from.0.0 label (ap (λ (e : Entry). e.0) from.2) in
          sort_of_other w old from.0.1 is moves place (subst (λ (k : WorldKey). Contains (entries_of exported old) (entry k from.0.1)) at_key from.1)
          (sym (image_sort (merge_maps m) w from.0.1) ∙ (ap (λ (e : Entry). sort_of e.1) from.2 ∙ sort))

  -- matched worlds have things of one sort under a label
  pub matched_sort : (w w' : ℕ) (old into : World) → slice_get m.other.worlds w ≡ Some old → counterpart_world m w ≡ Some w' → slice_get m.graph.worlds w' ≡ Some into → (exported : Bool) (label : List ℕ) (d d' : WorldItem)
      → Contains (entries_of exported old) (entry (key.Name label) d) → Contains (entries_of exported into) (entry (key.Name label) d') → sort_of d ≡ sort_of d'
  matched_sort w w' old into there found into_there exported label d d' has has' =
      let at = entry_there m valid valid_other one w w' old into there found into_there exported (key.Name label) d has in
      let same_label : at.k' ≡ key.Name label = some_same at.k' (key.Name label) (sym at.key_is) in
      let stands = subst (λ (k : WorldKey). Contains (entries_of exported into) (entry k at.here)) same_label (Contains-from_lookup same_key-true at.k' at.here (entries_of exported into) at.looked) in
      let same : at.here ≡ d' = one_under (entries_of exported into) (lists_distinct m.graph valid w' exported into into_there) (key.Name label) at.here d' stands has' in
      same_sort_is d at.here at.same ∙ ap sort_of same
