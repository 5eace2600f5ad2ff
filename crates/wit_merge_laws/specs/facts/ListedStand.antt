-- The worlds of two graphs that are one, as they are listed: those of the graph stay, those of the other stand at their
-- places, and there are no others.
use Rattle.std.proofs.Common.{◌≡◌, ◌∙◌, ℕ, ◌+◌, ◌<◌, true, false, List, [], ◌∷◌, ◌++◌, inl, inr, map, length, Option, None, Some, slice_get, refl, sym, ap, subst, arith, Contains}
use Rattle.std.specs.List.{enumerate_from}
use Rattle.std.specs.Map.{lookup}
use Rattle.std.specs.Option.{option_map_or}
use Rattle.std.proofs.lemmas.Bool.{cases_Bool, lt-ltb}
use Rattle.std.proofs.lemmas.List.{length-map}
use Rattle.std.proofs.lemmas.List.Elements.{Contains-append_left, Contains-append_right}
use Rattle.std.proofs.lemmas.Option.{slice_get_within}
use Rattle.wit_values.specs.facts.Lists.{slice_get-append}
use Rattle.wit_values.specs.Table.{HasDistinctKeys}
use Rattle.wit_data.specs.Entries.{Entry, IsExport}
use Rattle.wit_data.specs.declared.interface.Interface.{Interface}
use Rattle.wit_data.specs.declared.world.World.{World}
use Rattle.wit_data.specs.declared.world.WorldItem.{WorldItem}
use Rattle.wit_data.specs.declared.world.WorldKey.{WorldKey}
use Rattle.wit_data.specs.declared.world.WorldItem.TheVariants as item
use Rattle.wit_data.specs.declared.world.WorldKey.TheVariants as key
use Rattle.wit_elaboration.specs.Entries.{same_key}
use Rattle.wit_elaboration.specs.Valid.{IsValid}
use Rattle.wit_graph_theory.specs.facts.CarriedImages.{function_itself_carried}
use Rattle.wit_graph_theory.specs.facts.Covered.{EntryComes, IsNoType, ItemComes, WorldComes}
use Rattle.wit_remap_spec.specs.Image.{Maps, entry_image, item_image, key_image, world_image}
use Rattle.wit_graph_theory.specs.facts.ImagesCome.{entry_image_comes}
use Rattle.wit_graph_theory.specs.facts.ListFacts.{at_map, at_new, contained_at, from_map, old_or_new, place_of}
use Rattle.wit_graph_theory.specs.Operations.{merge_sources}
use Rattle.wit_graph_theory.specs.facts.PackagesAcyclic.{length-numbered, numbered_from, numbered_into}
use Rattle.wit_graph_theory.specs.steps.Sources.{Source}
use Rattle.wit_remap_spec.specs.Joined.{joined_entry, joined_item}
use Rattle.wit_link_spec.specs.facts.RankFacts.{rank-injective, selected_with_index-at, selected_with_index-from}
use Rattle.wit_remap_spec.specs.Selected.{rank}
use Rattle.wit_link_spec.specs.facts.Remains.{key_stays}
use Rattle.wit_merge_spec.specs.Merged.{joined_graph, with_world, merge_maps, merged_interface, merged_world, moved_worlds}
use Rattle.wit_merge_spec.specs.Matches.{GraphMerge, counterpart_interface, counterpart_of, counterpart_world}
use Rattle.wit_merge_laws.specs.facts.InterfacesStand.{moved_interface_remapped}
use Rattle.wit_merge_laws.specs.facts.MatchFacts.{goes_to, interface_is}
use Rattle.wit_merge_laws.specs.facts.MatchedOnce.{interface_once}
use Rattle.wit_merge_laws.specs.facts.NothingFacts.{map_same}
use Rattle.wit_merge_laws.specs.facts.TypesStand.{matched_some, moved_next}
use Rattle.wit_merge_laws.specs.facts.WholeFacts.{world_at}
use Rattle.wit_remap_spec.specs.steps.Parts.{identity}
use Rattle.wit_merge_spec.specs.steps.Parts.{joined_world, moves_interface, moves_world}

-- ---- where worlds stand

module _ (m : GraphMerge) where
  abbrev old_worlds : List World
  old_worlds = map (joined_world m) (enumerate_from 0 m.graph.worlds)

  abbrev imaged : ℕ × World → World
  imaged e = world_image (merge_maps m) e.0 e.1

  abbrev images : List World
  images = map imaged (moved_worlds m)

  long_old : length old_worlds ≡ length m.graph.worlds
  long_old = length-map (enumerate_from 0 m.graph.worlds) (joined_world m) ∙ length-numbered 0 m.graph.worlds

  -- a world of the graph stays at its place
  pub old_world_at : (w : ℕ) (world : World) → slice_get m.graph.worlds w ≡ Some world → slice_get (joined_graph m).worlds w ≡ Some (joined_world m (w, world))
  old_world_at w world at =
      let place : 0 + w ≡ w = omega arith in
      slice_get-append old_worlds images w (joined_world m (w, world))
      (at_map (joined_world m) (enumerate_from 0 m.graph.worlds) w (w, world) (numbered_into 0 m.graph.worlds w world at ∙ ap (λ (n : ℕ). Some (n, world)) place))

  pub moved_world_remapped : (w : ℕ) → moves_world m w ≡ true → merged_world m w ≡ length m.graph.worlds + rank (moves_world m) w
  moved_world_remapped w moves = moved_next (counterpart_world m w) _ moves

  -- one that moves stands at the next place, as its image
  pub new_world_at : (w : ℕ) (world : World) → slice_get m.other.worlds w ≡ Some world → moves_world m w ≡ true → slice_get (joined_graph m).worlds (merged_world m w) ≡ Some (world_image (merge_maps m) w world)
  new_world_at w world at moves =
      let goes = moved_world_remapped w moves in
      let long = long_old in
      at_new old_worlds images (rank (moves_world m) w) (merged_world m w) (world_image (merge_maps m) w world) (omega (arith, goes, long))
      (at_map imaged (moved_worlds m) (rank (moves_world m) w) (w, world) (selected_with_index-at (moves_world m) m.other.worlds w world at moves))

  -- what stands there is one of these
  pub data WorldFrom (w' : ℕ) (new : World) : Type 0 where
    of_graph : (old : World) → slice_get m.graph.worlds w' ≡ Some old
        → joined_world m (w', old) ≡ new → WorldFrom w' new
    of_other : (w : ℕ) (old : World) → slice_get m.other.worlds w ≡ Some old
        → moves_world m w ≡ true → w' ≡ merged_world m w → world_image (merge_maps m) w old ≡ new
        → WorldFrom w' new

  pub world_at_from : (w' : ℕ) (new : World) → slice_get (joined_graph m).worlds w' ≡ Some new → WorldFrom w' new
  world_at_from w' new at =
      elim (old_or_new old_worlds images w' new at) [
        | inl old ↦
            let from = from_map (joined_world m) (enumerate_from 0 m.graph.worlds) w' new old in
            let is = numbered_from 0 m.graph.worlds w' from.0 from.1 in
            let place : from.0.0 ≡ w' = let n = is.0 in omega (arith, n) in
            of_graph from.0.1 is.1 (ap (λ (k : ℕ). joined_world m (k, from.0.1)) (sym place) ∙ from.2)
        | inr behind ↦
            let from = from_map imaged (moved_worlds m) behind.0 new behind.2 in
            let is = selected_with_index-from (moves_world m) m.other.worlds behind.0 from.0 from.1 in
            let goes = moved_world_remapped from.0.0 is.1 in
            let long = long_old in
            let n = behind.1 in
            let r = is.2 in
            of_other from.0.0 from.0.1 is.0 is.1 (omega (arith, goes, long, n, r)) from.2
      ]

-- ---- entries with stabilities joined to theirs

module _ (s : Source) (stays : s.maps ≡ identity) (w : ℕ) where
  comes_itself : (held : WorldItem) → ItemComes s w held held
  comes_itself (item.Interface i stability docs span external_id) = ap (λ (x : Maps). x.interfaces i ∷ []) (sym stays)
  comes_itself (item.Function f) = (f, refl, ap (λ (x : Maps). x.labels w f.name) (sym stays), function_itself_carried s f stays)
  comes_itself (item.Type_ t span) = (span, ap (λ (x : Maps). item.Type_ (x.types t) span) (sym stays))

  comes_joined : (from held : WorldItem) → ItemComes s w held (joined_item false from held)
  comes_joined (item.Interface i stability docs span external_id) (item.Interface i' stability' docs' span' external_id') = ap (λ (x : Maps). x.interfaces i' ∷ []) (sym stays)
  comes_joined (item.Interface i stability docs span external_id) (item.Function f') = comes_itself (item.Function f')
  comes_joined (item.Interface i stability docs span external_id) (item.Type_ t' span') = comes_itself (item.Type_ t' span')
  comes_joined (item.Function f) (item.Interface i' stability' docs' span' external_id') = comes_itself (item.Interface i' stability' docs' span' external_id')
  comes_joined (item.Function f) (item.Function f') = comes_itself (item.Function f')
  comes_joined (item.Function f) (item.Type_ t' span') = comes_itself (item.Type_ t' span')
  comes_joined (item.Type_ t span) (item.Interface i' stability' docs' span' external_id') = comes_itself (item.Interface i' stability' docs' span' external_id')
  comes_joined (item.Type_ t span) (item.Function f') = comes_itself (item.Function f')
  comes_joined (item.Type_ t span) (item.Type_ t' span') = comes_itself (item.Type_ t' span')

  pub joined_comes : (brought : List Entry) (e : Entry) → ItemComes s w e.1 (joined_entry false brought e).1
  joined_comes brought e = by (lookup (same_key e.0) brought)
    where
      by : (o : Option WorldItem) → ItemComes s w e.1 (option_map_or (λ (from : WorldItem). joined_item false from e.1) o e.1)
      by None = comes_itself e.1
      by (Some from) = comes_joined from e.1

-- what is no type is none
no_type_joined : (brought : List Entry) (e : Entry) → IsNoType e.1 → IsNoType (joined_entry false brought e).1
no_type_joined brought e none = by (lookup (same_key e.0) brought)
  where
    same : (from held : WorldItem) → IsNoType held → IsNoType (joined_item false from held)
    same (item.Interface i stability docs span external_id) (item.Interface i' stability' docs' span' external_id') none = tt
    same (item.Interface i stability docs span external_id) (item.Function f') none = tt
    same (item.Interface i stability docs span external_id) (item.Type_ t' span') none = absurd none
    same (item.Function f) (item.Interface i' stability' docs' span' external_id') none = tt
    same (item.Function f) (item.Function f') none = tt
    same (item.Function f) (item.Type_ t' span') none = absurd none
    same (item.Type_ t span) (item.Interface i' stability' docs' span' external_id') none = tt
    same (item.Type_ t span) (item.Function f') none = tt
    same (item.Type_ t span) (item.Type_ t' span') none = absurd none

    by : (o : Option WorldItem) → IsNoType (option_map_or (λ (from : WorldItem). joined_item false from e.1) o e.1)
    by None = none
    by (Some from) = same from e.1 none

export_no_type : (interfaces : List Interface) (k : WorldKey) (held : WorldItem) → IsExport interfaces k held → IsNoType held
export_no_type interfaces k (item.Interface i stability docs span external_id) is = tt
export_no_type interfaces k (item.Function f) is = tt
export_no_type interfaces (key.Name name) (item.Type_ t span) is = absurd is
export_no_type interfaces (key.Interface i) (item.Type_ t span) is = absurd is

-- keys that differ differ where each entry keeps its key
keys_kept : (f : Entry → Entry) → ((e : Entry) → (f e).0 ≡ e.0) → (es : List Entry) → HasDistinctKeys es → HasDistinctKeys (map f es)
keys_kept f kept es distinct i j x y first second same =
    let a = from_map f es i x first in
    let b = from_map f es j y second in
    distinct i j a.0 b.0 a.1 b.1 (sym (kept a.0) ∙ (ap (λ (e : Entry). e.0) a.2 ∙ (same ∙ (ap (λ (e : Entry). e.0) (sym b.2) ∙ kept b.0))))

-- ---- listed worlds come of the two

module _ (m : GraphMerge) (valid : IsValid m.graph) (valid_other : IsValid m.other) where
  abbrev at : ℕ → Source
  at = merge_sources m.graph m.other (merge_maps m)

  module _ (w' : ℕ) (into : World) (there : slice_get m.graph.worlds w' ≡ Some into) where
    old_entry : (brought : List Entry) (e : Entry) → Contains (into.imports ++ into.exports) e → EntryComes at w' (joined_entry false brought e)
    old_entry brought e has = record {
      source = 0;
      from = record { w = w'; old = into; there = world_at m.graph valid identity w' into there; takes = lt-ltb w' (length m.graph.worlds) (slice_get_within m.graph.worlds w' into there); place = refl };
      old = e;
      listed = has;
      key = key_stays w' e.0;
      held = joined_comes (at 0) refl w' brought e;
    }

    no_types : (e : Entry) → Contains into.exports e → IsNoType e.1
    no_types e has = let place = place_of into.exports e has in export_no_type m.graph.interfaces e.0 e.1 (valid.well_formed.worlds.exports w' into there place.0 e place.1)

    -- with whatever stabilities joined to its entries
    with_comes : (imported exported : List Entry) (new : World) → new.imports ≡ map (joined_entry false imported) into.imports → new.exports ≡ map (joined_entry false exported) into.exports → new.includes ≡ into.includes
        → WorldComes at (joined_graph m) w' new
    with_comes imported exported new imports exports includes = record {
      imports = λ i e on.
          let from = from_map (joined_entry false imported) into.imports i e (subst (λ (es : List Entry). slice_get es i ≡ Some e) imports on) in
          inl (subst (EntryComes at w') from.2 (old_entry imported from.0 (Contains-append_left into.imports into.exports from.0 (contained_at into.imports i from.0 from.1))));
      exports = λ i e on.
          let from = from_map (joined_entry false exported) into.exports i e (subst (λ (es : List Entry). slice_get es i ≡ Some e) exports on) in
          let has = contained_at into.exports i from.0 from.1 in
          inl (
            subst (EntryComes at w') from.2 (old_entry exported from.0 (Contains-append_right into.imports into.exports from.0 has)),
            subst (λ (d : Entry). IsNoType d.1) from.2 (no_type_joined exported from.0 (no_types from.0 has)),
          );
      distinct_imports = subst (λ (es : List Entry). HasDistinctKeys es) (sym imports) (keys_kept (joined_entry false imported) (λ e. refl) into.imports (valid.well_formed.worlds.distinct_imports w' into there));
      distinct_exports = subst (λ (es : List Entry). HasDistinctKeys es) (sym exports) (keys_kept (joined_entry false exported) (λ e. refl) into.exports (valid.well_formed.worlds.distinct_exports w' into there));
      no_includes = includes ∙ valid.well_formed.worlds.no_includes w' into there;
    }

    -- nothing is joined to entries for which nothing is brought
    unjoined : (es : List Entry) → es ≡ map (joined_entry false []) es
    unjoined es = sym (map_same (joined_entry false []) es (λ i e at. refl))

    pub stays_come : WorldComes at (joined_graph m) w' (joined_world m (w', into))
    stays_come = by (counterpart_of (counterpart_world m) m.other.worlds w')
      where
        by : (o : Option (ℕ × World)) → WorldComes at (joined_graph m) w' (option_map_or (λ (p : ℕ × World). with_world m p into) o into)
        by None = with_comes [] [] into (unjoined into.imports) (unjoined into.exports) refl
        by (Some p) = with_comes _ _ (with_world m p into) refl refl refl

  -- ---- keys of worlds that move

  matched_within : (i i' : ℕ) → counterpart_interface m i ≡ Some i' → i' < length m.graph.interfaces
  matched_within i i' found = let is = interface_is m valid valid_other i i' found in slice_get_within m.graph.interfaces i' is.into is.into_is

  -- no two interfaces go to one
  pub interfaces_apart : (i j : ℕ) → merged_interface m i ≡ merged_interface m j → i ≡ j
  interfaces_apart i j same = elim (cases_Bool (moves_interface m i)) [
    | inl goes ↦ elim (cases_Bool (moves_interface m j)) [
      | inl goes_so ↦
          let a = moved_interface_remapped m i goes in
          let b = moved_interface_remapped m j goes_so in
          rank-injective (moves_interface m) i j goes goes_so (omega (arith, a, b, same))
      | inr stays ↦
          let found = matched_some (counterpart_interface m j) stays in
          let a = moved_interface_remapped m i goes in
          let b = goes_to (counterpart_interface m j) (length m.graph.interfaces + rank (moves_interface m) j) found.0 found.1 in
          let within = matched_within j found.0 found.1 in
          absurd (omega (arith, a, b, same, within))
    ]
    | inr stays ↦ elim (cases_Bool (moves_interface m j)) [
      | inl goes_so ↦
          let found = matched_some (counterpart_interface m i) stays in
          let a = goes_to (counterpart_interface m i) (length m.graph.interfaces + rank (moves_interface m) i) found.0 found.1 in
          let b = moved_interface_remapped m j goes_so in
          let within = matched_within i found.0 found.1 in
          absurd (omega (arith, a, b, same, within))
      | inr stays_so ↦
          let found = matched_some (counterpart_interface m i) stays in
          let found_so = matched_some (counterpart_interface m j) stays_so in
          let a = goes_to (counterpart_interface m i) (length m.graph.interfaces + rank (moves_interface m) i) found.0 found.1 in
          let b = goes_to (counterpart_interface m j) (length m.graph.interfaces + rank (moves_interface m) j) found_so.0 found_so.1 in
          let one : found.0 ≡ found_so.0 = omega (arith, a, b, same) in
          interface_once m valid valid_other i j found_so.0 (found.1 ∙ ap (λ (x : ℕ). Some x) one) found_so.1
    ]
  ]

  keys_apart : (w : ℕ) (k l : WorldKey) → key_image (merge_maps m) w k ≡ key_image (merge_maps m) w l → k ≡ l
  keys_apart w (key.Name a) (key.Name b) same = same
  keys_apart w (key.Name a) (key.Interface j) same = cc
  keys_apart w (key.Interface i) (key.Name b) same = cc
  keys_apart w (key.Interface i) (key.Interface j) same = ap (λ (x : ℕ). key.Interface x) (interfaces_apart i j (one same))
    where
      one : {a b : ℕ} → key.Interface a ≡ key.Interface b → a ≡ b
      one same = cc

  images_distinct : (w : ℕ) (es : List Entry) → HasDistinctKeys es → HasDistinctKeys (map (entry_image (merge_maps m) w) es)
  images_distinct w es distinct i j x y first second same =
      let a = from_map (entry_image (merge_maps m) w) es i x first in
      let b = from_map (entry_image (merge_maps m) w) es j y second in
      distinct i j a.0 b.0 a.1 b.1 (keys_apart w a.0.0 b.0.0 (ap (λ (e : Entry). e.0) a.2 ∙ (same ∙ ap (λ (e : Entry). e.0) (sym b.2))))

  no_type_imaged : (w : ℕ) (held : WorldItem) → IsNoType held → IsNoType (item_image (merge_maps m) w held)
  no_type_imaged w (item.Interface i stability docs span external_id) none = tt
  no_type_imaged w (item.Function f) none = tt
  no_type_imaged w (item.Type_ t span) none = absurd none

  pub moved_comes : (w : ℕ) (old : World) → slice_get m.other.worlds w ≡ Some old → WorldComes at (joined_graph m) (merged_world m w) (world_image (merge_maps m) w old)
  moved_comes w old there =
      let source = world_at m.other valid_other (merge_maps m) w old there in
      let takes = lt-ltb w (length m.other.worlds) (slice_get_within m.other.worlds w old there) in
      record {
        imports = λ i e on.
            let from = from_map (entry_image (merge_maps m) w) old.imports i e on in
            inl (subst (EntryComes at (merged_world m w)) from.2 (entry_image_comes at 1 w old from.0 source takes (Contains-append_left old.imports old.exports from.0 (contained_at old.imports i from.0 from.1))));
        exports = λ i e on.
            let from = from_map (entry_image (merge_maps m) w) old.exports i e on in
            inl (
              subst (EntryComes at (merged_world m w)) from.2 (entry_image_comes at 1 w old from.0 source takes (Contains-append_right old.imports old.exports from.0 (contained_at old.exports i from.0 from.1))),
              subst (λ (d : Entry). IsNoType d.1) from.2 (no_type_imaged w from.0.1 (export_no_type m.other.interfaces from.0.0 from.0.1 (valid_other.well_formed.worlds.exports w old there i from.0 from.1))),
            );
        distinct_imports = images_distinct w old.imports (valid_other.well_formed.worlds.distinct_imports w old there);
        distinct_exports = images_distinct w old.exports (valid_other.well_formed.worlds.distinct_exports w old there);
        no_includes = refl;
      }

  -- each listed world comes of worlds of the two
  pub worlds_come : (w' : ℕ) (new : World) → slice_get (joined_graph m).worlds w' ≡ Some new → WorldComes at (joined_graph m) w' new
  worlds_come w' new there = by (world_at_from m w' new there)
    where
      by : WorldFrom m w' new → WorldComes at (joined_graph m) w' new
      by (of_graph old is same) = subst (WorldComes at (joined_graph m) w') same (stays_come w' old is)
      by (of_other w old is goes place same) = subst (WorldComes at (joined_graph m) w') same (subst (λ (k : ℕ). WorldComes at (joined_graph m) k (world_image (merge_maps m) w old)) (sym place) (moved_comes w old is))
