-- Where matched things differ in nothing, the worlds of the other graph stand among those of the two as one, as they are
-- listed; so the two graphs stand in it.
use Rattle.std.proofs.Common.{◌≡◌, ◌∙◌, inl, inr, ℕ, Bool, zero, suc, true, false, List, [], map, filter, Option, None, Some, IsSome, slice_get, refl, sym, ap, subst, Contains}
use Rattle.std.specs.Map.{lookup}
use Rattle.std.specs.Option.{option_map_or}
use Rattle.std.specs.Str.{bytes_eq}
use Rattle.std.proofs.lemmas.Bool.{cases_Bool, false≢true}
use Rattle.std.proofs.lemmas.Map.Views.{Contains-from_lookup, IsSome-lookup_from_Contains}
use Rattle.std.proofs.lemmas.Slice.Eq.{bytes_eq-Decides}
use Rattle.std.specs.Cmp.Lexicographic.{nat_list_eq_equiv}
use Rattle.wit_digraph.specs.facts.MemberFacts.{Contains-flat_map, Contains-flat_map_cases, Contains-here}
use Rattle.wit_data.specs.Each.{SomeAt}
use Rattle.wit_data.specs.Entries.{Entry, entries_of}
use Rattle.wit_data.specs.Ownership.{entry_type, world_types}
use Rattle.wit_data.specs.declared.interface.Interface.{Interface}
use Rattle.wit_data.specs.declared.types.TypeDef.{TypeDef}
use Rattle.wit_data.specs.declared.world.World.{World}
use Rattle.wit_data.specs.declared.world.WorldItem.{WorldItem}
use Rattle.wit_data.specs.declared.world.WorldKey.{WorldKey}
use Rattle.wit_data.specs.declared.types.TypeOwner.TheVariants as owner
use Rattle.wit_data.specs.declared.world.WorldItem.TheVariants as item
use Rattle.wit_data.specs.declared.world.WorldKey.TheVariants as key
use Rattle.wit_elaboration.specs.facts.FreshEntries.{same_key-true}
use Rattle.wit_elaboration.specs.Entries.{same_key}
use Rattle.wit_elaboration.specs.Valid.{IsValid}
use Rattle.wit_graph_data.specs.declared.graph.Package.{Package}
use Rattle.wit_graph_theory.specs.facts.Covered.{IsCovered}
use Rattle.wit_graph_theory.specs.Cut.{StaysIn, mapped_source}
use Rattle.wit_graph_theory.specs.facts.GoodIsValid.{good_things}
use Rattle.wit_graph_theory.specs.facts.GraphSource.{graph_stands, mapped_is_good}
use Rattle.wit_remap_spec.specs.Image.{entry_image, world_image}
use Rattle.wit_remap_spec.specs.steps.Kept.{everything}
use Rattle.wit_graph_theory.specs.facts.ListFacts.{Contains-map, found_at, some_at}
use Rattle.wit_graph_theory.specs.Operations.{merge_sources}
use Rattle.wit_graph_theory.specs.facts.OptionFacts.{some_by, some_parts, some_same}
use Rattle.wit_graph_theory.specs.steps.Sources.{Carries, IsGoodSource, WorldStands}
use Rattle.wit_link_spec.specs.facts.ListedTypes.{lists_type}
use Rattle.wit_remap_spec.specs.Joined.{joined_entry, joined_item}
use Rattle.wit_merge_spec.specs.Cause.{same_sort, HasNoMismatch}
use Rattle.wit_merge_spec.specs.Cause as differ
use Rattle.wit_merge_spec.specs.Merged.{is_under_id, joined_graph, with_world, merge_maps, merged_type, merged_world}
use Rattle.wit_merge_spec.specs.Matches.{GraphMerge, counterpart_item, counterpart_key, counterpart_of, counterpart_type, counterpart_type_by, counterpart_world, matched_world}
use Rattle.wit_merge_spec.specs.MismatchText.{side_word}
use Rattle.wit_merge_laws.specs.facts.InterfacesStand as interfaces
use Rattle.wit_merge_laws.specs.facts.InterfacesStand.{counterpart_is}
use Rattle.wit_merge_laws.specs.facts.ListedStand.{new_world_at, old_world_at, worlds_come}
use Rattle.wit_merge_laws.specs.facts.MatchFacts.{WorldMatch, goes_to, world_is, world_type_is}
use Rattle.wit_merge_laws.specs.facts.MatchedOnce.{world_in_table, world_once}
use Rattle.wit_merge_laws.specs.facts.TypesStand as types
use Rattle.wit_merge_laws.specs.facts.TypesStand.{matched_some}
use Rattle.wit_merge_laws.specs.facts.WholeFacts.{interface_from, world_from}
use Rattle.wit_remap_spec.specs.steps.Parts.{identity}
use Rattle.wit_merge_spec.specs.steps.Parts.{joined_world, moves_world}

abbrev pub entry : WorldKey → WorldItem → Entry
entry k held = (k, held)

-- ---- types that worlds list

-- the entry that lists a type of a world
pub record ListedBy (world : World) (name : List ℕ) (t : ℕ) : Type 0 where
  pub span : Option (ℕ × ℕ)
  pub has : Contains world.imports (entry (key.Name name) (item.Type_ t span))

pub listed_by : (world : World) (name : List ℕ) (t : ℕ) → Contains (world_types world) (name, t) → ListedBy world name t
listed_by world name t has =
    let from = Contains-flat_map_cases (λ (e : Entry). entry_type e.0 e.1) world.imports (name, t) has in
    let listed = lists_type from.0 name t from.1.1 in
    let is : from.0 ≡ entry (key.Name name) (item.Type_ t listed.span) = λ i. (listed.key_is i, listed.held_is i) in
    record { span = listed.span; has = subst (Contains world.imports) is from.1.0 }

pub lists_it : (world : World) (name : List ℕ) (t : ℕ) (span : Option (ℕ × ℕ)) → Contains world.imports (entry (key.Name name) (item.Type_ t span)) → Contains (world_types world) (name, t)
lists_it world name t span has = Contains-flat_map (λ (e : Entry). entry_type e.0 e.1) world.imports (entry (key.Name name) (item.Type_ t span)) (name, t) has (Contains-here (name, t) [])

-- nothing is joined to a type
type_unjoined : (brought : List Entry) (k : WorldKey) (t : ℕ) (span : Option (ℕ × ℕ)) → joined_entry false brought (entry k (item.Type_ t span)) ≡ entry k (item.Type_ t span)
type_unjoined brought k t span = by (lookup (same_key k) brought)
  where
    same : (from : WorldItem) → joined_item false from (item.Type_ t span) ≡ item.Type_ t span
    same (item.Interface i stability docs span' external_id) = refl
    same (item.Function f) = refl
    same (item.Type_ t' span') = refl

    by : (o : Option WorldItem) → entry k (option_map_or (λ (from : WorldItem). joined_item false from (item.Type_ t span)) o (item.Type_ t span)) ≡ entry k (item.Type_ t span)
    by None = refl
    by (Some from) = ap (entry k) (same from)

-- so a world lists its types with whatever joined to its entries
types_unjoined : (m : GraphMerge) (p : ℕ × World) (into : World) (name : List ℕ) (t : ℕ) → Contains (world_types into) (name, t) → Contains (world_types (with_world m p into)) (name, t)
types_unjoined m p into name t has =
    let by = listed_by into name t has in
    let brought = map (entry_image (merge_maps m) p.0) (filter (λ (e : Entry). is_under_id e.0) p.1.imports) in
    lists_it (with_world m p into) name t by.span
    (subst (Contains (with_world m p into).imports) (type_unjoined brought (key.Name name) t by.span) (Contains-map (joined_entry false brought) into.imports (entry (key.Name name) (item.Type_ t by.span)) by.has))

-- ---- worlds stand

-- an item of the sort of types is one
type_sort : (t : ℕ) (span : Option (ℕ × ℕ)) (held : WorldItem) → same_sort (item.Type_ t span) held ≡ true → (t' : ℕ) × (span' : Option (ℕ × ℕ)) × (held ≡ item.Type_ t' span')
type_sort t span (item.Interface i stability docs span' external_id) is = absurd (false≢true is)
type_sort t span (item.Function f) is = absurd (false≢true is)
type_sort t span (item.Type_ t' span') is = (t', span', refl)

has_one : {X : Type 0} (o : Option X) → IsSome o → (x : X) × (o ≡ Some x)
has_one None some = cc
has_one (Some x) some = (x, refl)

module _ (m : GraphMerge) (valid : IsValid m.graph) (valid_other : IsValid m.other) (one : HasNoMismatch m) where
  -- a type that a matched world lists is listed by its counterpart, under its name
  module _ (w w' : ℕ) (old into : World) (there : slice_get m.other.worlds w ≡ Some old) (found : counterpart_world m w ≡ Some w') (into_there : slice_get m.graph.worlds w' ≡ Some into) where
    abbrev is : WorldMatch m valid w w'
    is = world_is m valid w w' found

    abbrev home : (there : Package) × (slice_get m.other.packages is.at.p ≡ Some there)
        × Contains there.worlds (is.from.name, w)
    home = world_in_table m.other valid_other w is.from is.at.p is.from_is is.at.home_is

    -- an entry of it stands under its key there, and is of the same sort
    pub record EntryThere (exported : Bool) (k : WorldKey) (held : WorldItem) : Type 0 where
      pub k' : WorldKey
      pub here : WorldItem
      pub key_is : counterpart_key m k ≡ Some k'
      pub looked : lookup (same_key k') (entries_of exported into) ≡ Some here
      pub same : same_sort held here ≡ true
      pub agrees : (text : List ℕ) → differ.ItemsDiffer m held here text → ⊥

    same_old : is.from ≡ old
    same_old = some_same is.from old (sym is.from_is ∙ there)

    same_into : is.into ≡ into
    same_into = some_same is.into into (sym is.into_is ∙ into_there)

    pub differs : (exported : Bool) {text : List ℕ} → differ.EntriesDiffer m (side_word exported) (entries_of exported old) (entries_of exported into) text → ⊥
    differs exported {text} other =
        one _ (differ.worlds (record { x = w; from = is.from; x' = w'; into = is.into; from_is = is.from_is; matched = found; into_is = is.into_is }) is.at.p home.0 exported text is.at.home_is home.1
        (subst (λ (x : World). differ.EntriesDiffer m (side_word exported) (entries_of exported x) (entries_of exported is.into) text) (sym same_old)
        (subst (λ (x : World). differ.EntriesDiffer m (side_word exported) (entries_of exported old) (entries_of exported x) text) (sym same_into) other)))

    pub entry_there : (exported : Bool) (k : WorldKey) (held : WorldItem) → Contains (entries_of exported old) (entry k held) → EntryThere exported k held
    entry_there exported k held has = by (counterpart_item m (entries_of exported into) k) refl
      where
        by : (o : Option WorldItem) → counterpart_item m (entries_of exported into) k ≡ o → EntryThere exported k held
        by None none = absurd (differs exported (differ.absent (entry k held) has none))
        by (Some here) at =
            let at_key = some_parts (λ (k' : WorldKey). lookup (same_key k') (entries_of exported into)) (counterpart_key m k) here at in
            elim (cases_Bool (same_sort held here)) [
              | inl same ↦ record { k' = at_key.0; here = here; key_is = at_key.1; looked = at_key.2; same = same; agrees = λ text other. differs exported (differ.apart (entry k held) here text has at other) }
              | inr other ↦ absurd (differs exported (differ.apart (entry k held) here _ has at (differ.sorts other)))
            ]

    counterpart_lists : (name : List ℕ) (t : ℕ) → Contains (world_types old) (name, t) → Contains (world_types into) (name, merged_type m t)
    counterpart_lists name t has =
        let by = listed_by old name t has in
        let here = entry_there false (key.Name name) (item.Type_ t by.span) by.has in
        let sort = type_sort t by.span here.here here.same in
        let same_label : here.k' ≡ key.Name name = some_same here.k' (key.Name name) (sym here.key_is) in
        let stands : Contains into.imports (entry (key.Name name) (item.Type_ sort.0 sort.1)) =
        subst (λ (k : WorldKey). Contains into.imports (entry k (item.Type_ sort.0 sort.1))) same_label
        (subst (λ (x : WorldItem). Contains into.imports (entry here.k' x)) sort.2 (Contains-from_lookup same_key-true here.k' here.here into.imports here.looked)) in
        let listed : Contains (world_types into) (name, sort.0) = lists_it into name sort.0 sort.1 stands in
        let some = has_one (lookup (bytes_eq name) (world_types into)) (IsSome-lookup_from_Contains nat_list_eq_equiv name (world_types into) (Contains-map (λ (e : List ℕ × ℕ). e.0) (world_types into) (name, sort.0) listed)) in
        let own = found_at (λ (def : TypeDef). (def.name ≡ Some name) × (def.owner ≡ owner.World w)) m.other.types t (world_type_is m.other valid_other w old name t there has) in
        let beside : matched_world m w ≡ Some into = some_by (slice_get m.graph.worlds) (counterpart_world m w) w' found ∙ into_there in
        let goes : counterpart_type m t ≡ Some some.0 =
        some_by (λ (def : TypeDef). counterpart_type_by m def.name def.owner) (slice_get m.other.types t) own.0 own.1
        ∙ ((λ k. counterpart_type_by m (own.2.0 k) (own.2.1 k)) ∙ (some_by (λ (there : World). lookup (bytes_eq name) (world_types there)) (matched_world m w) into beside ∙ some.1)) in
        subst (λ (x : ℕ). Contains (world_types into) (name, x)) (sym (goes_to (counterpart_type m t) _ some.0 goes)) (Contains-from_lookup (λ a b. (bytes_eq-Decides a b).0) name some.0 (world_types into) some.1)

  -- each world of the other graph stands at its place, as it is listed
  pub world_stands : (w : ℕ) (old : World) → slice_get m.other.worlds w ≡ Some old → SomeAt (joined_graph m).worlds (merged_world m w) (WorldStands (mapped_source m.other (merge_maps m)) w old)
  world_stands w old there = elim (cases_Bool (moves_world m w)) [
    | inl goes ↦
        some_at (WorldStands (mapped_source m.other (merge_maps m)) w old) (joined_graph m).worlds (merged_world m w) (world_image (merge_maps m) w old) (new_world_at m w old there goes) (record {
          types = λ name t has taken.
              let by = listed_by old name t has in
              lists_it (world_image (merge_maps m) w old) name (merged_type m t) _ (Contains-map (entry_image (merge_maps m) w) old.imports (entry (key.Name name) (item.Type_ t by.span)) by.has);
          home = refl;
        })
    | inr stays ↦ matched (matched_some (counterpart_world m w) stays)
  ]
    where
      matched : (w' : ℕ) × (counterpart_world m w ≡ Some w') → SomeAt (joined_graph m).worlds (merged_world m w) (WorldStands (mapped_source m.other (merge_maps m)) w old)
      matched (w', found) =
          let is = world_is m valid w w' found in
          let same : is.from ≡ old = some_same is.from old (sym is.from_is ∙ there) in
          let joined : joined_world m (w', is.into) ≡ with_world m (w, old) is.into =
          ap (λ (o : Option (ℕ × World)). option_map_or (λ (p : ℕ × World). with_world m p is.into) o is.into)
          (counterpart_is (counterpart_world m) m.other.worlds w' (λ i j. world_once m valid valid_other i j w') w old there found) in
          let at : slice_get (joined_graph m).worlds (merged_world m w) ≡ Some (with_world m (w, old) is.into) =
          ap (slice_get (joined_graph m).worlds) (goes_to (counterpart_world m w) _ w' found) ∙ (old_world_at m w' is.into is.into_is ∙ ap (λ (x : World). Some x) joined) in
          some_at (WorldStands (mapped_source m.other (merge_maps m)) w old) (joined_graph m).worlds (merged_world m w) (with_world m (w, old) is.into) at (record {
            types = λ name t has taken. types_unjoined m (w, old) is.into name (merged_type m t) (counterpart_lists w w' old is.into there found is.into_is name t has);
            home = is.home ∙ ap (λ (x : World). (merge_maps m).home x.package) same;
          })

  -- the graph stays in the two as one
  pub graph_stays : StaysIn m.graph (joined_graph m)
  graph_stays = record {
    types = λ t def at.
        let keeps = types.joined_keeps m (t, def) in
        some_at (λ (new : TypeDef). (new.name ≡ def.name) × (new.owner ≡ def.owner) × ((def.name ≡ None) → new.kind ≡ def.kind)) (joined_graph m).types t _ (types.old_type_at m t def at) (keeps.name, keeps.owner, λ none. keeps.kind);
    interfaces = λ f interface at.
        let keeps = interfaces.joined_keeps m (f, interface) in
        some_at (λ (new : Interface). (new.name ≡ interface.name) × (new.package ≡ interface.package) × ((e : List ℕ × ℕ) → Contains interface.types e → Contains new.types e)) (joined_graph m).interfaces f _ (interfaces.old_interface_at m f interface at)
        (keeps.name, keeps.home, keeps.types);
    worlds = λ w world at.
        some_at (λ (new : World). (new.package ≡ world.package) × ((e : List ℕ × ℕ) → Contains (world_types world) e → Contains (world_types new) e)) (joined_graph m).worlds w _ (old_world_at m w world at) (world_keeps w world (counterpart_of (counterpart_world m) m.other.worlds w));
  }
    where
      world_keeps : (w : ℕ) (world : World) (o : Option (ℕ × World)) → ((option_map_or (λ (p : ℕ × World). with_world m p world) o world).package ≡ world.package)
          × ((e : List ℕ × ℕ) → Contains (world_types world) e → Contains (world_types (option_map_or (λ (p : ℕ × World). with_world m p world) o world)) e)
      world_keeps w world None = (refl, λ e has. has)
      world_keeps w world (Some p) = (refl, λ e has. types_unjoined m p world e.0 e.1 has)

  -- the two graphs stand in it
  pub joined_stands : (k : ℕ) → Carries (merge_sources m.graph m.other (merge_maps m) k) (joined_graph m)
  joined_stands zero = graph_stands m.graph (joined_graph m) graph_stays
  joined_stands (suc k) = record {
    types = λ t def at takes. types.type_stands m valid valid_other t def at;
    values = λ t def at takes. types.values_stand m valid valid_other t def at;
    interfaces = λ f old at takes. interfaces.interface_stands m valid valid_other f old (interface_from m.other valid_other (merge_maps m) f old at);
    worlds = λ w old at takes. world_stands w old (world_from m.other valid_other (merge_maps m) w old at);
  }

  -- both are good
  pub sources_good : (k : ℕ) → IsGoodSource (merge_sources m.graph m.other (merge_maps m) k)
  sources_good zero = mapped_is_good m.graph (good_things m.graph valid) valid.no_cycles.types identity
  sources_good (suc k) = mapped_is_good m.other (good_things m.other valid_other) valid_other.no_cycles.types (merge_maps m)

  -- and all of it comes of them
  pub joined_covered : IsCovered everything (merge_sources m.graph m.other (merge_maps m)) (joined_graph m)
  joined_covered = record {
    types = λ t' new at takes. types.types_come m valid valid_other (joined_graph m) t' new at;
    interfaces = λ f' new at takes. interfaces.interfaces_come m valid valid_other f' new at;
    worlds = λ w' new at takes. worlds_come m valid valid_other w' new at;
  }
