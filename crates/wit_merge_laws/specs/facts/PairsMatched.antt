-- The types of two graphs that are compared are matched.
use Rattle.std.proofs.Common.{◌≡◌, ◌∙◌, inl, inr, ℕ, Bool, true, false, List, [], ◌∷◌, ◌++◌, Option, Some, slice_get, codes, subst, Contains, if◌then◌else◌}
use Rattle.std.proofs.lemmas.List.Elements.{Contains-append_cases}
use Rattle.std.proofs.lemmas.Map.Views.{Contains-from_lookup}
use Rattle.std.specs.List.{flat_map}
use Rattle.std.specs.Map.{lookup}
use Rattle.std.specs.Option.{option_map_or}
use Rattle.std.specs.Str.{bytes_eq}
use Rattle.wit_digraph.specs.facts.MemberFacts.{Contains-cons_cases, Contains-flat_map_cases, Contains-nil}
use Rattle.wit_data.specs.Entries.{Entry, IsImport, is_unnamed, entries_of}
use Rattle.wit_data.specs.Ownership.{world_types}
use Rattle.wit_data.specs.declared.interface.Interface.{Interface}
use Rattle.wit_data.specs.declared.types.TypeDef.{TypeDef}
use Rattle.wit_data.specs.declared.types.TypeOwner.{TypeOwner}
use Rattle.wit_data.specs.declared.world.World.{World}
use Rattle.wit_data.specs.declared.world.WorldItem.{WorldItem}
use Rattle.wit_data.specs.declared.world.WorldKey.{WorldKey}
use Rattle.wit_data.specs.declared.types.TypeOwner.TheVariants as owner
use Rattle.wit_data.specs.declared.world.WorldItem.TheVariants as item
use Rattle.wit_data.specs.declared.world.WorldKey.TheVariants as key
use Rattle.wit_elaboration.specs.facts.FreshEntries.{same_key-true}
use Rattle.wit_elaboration.specs.Valid.{IsValid}
use Rattle.wit_graph_data.specs.declared.graph.Package.{Package}
use Rattle.wit_graph_theory.specs.facts.ListFacts.{found_at, place_of}
use Rattle.wit_graph_theory.specs.facts.OptionFacts.{some_parts, some_whole}
use Rattle.wit_graph_theory.specs.facts.PackagesAcyclic.{there_is}
use Rattle.wit_graph_data.specs.Named.{interface_type}
use Rattle.wit_merge_spec.specs.Matches.{GraphMerge, TypePair, common_entries, common_types, counterpart_interface, counterpart_item, counterpart_type, counterpart_type_by, counterpart_world, entry_pairs, in_package_order, interface_pairs, item_pairs, matched_interface, matched_world, paired, type_pairs, world_pairs}
use Rattle.wit_merge_spec.specs.MismatchText.{entry_link, part_links}
use Rattle.wit_merge_laws.specs.facts.FoundBack.{lookup_finds_world_type}
use Rattle.wit_merge_laws.specs.facts.WorldsStand.{entry, lists_it}

module _ (m : GraphMerge) (valid : IsValid m.graph) (valid_other : IsValid m.other) where
  abbrev IsMatched : TypePair → Type 0
  IsMatched p = counterpart_type m p.from ≡ Some p.into

  -- a type of the other graph, by its name and its owner
  found_so : (t t' : ℕ) (name : List ℕ) (of : TypeOwner) (def : TypeDef) → slice_get m.other.types t ≡ Some def → def.name ≡ Some name → def.owner ≡ of → counterpart_type_by m (Some name) of ≡ Some t' → counterpart_type m t ≡ Some t'
  found_so t t' name of def at called owned is = some_whole (λ (def : TypeDef). counterpart_type_by m def.name def.owner) (slice_get m.other.types t) def t' at ((λ k. counterpart_type_by m (called k) (owned k)) ∙ is)

  one_matched : (links : List (List ℕ)) (name : List ℕ) (t t' : ℕ) (p : TypePair) → counterpart_type m t ≡ Some t' → Contains (paired links name t t' ∷ []) p → IsMatched p
  one_matched links name t t' p found has = elim (Contains-cons_cases (paired links name t t') p [] has) [
    | inl same ↦ subst IsMatched same found
    | inr none ↦ absurd (Contains-nil none)
  ]

  common_matched : (links : List (List ℕ)) (i : ℕ) (from into : Interface) → slice_get m.other.interfaces i ≡ Some from → matched_interface m i ≡ Some into → (p : TypePair) → Contains (common_types links from into) p → IsMatched p
  common_matched links i from into at beside p has =
      let e = Contains-flat_map_cases (λ (e : List ℕ × ℕ). option_map_or (λ (t' : ℕ). paired links e.0 e.1 t' ∷ []) (lookup (bytes_eq e.0) into.types) []) from.types p has in
      let looked = there_is (λ (t' : ℕ). paired links e.0.0 e.0.1 t' ∷ []) (lookup (bytes_eq e.0.0) into.types) p e.1.1 in
      let place = place_of from.types e.0 e.1.0 in
      let def = found_at (λ (def : TypeDef). (def.name ≡ Some e.0.0) × (def.owner ≡ owner.Interface i)) m.other.types e.0.1 (valid_other.well_formed.owners.own_types i from at place.0 e.0 place.1) in
      let there = some_parts (slice_get m.graph.interfaces) (counterpart_interface m i) into beside in
      one_matched links e.0.0 e.0.1 looked.0 p
      (found_so e.0.1 looked.0 e.0.0 (owner.Interface i) def.0 def.1 def.2.0 def.2.1
      (some_whole (interface_type m.graph e.0.0) (counterpart_interface m i) there.0 looked.0 there.1
      (some_whole (λ (interface : Interface). lookup (bytes_eq e.0.0) interface.types) (slice_get m.graph.interfaces there.0) into looked.0 there.2 looked.1)))
      looked.2

  interface_matched : (links : List (List ℕ)) (i : ℕ) (p : TypePair) → Contains (interface_pairs m links i) p → IsMatched p
  interface_matched links i p has =
      let from = there_is (λ (from : Interface). option_map_or (common_types links from) (matched_interface m i) []) (slice_get m.other.interfaces i) p has in
      let into = there_is (common_types links from.0) (matched_interface m i) p from.2 in
      common_matched links i from.0 into.0 from.1 into.1 p into.2

  module _ (w : ℕ) (from into : World) (at : slice_get m.other.worlds w ≡ Some from) (beside : matched_world m w ≡ Some into) where
    -- a type that is an import, and the one that is the import of its label there
    import_matched : (label : List ℕ) (t t' : ℕ) (span span' : Option (ℕ × ℕ)) → Contains from.imports (entry (key.Name label) (item.Type_ t span)) → Contains into.imports (entry (key.Name label) (item.Type_ t' span')) → counterpart_type m t ≡ Some t'
    import_matched label t t' span span' has stands =
        let place = place_of from.imports (entry (key.Name label) (item.Type_ t span)) has in
        let own : IsImport m.other.interfaces m.other.types w (key.Name label) (item.Type_ t span) = valid_other.well_formed.worlds.imports w from at place.0 (entry (key.Name label) (item.Type_ t span)) place.1 in
        let def = found_at (λ (def : TypeDef). (def.name ≡ Some label) × (def.owner ≡ owner.World w)) m.other.types t own in
        let there = some_parts (slice_get m.graph.worlds) (counterpart_world m w) into beside in
        found_so t t' label (owner.World w) def.0 def.1 def.2.0 def.2.1
        (some_whole (λ (world : World). lookup (bytes_eq label) (world_types world)) (matched_world m w) into t' beside
        (lookup_finds_world_type m.graph valid there.0 into there.2 label t' (lists_it into label t' span' stands)))

    type_matched : (exported : Bool) (label : List ℕ) (t t' : ℕ) (span span' : Option (ℕ × ℕ)) → Contains (entries_of exported from) (entry (key.Name label) (item.Type_ t span))
        → Contains (entries_of exported into) (entry (key.Name label) (item.Type_ t' span')) → counterpart_type m t ≡ Some t'
    type_matched false label t t' span span' has stands = import_matched label t t' span span' has stands
    type_matched true label t t' span span' has stands =
        let place = place_of from.exports (entry (key.Name label) (item.Type_ t span)) has in
        absurd (valid_other.well_formed.worlds.exports w from at place.0 (entry (key.Name label) (item.Type_ t span)) place.1)

    item_matched : (links : List (List ℕ)) (exported : Bool) (label : List ℕ) (held here : WorldItem) → Contains (entries_of exported from) (entry (key.Name label) held) → Contains (entries_of exported into) (entry (key.Name label) here)
        → (p : TypePair) → Contains (item_pairs m links label held here) p → IsMatched p
    item_matched links exported label (item.Type_ t span) (item.Type_ t' span') has stands p listed = one_matched links label t t' p (type_matched exported label t t' span span' has stands) listed
    item_matched links exported label (item.Type_ t span) (item.Function f) has stands p listed = absurd (Contains-nil listed)
    item_matched links exported label (item.Type_ t span) (item.Interface i stability docs span' external_id) has stands p listed = absurd (Contains-nil listed)
    item_matched links exported label (item.Function f) here has stands p listed = absurd (Contains-nil listed)
    item_matched links exported label (item.Interface i stability docs span external_id) here has stands p listed = by (is_unnamed m.other.interfaces i) listed
      where
        by : (b : Bool) → Contains (if b then interface_pairs m links i else []) p → IsMatched p
        by true listed = interface_matched links i p listed
        by false listed = absurd (Contains-nil listed)

    entry_matched : (links : List (List ℕ)) (exported : Bool) (word : List ℕ) (e : Entry) → Contains (entries_of exported from) e → (p : TypePair) → Contains (entry_pairs m links word (entries_of exported into) e) p → IsMatched p
    entry_matched links exported word e has p listed = by e.0 e.1 has listed
      where
        by : (k : WorldKey) (held : WorldItem) → Contains (entries_of exported from) (entry k held) → Contains (entry_pairs m links word (entries_of exported into) (entry k held)) p → IsMatched p
        by (key.Name label) held has listed =
            let inside = links ++ (entry_link word label ∷ []) in
            let here = there_is (item_pairs m inside label held) (counterpart_item m (entries_of exported into) (key.Name label)) p listed in
            item_matched inside exported label held here.0 has (Contains-from_lookup same_key-true (key.Name label) here.0 (entries_of exported into) here.1) p here.2
        by (key.Interface i) held has listed = absurd (Contains-nil listed)

    common_entries_matched : (links : List (List ℕ)) (p : TypePair) → Contains (common_entries m links from into) p → IsMatched p
    common_entries_matched links p has =
        elim (Contains-append_cases (flat_map (entry_pairs m links (codes "import") into.imports) from.imports) (flat_map (entry_pairs m links (codes "export") into.exports) from.exports) p has) [
          | inl imported ↦ let e = Contains-flat_map_cases (entry_pairs m links (codes "import") into.imports) from.imports p imported in entry_matched links false (codes "import") e.0 e.1.0 p e.1.1
          | inr exported ↦ let e = Contains-flat_map_cases (entry_pairs m links (codes "export") into.exports) from.exports p exported in entry_matched links true (codes "export") e.0 e.1.0 p e.1.1
        ]

  world_matched : (links : List (List ℕ)) (w : ℕ) (p : TypePair) → Contains (world_pairs m links w) p → IsMatched p
  world_matched links w p has =
      let from = there_is (λ (from : World). option_map_or (common_entries m links from) (matched_world m w) []) (slice_get m.other.worlds w) p has in
      let into = there_is (common_entries m links from.0) (matched_world m w) p from.2 in
      common_entries_matched w from.0 into.0 from.1 into.1 links p into.2

  abbrev of_interfaces : Package → List TypePair
  of_interfaces home =
      flat_map
      (λ (e : List ℕ × ℕ). interface_pairs m (part_links home.name (codes "interface") e.0) e.1)
      home.interfaces

  abbrev of_worlds : Package → List TypePair
  of_worlds home =
      flat_map (λ (e : List ℕ × ℕ). world_pairs m (part_links home.name (codes "world") e.0) e.1)
      home.worlds

  -- the types of each pair are matched
  pub pair_matched : (p : TypePair) → Contains (type_pairs m) p → counterpart_type m p.from ≡ Some p.into
  pair_matched p has =
      elim (Contains-append_cases (flat_map of_interfaces (in_package_order m.other)) (flat_map of_worlds (in_package_order m.other)) p has) [
        | inl among ↦
            let home = Contains-flat_map_cases of_interfaces (in_package_order m.other) p among in
            let e = Contains-flat_map_cases (λ (e : List ℕ × ℕ). interface_pairs m (part_links home.0.name (codes "interface") e.0) e.1) home.0.interfaces p home.1.1 in
            interface_matched (part_links home.0.name (codes "interface") e.0.0) e.0.1 p e.1.1
        | inr among ↦
            let home = Contains-flat_map_cases of_worlds (in_package_order m.other) p among in
            let e = Contains-flat_map_cases (λ (e : List ℕ × ℕ). world_pairs m (part_links home.0.name (codes "world") e.0) e.1) home.0.worlds p home.1.1 in
            world_matched (part_links home.0.name (codes "world") e.0.0) e.0.1 p e.1.1
      ]
