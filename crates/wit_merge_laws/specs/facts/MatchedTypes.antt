-- What matched types have in common where nothing differs: each is compared with its counterpart, so the two are of one
-- variant, and where the one is an alias the other is one of what is matched with what it names.
use Rattle.std.proofs.Common.{◌≡◌, ◌∙◌, inl, inr, ℕ, ◌+◌, Bool, true, false, List, [], ◌∷◌, ◌++◌, map, length, codes, is_some, not, Option, None, Some, IsSome, slice_get, refl, sym, ap, subst, arith, append_assoc, get_or, Contains, IsSomeAnd, if◌then◌else◌}
use Rattle.std.specs.List.{enumerate_from, flat_map, range_with_len}
use Rattle.std.specs.Map.{lookup}
use Rattle.std.specs.Option.{option_map_or}
use Rattle.std.specs.Str.{bytes_eq}
use Rattle.std.proofs.lemmas.Bool.{eqb-true}
use Rattle.std.proofs.lemmas.List.{length-map}
use Rattle.std.proofs.lemmas.List.Elements.{Contains-append_cases, Contains-append_left, Contains-append_right}
use Rattle.std.proofs.lemmas.List.FromFn.{get_or-range_with_len, length-enumerate_from, length-range_with_len}
use Rattle.std.proofs.lemmas.Map.Views.{Contains-from_lookup}
use Rattle.std.proofs.lemmas.Option.{slice_get_within}
use Rattle.std.proofs.lemmas.Slice.Eq.{bytes_eq-Decides}
use Rattle.wit_digraph.specs.facts.FreshFacts.{fresh_all}
use Rattle.wit_digraph.specs.facts.MemberFacts.{Contains-cons_cases, Contains-flat_map, Contains-here, Contains-nil}
use Rattle.wit_digraph.specs.facts.PostOrderFacts.{Contains-post_order_end}
use Rattle.wit_digraph.specs.PostOrder.{post_order}
use Rattle.wit_data.specs.Each.{SomeAt}
use Rattle.wit_data.specs.Entries.{Entry, is_unnamed, item_interface, entries_of}
use Rattle.wit_data.specs.Ownership.{IsListed, world_types}
use Rattle.wit_data.specs.Uses.{alias_target}
use Rattle.wit_data.specs.declared.interface.Interface.{Interface}
use Rattle.wit_data.specs.declared.types.TypeDef.{TypeDef}
use Rattle.wit_data.specs.declared.types.TypeOwner.{TypeOwner}
use Rattle.wit_data.specs.declared.types.Type_.{Type_}
use Rattle.wit_data.specs.declared.kind.Variant.{Variant}
use Rattle.wit_data.specs.declared.world.World.{World}
use Rattle.wit_data.specs.declared.world.WorldItem.{WorldItem}
use Rattle.wit_data.specs.declared.world.WorldKey.{WorldKey}
use Rattle.wit_data.specs.declared.types.TypeDefKind.TheVariants as kind
use Rattle.wit_data.specs.declared.types.TypeOwner.TheVariants as owner
use Rattle.wit_data.specs.declared.types.Type_.TheVariants as type
use Rattle.wit_data.specs.declared.world.WorldItem.TheVariants as item
use Rattle.wit_data.specs.declared.world.WorldKey.TheVariants as key
use Rattle.wit_elaboration.specs.facts.FreshEntries.{same_key-true}
use Rattle.wit_elaboration.specs.Entries.{same_key}
use Rattle.wit_elaboration.specs.Valid.{IsValid}
use Rattle.wit_graph_data.specs.Queries.{topological_packages, package_uses}
use Rattle.wit_graph_data.specs.declared.graph.Graph.{Graph}
use Rattle.wit_graph_data.specs.declared.graph.Package.{Package}
use Rattle.wit_graph_theory.specs.facts.GoodTypes.{IsAliased, from_if}
use Rattle.wit_graph_theory.specs.facts.GoodWorlds.{same_one}
use Rattle.wit_graph_theory.specs.facts.ListFacts.{found_at}
use Rattle.wit_graph_theory.specs.facts.OptionFacts.{some_by, some_parts, some_same}
use Rattle.wit_graph_data.specs.Named.{interface_type}
use Rattle.wit_data.specs.Kind.{variant_of}
use Rattle.wit_merge_spec.specs.Structure.{Content, Feature, FirstDifference, difference_text, held_features, here, is_named, named, names, path_text, primitive, structure, variant, within}
use Rattle.wit_data.specs.declared.kind.Variant.TheVariants as variants
use Rattle.wit_merge_spec.specs.Cause.{HasNoMismatch}
use Rattle.wit_merge_spec.specs.Cause as differ
use Rattle.wit_merge_spec.specs.Matches.{FirstDiffers, GraphMerge, TypePair, common_entries, common_types, counterpart_interface, counterpart_type, counterpart_type_by, counterpart_world, entry_pairs, in_package_order, interface_pairs, item_pairs, matched_interface, matched_world, paired as pair_of, type_pairs, world_labels, world_pairs}
use Rattle.wit_merge_spec.specs.MismatchText.{entry_link, linked, part_links, side_word}
use Rattle.wit_merge_laws.specs.facts.MatchFacts.{stands_at}
use Rattle.wit_merge_laws.specs.facts.MatchedOnce.{in_own_table, lists_distinct, one_under, world_in_table}
use Rattle.wit_merge_laws.specs.facts.OnceStand.{spot_of}
use Rattle.wit_merge_laws.specs.facts.StructureHeads.{alias_kind, alias_structure, alias_variant, same_id, same_variant, structure_begins}
use Rattle.wit_merge_laws.specs.facts.WorldsStand.{entry, entry_there, listed_by}
use Rattle.wit_graph_data.specs.steps.Parts.{package_needs}
use Rattle.wit_merge_spec.specs.steps.Parts.{StructuresDiffer, type_link}

-- ---- where no first pair differs none does

module _ (Differ : ℕ → ℕ → List ℕ → Type 0) where
  none_behind : (before rest : List TypePair) → ((message : List ℕ) → FirstDiffers Differ (before ++ rest) message → ⊥) → ((p : TypePair) (ending : List ℕ) → Contains before p → Differ p.from p.into ending → ⊥)
      → (p : TypePair) (ending : List ℕ) → Contains rest p → Differ p.from p.into ending → ⊥
  none_behind before [] none alike p ending has told = Contains-nil has
  none_behind before (q ∷ rest) none alike p ending has told =
      elim (Contains-cons_cases q p rest has) [
        | inl same ↦ first ending (subst (λ (x : TypePair). Differ x.from x.into ending) (sym same) told)
        | inr there ↦
            none_behind (before ++ q ∷ []) rest (subst (λ (ps : List TypePair). (message : List ℕ) → FirstDiffers Differ ps message → ⊥) (sym (append_assoc before (q ∷ []) rest)) none) alike_too p ending there told
      ]
    where
      first : (ending : List ℕ) → Differ q.from q.into ending → ⊥
      first ending told = none (linked q.links ending) (record { pair = q; first = record { before = before; after = rest; are = refl; earlier = λ p has differs. alike p differs.0 has differs.1; is = (ending, told) }; message_is = refl })

      alike_too : (p : TypePair) (ending : List ℕ) → Contains (before ++ q ∷ []) p → Differ p.from p.into ending → ⊥
      alike_too p ending has told =
          elim (Contains-append_cases before (q ∷ []) p has) [
            | inl old ↦ alike p ending old told
            | inr last ↦ elim (Contains-cons_cases q p [] last) [
              | inl same ↦ first ending (subst (λ (x : TypePair). Differ x.from x.into ending) (sym same) told)
              | inr none ↦ absurd (Contains-nil none)
            ]
          ]

-- ---- packages and their things

has_some : (P : ℕ → Type 0) (o : Option ℕ) → IsSomeAnd o P → (p : ℕ) × (o ≡ Some p)
has_some P None h = absurd h
has_some P (Some p) h = (p, refl)

-- each package of a valid graph is in the order of packages
module _ (g : Graph) (valid : IsValid g) where
  abbrev dependencies : List (List ℕ)
  dependencies = package_uses g.types g.interfaces g.worlds g.packages

  package_ordered : (p : ℕ) (home : Package) → slice_get g.packages p ≡ Some home → Contains (topological_packages g.types g.interfaces g.worlds g.packages) p
  package_ordered p home at =
      let within = slice_get_within g.packages p home at in
      let long : length dependencies ≡ length g.packages =
      length-map (enumerate_from 0 g.packages) (λ (e : ℕ × Package). package_needs g.types g.interfaces g.worlds e.0 e.1) ∙ length-enumerate_from 0 g.packages in
      let many = length-range_with_len 0 (length g.packages) in
      let is : get_or (range_with_len 0 (length g.packages)) p p ≡ 0 + p = get_or-range_with_len 0 (length g.packages) p p within in
      let among : Contains (range_with_len 0 (length g.packages)) p = (p, omega (arith, within, many), omega (arith, is)) in
      fresh_all [] (flat_map (post_order dependencies) (range_with_len 0 (length g.packages))) p
      (Contains-flat_map (post_order dependencies) (range_with_len 0 (length g.packages)) p p among (Contains-post_order_end dependencies valid.no_cycles.packages p (omega (arith, within, long))))

  package_listed : (p : ℕ) (home : Package) → slice_get g.packages p ≡ Some home → Contains (in_package_order g) home
  package_listed p home at =
      Contains-flat_map (λ (q : ℕ). option_map_or (λ (there : Package). there ∷ []) (slice_get g.packages q) []) (topological_packages g.types g.interfaces g.worlds g.packages) p home (package_ordered p home at)
      (subst (λ (o : Option Package). Contains (option_map_or (λ (there : Package). there ∷ []) o []) home) (sym at) (Contains-here home []))

-- ---- pairs of interfaces and worlds

module _ (m : GraphMerge) where
  abbrev package_interfaces : Package → List TypePair
  package_interfaces home =
      flat_map
      (λ (e : List ℕ × ℕ). interface_pairs m (part_links home.name (codes "interface") e.0) e.1)
      home.interfaces

  abbrev package_worlds : Package → List TypePair
  package_worlds home =
      flat_map (λ (e : List ℕ × ℕ). world_pairs m (part_links home.name (codes "world") e.0) e.1)
      home.worlds

  abbrev of_interfaces : List TypePair
  of_interfaces = flat_map package_interfaces (in_package_order m.other)

  abbrev of_worlds : List TypePair
  of_worlds = flat_map package_worlds (in_package_order m.other)

  -- the types of one name of two matched interfaces are a pair
  in_interface : (links : List (List ℕ)) (i i' : ℕ) (from into : Interface) (name : List ℕ) (t t' : ℕ) → slice_get m.other.interfaces i ≡ Some from → counterpart_interface m i ≡ Some i' → slice_get m.graph.interfaces i' ≡ Some into
      → Contains from.types (name, t) → lookup (bytes_eq name) into.types ≡ Some t' → Contains (interface_pairs m links i) (pair_of links name t t')
  in_interface links i i' from into name t t' from_is found into_is listed looked =
      let among : Contains (common_types links from into) (pair_of links name t t') =
      Contains-flat_map (λ (e : List ℕ × ℕ). option_map_or (λ x. pair_of links e.0 e.1 x ∷ []) (lookup (bytes_eq e.0) into.types) []) from.types (name, t) (pair_of links name t t') listed
      (subst (λ (o : Option ℕ). Contains (option_map_or (λ x. pair_of links name t x ∷ []) o []) (pair_of links name t t')) (sym looked) (Contains-here (pair_of links name t t') [])) in
      let beside : matched_interface m i ≡ Some into = some_by (slice_get m.graph.interfaces) (counterpart_interface m i) i' found ∙ into_is in
      let pairs : interface_pairs m links i ≡ common_types links from into =
      ap (λ (o : Option Interface). option_map_or (λ (x : Interface). option_map_or (common_types links x) (matched_interface m i) []) o []) from_is ∙ ap (λ (o : Option Interface). option_map_or (common_types links from) o []) beside in
      subst (λ (ps : List TypePair). Contains ps (pair_of links name t t')) (sym pairs) among

  -- what is a pair of two items under a label is one of their worlds
  in_world : (links : List (List ℕ)) (w w' : ℕ) (from into : World) (exported : Bool) (label : List ℕ) (held there : WorldItem) (q : TypePair) → slice_get m.other.worlds w ≡ Some from → counterpart_world m w ≡ Some w'
      → slice_get m.graph.worlds w' ≡ Some into → Contains (entries_of exported from) (entry (key.Name label) held) → lookup (same_key (key.Name label)) (entries_of exported into) ≡ Some there
      → Contains (item_pairs m (links ++ (entry_link (side_word exported) label ∷ [])) label held there) q → Contains (world_pairs m links w) q
  in_world links w w' from into exported label held there q from_is found into_is listed looked has =
      let beside : matched_world m w ≡ Some into = some_by (slice_get m.graph.worlds) (counterpart_world m w) w' found ∙ into_is in
      let pairs : world_pairs m links w ≡ common_entries m links from into =
      ap (λ (o : Option World). option_map_or (λ (x : World). option_map_or (common_entries m links x) (matched_world m w) []) o []) from_is ∙ ap (λ (o : Option World). option_map_or (common_entries m links from) o []) beside in
      subst (λ (ps : List TypePair). Contains ps q) (sym pairs) (side exported listed looked has)
    where
      of_entry : (word : List ℕ) (entries : List Entry) → lookup (same_key (key.Name label)) entries ≡ Some there → Contains (item_pairs m (links ++ (entry_link word label ∷ [])) label held there) q
          → Contains (entry_pairs m links word entries (entry (key.Name label) held)) q
      of_entry word entries looked has =
          subst (λ (o : Option WorldItem). Contains (option_map_or (item_pairs m (links ++ (entry_link word label ∷ [])) label held) o []) q) (sym looked) has

      side : (b : Bool) → Contains (entries_of b from) (entry (key.Name label) held) → lookup (same_key (key.Name label)) (entries_of b into) ≡ Some there
          → Contains (item_pairs m (links ++ (entry_link (side_word b) label ∷ [])) label held there) q → Contains (common_entries m links from into) q
      side false listed looked has =
          Contains-append_left (flat_map (entry_pairs m links (codes "import") into.imports) from.imports) (flat_map (entry_pairs m links (codes "export") into.exports) from.exports) q
          (Contains-flat_map (entry_pairs m links (codes "import") into.imports) from.imports (entry (key.Name label) held) q listed (of_entry (codes "import") into.imports looked has))
      side true listed looked has =
          Contains-append_right (flat_map (entry_pairs m links (codes "import") into.imports) from.imports) (flat_map (entry_pairs m links (codes "export") into.exports) from.exports) q
          (Contains-flat_map (entry_pairs m links (codes "export") into.exports) from.exports (entry (key.Name label) held) q listed (of_entry (codes "export") into.exports looked has))

  -- the pairs of an interface without a name are those of the item that it is
  of_unnamed : (links : List (List ℕ)) (label : List ℕ) (held there : WorldItem) (i : ℕ) (q : TypePair) → item_interface held ≡ i ∷ [] → is_unnamed m.other.interfaces i ≡ true → Contains (interface_pairs m links i) q
      → Contains (item_pairs m links label held there) q
  of_unnamed links label (item.Interface j stability docs span external_id) there i q is unnamed has =
      let same : j ≡ i = same_one j i is in
      subst (λ (x : ℕ). Contains (if is_unnamed m.other.interfaces x then interface_pairs m links x else []) q) (sym same)
      (subst (λ (b : Bool). Contains (if b then interface_pairs m links i else []) q) (sym unnamed) has)
  of_unnamed links label (item.Function f) there i q is unnamed has = cc
  of_unnamed links label (item.Type_ t span) there i q is unnamed has = cc

-- ---- what an alias holds

-- what an alias of a valid graph names has a name
target_named : (g : Graph) → IsValid g → (t : ℕ) (def : TypeDef) (u : ℕ) → slice_get g.types t ≡ Some def → alias_target def.kind ≡ Some u → is_named g.types u ≡ true
target_named g valid t def u at is =
    let target = found_at (λ (target : TypeDef). IsSome target.name × _) g.types u (from_if (IsAliased g.types g.interfaces def.owner) (alias_target def.kind) u (valid.well_formed.references.aliases t def at) is) in
    ap (λ (o : Option TypeDef). option_map_or (λ (there : TypeDef). is_some there.name) o false) target.1 ∙ target.2.0

-- the features of an alias in front of what it holds
abbrev alias_front : List Feature
alias_front = here (variant variants.Alias) ∷ (here (names (codes "alias" ∷ [])) ∷ [])

-- a type with a name that it holds, by what that is matched with
held_named : (types : List TypeDef) (matched : ℕ → Option ℕ) (u : ℕ) → is_named types u ≡ true
    → map (within (codes "alias")) (held_features types matched (structure types matched) (Some (type.Id u))) ++ [] ≡ within (codes "alias") (here (named (matched u))) ∷ []
held_named types matched u is = ap (λ (b : Bool). map (within (codes "alias")) (if b then here (named (matched u)) ∷ [] else structure types matched u) ++ []) is

-- ---- each matched type is one of a pair

-- some pairs are among those that are compared
record AreCompared (m : GraphMerge) (pairs : List (List ℕ) → List TypePair) : Type 0 where
  links : List (List ℕ)
  among : (q : TypePair) → Contains (pairs links) q → Contains (type_pairs m) q

module _ (m : GraphMerge) (valid : IsValid m.graph) (valid_other : IsValid m.other) (one : HasNoMismatch m) where
  -- those of a world
  world_compared : (w : ℕ) (world : World) → slice_get m.other.worlds w ≡ Some world → AreCompared m (λ links. world_pairs m links w)
  world_compared w world at =
      let home = has_some _ world.package (valid_other.well_formed.tables.worlds_listed w world at) in
      let table = world_in_table m.other valid_other w world home.0 at home.1 in
      record {
        links = part_links table.0.name (codes "world") world.name;
        among = λ q has.
            Contains-append_right (of_interfaces m) (of_worlds m) q
            (Contains-flat_map (package_worlds m) (in_package_order m.other) table.0 q (package_listed m.other valid_other home.0 table.0 table.1)
            (Contains-flat_map (λ (e : List ℕ × ℕ). world_pairs m (part_links table.0.name (codes "world") e.0) e.1) table.0.worlds (world.name, w) q table.2 has));
      }

  -- those of a matched interface
  interface_compared : (i i' : ℕ) (from : Interface) → slice_get m.other.interfaces i ≡ Some from → counterpart_interface m i ≡ Some i' → AreCompared m (λ links. interface_pairs m links i)
  interface_compared i i' from at found = by from.name refl
    where
      by : (o : Option (List ℕ)) → from.name ≡ o → AreCompared m (λ links. interface_pairs m links i)
      by (Some name) called =
          let home = has_some _ from.package (valid_other.well_formed.tables.interfaces_listed i from at) in
          let table = in_own_table m.other valid_other i from name home.0 at called home.1 in
          record {
            links = part_links table.0.name (codes "interface") name;
            among = λ q has.
                Contains-append_left (of_interfaces m) (of_worlds m) q
                (Contains-flat_map (package_interfaces m) (in_package_order m.other) table.0 q (package_listed m.other valid_other home.0 table.0 table.1)
                (Contains-flat_map (λ (e : List ℕ × ℕ). interface_pairs m (part_links table.0.name (codes "interface") e.0) e.1) table.0.interfaces (name, i) q table.2 has));
          }
      by None called =
          let unnamed : is_unnamed m.other.interfaces i ≡ true =
          ap (λ (o : Option Interface). option_map_or (λ (interface : Interface). not (is_some interface.name)) o false) at ∙ ap (λ (o : Option (List ℕ)). not (is_some o)) called in
          let world_label = spot_of m valid valid_other i i' unnamed found in
          let stands = stands_at m.other.worlds i world_label.world_label (Contains-from_lookup (λ a b. eqb-true a b) i world_label.world_label (world_labels m.other.worlds) world_label.world_label_is) in
          let world = world_compared world_label.world_label.world stands.world stands.there in
          let links = world.links ++ (entry_link (side_word world_label.world_label.exported) world_label.world_label.label ∷ []) in
          record {
            links = links;
            among = λ q has.
                world.among q
                (in_world m world.links world_label.world_label.world world_label.w' stands.world world_label.there world_label.world_label.exported world_label.world_label.label stands.held world_label.held q stands.there world_label.matched world_label.there_is stands.listed world_label.listed
                (of_unnamed m links world_label.world_label.label stands.held world_label.held i q stands.is unnamed has));
          }

  -- two types are a pair
  abbrev pub ArePaired : ℕ → ℕ → Type 0
  ArePaired t t' =
      (links : List (List ℕ))
      × Contains (type_pairs m) (record { from = t; into = t'; links = links })

  -- of an interface
  of_interface : (t t' i : ℕ) (name : List ℕ) → SomeAt m.other.interfaces i (λ (interface : Interface). Contains interface.types (name, t)) → counterpart_type_by m (Some name) (owner.Interface i) ≡ Some t' → ArePaired t t'
  of_interface t t' i name listed found =
      let from = found_at (λ (interface : Interface). Contains interface.types (name, t)) m.other.interfaces i listed in
      let beside = some_parts (interface_type m.graph name) (counterpart_interface m i) t' found in
      let into = some_parts (λ (interface : Interface). lookup (bytes_eq name) interface.types) (slice_get m.graph.interfaces beside.0) t' beside.2 in
      let pairs = interface_compared i beside.0 from.0 from.1 beside.1 in
      (pairs.links ++ (type_link name ∷ []), pairs.among (pair_of pairs.links name t t') (in_interface m pairs.links i beside.0 from.0 into.0 name t t' from.1 beside.1 into.1 from.2 into.2))

  -- of a world
  of_world : (t t' w : ℕ) (name : List ℕ) → SomeAt m.other.worlds w (λ (world : World). Contains (world_types world) (name, t)) → counterpart_type_by m (Some name) (owner.World w) ≡ Some t' → ArePaired t t'
  of_world t t' w name listed found =
      let from = found_at (λ (world : World). Contains (world_types world) (name, t)) m.other.worlds w listed in
      let into = some_parts (λ (there : World). lookup (bytes_eq name) (world_types there)) (matched_world m w) t' found in
      let beside = some_parts (slice_get m.graph.worlds) (counterpart_world m w) into.0 into.1 in
      let mine = listed_by from.0 name t from.2 in
      let theirs = listed_by into.0 name t' (Contains-from_lookup (λ a b. (bytes_eq-Decides a b).0) name t' (world_types into.0) into.2) in
      let here = entry_there m valid valid_other one w beside.0 from.0 into.0 from.1 beside.1 beside.2 false (key.Name name) (item.Type_ t mine.span) mine.has in
      let label : here.k' ≡ key.Name name = some_same here.k' (key.Name name) (sym here.key_is) in
      let looked : lookup (same_key (key.Name name)) into.0.imports ≡ Some here.here = subst (λ (k : WorldKey). lookup (same_key k) into.0.imports ≡ Some here.here) label here.looked in
      let same : here.here ≡ item.Type_ t' theirs.span =
      one_under into.0.imports (lists_distinct m.graph valid beside.0 false into.0 beside.2) (key.Name name) here.here (item.Type_ t' theirs.span)
      (Contains-from_lookup same_key-true (key.Name name) here.here into.0.imports looked) theirs.has in
      let pairs = world_compared w from.0 from.1 in
      let links = pairs.links ++ (entry_link (side_word false) name ∷ []) in (
        links ++ (type_link name ∷ []),
        pairs.among (pair_of links name t t')
            (in_world m pairs.links w beside.0 from.0 into.0 false name (item.Type_ t mine.span) (item.Type_ t' theirs.span) (pair_of links name t t') from.1 beside.1 beside.2 mine.has
            (looked ∙ ap (λ (held : WorldItem). Some held) same) (Contains-here (pair_of links name t t') [])),
      )

  pub paired : (t t' : ℕ) → counterpart_type m t ≡ Some t' → ArePaired t t'
  paired t t' found =
      let def = some_parts (λ (def : TypeDef). counterpart_type_by m def.name def.owner) (slice_get m.other.types t) t' found in
      by def.0.name def.0.owner (valid_other.well_formed.owners.listed t def.0 def.1) def.2
    where
      by : (name : Option (List ℕ)) (of : TypeOwner) → IsListed m.other.interfaces m.other.worlds t name of → counterpart_type_by m name of ≡ Some t' → ArePaired t t'
      by (Some name) (owner.Interface i) listed found = of_interface t t' i name listed found
      by (Some name) (owner.World w) listed found = of_world t t' w name listed found
      by (Some name) owner.None listed found = cc
      by None of listed found = cc

  -- ---- so nothing differs between matched types

  -- no text is told of a pair
  pub none_differ : (p : TypePair) (text : List ℕ) → Contains (type_pairs m) p → StructuresDiffer m p.from p.into text → ⊥
  none_differ = none_behind (StructuresDiffer m) [] (type_pairs m) (λ message first. one message (differ.types message first)) (λ p ending has told. Contains-nil has)

  -- so there is no first difference between the structures of matched types
  pub no_difference : (t t' : ℕ) (x y : Feature) → counterpart_type m t ≡ Some t' → FirstDifference (structure m.other.types (counterpart_type m) t) (structure m.graph.types Some t') x y → ⊥
  no_difference t t' x y found first =
      let pair = paired t t' found in
      none_differ (record { from = t; into = t'; links = pair.0 }) (path_text x.path ++ difference_text x.content y.content) pair.1 (record { x = x; y = y; first = first; text_is = refl })

  module _ (t t' : ℕ) (def def' : TypeDef) (at : slice_get m.other.types t ≡ Some def) (at' : slice_get m.graph.types t' ≡ Some def') (found : counterpart_type m t ≡ Some t') where
    -- they are of one variant
    pub variant_matched : variant_of def.kind ≡ variant_of def'.kind
    variant_matched =
        let mine = structure_begins m.other.types (counterpart_type m) valid_other.no_cycles.types t def at in
        let theirs = structure_begins m.graph.types Some valid.no_cycles.types t' def' at' in
        same_variant (variant_of def.kind) (variant_of def'.kind)
        (λ other.
        no_difference t t' (here (variant (variant_of def.kind))) (here (variant (variant_of def'.kind))) found
        (record { before = []; after = mine.0; after' = theirs.0; xs_are = mine.1; ys_are = theirs.1; apart = λ same. other (one_variant (ap (λ (f : Feature). f.content) same)) }))
      where
        one_variant : {v w : Variant} → variant v ≡ variant w → v ≡ w
        one_variant same = cc

    -- an alias is matched with an alias, of what is matched with what it names
    pub alias_matched : (u : ℕ) → alias_target def.kind ≡ Some u → (u' : ℕ) × (alias_target def'.kind ≡ Some u') × (counterpart_type m u ≡ Some u')
    alias_matched u target =
        let is = alias_kind def.kind u target in
        let theirs = alias_variant def'.kind (sym variant_matched ∙ ap variant_of is) in
        by theirs.0 theirs.1
      where
        mine : structure m.other.types (counterpart_type m) t ≡ alias_front ++ (within (codes "alias") (here (named (counterpart_type m u))) ∷ [])
        mine =
            alias_structure m.other.types (counterpart_type m) valid_other.no_cycles.types t def at (type.Id u) (alias_kind def.kind u target)
            ∙ ap (λ (fs : List Feature). alias_front ++ fs) (held_named m.other.types (counterpart_type m) u (target_named m.other valid_other t def u at target))

        theirs_are : (ty : Type_) (y : Content) → def'.kind ≡ kind.Type_ ty
            → map (within (codes "alias")) (held_features m.graph.types Some (structure m.graph.types Some) (Some ty)) ++ [] ≡ within (codes "alias") (here y) ∷ []
            → (named (counterpart_type m u) ≡ y → ⊥) → ⊥
        theirs_are ty y is features apart =
            no_difference t t' (within (codes "alias") (here (named (counterpart_type m u)))) (within (codes "alias") (here y)) found
            (record {
              before = alias_front;
              after = [];
              after' = [];
              xs_are = mine;
              ys_are = alias_structure m.graph.types Some valid.no_cycles.types t' def' at' ty is ∙ ap (λ (fs : List Feature). alias_front ++ fs) features;
              apart = λ same. apart (ap (λ (f : Feature). f.content) same);
            })

        not_primitive : (ty : Type_) (o : Option ℕ) → named o ≡ primitive ty → ⊥
        not_primitive ty o same = cc

        same_named : (o : Option ℕ) (x : ℕ) → named o ≡ named (Some x) → o ≡ Some x
        same_named o x same = cc

        by : (ty : Type_) → def'.kind ≡ kind.Type_ ty → (u' : ℕ) × (alias_target def'.kind ≡ Some u') × (counterpart_type m u ≡ Some u')
        by (type.Id u') is =
            let names_it : alias_target def'.kind ≡ Some u' = ap alias_target is in (
              u',
              names_it,
              same_id (counterpart_type m u) u' (λ other.
                  theirs_are (type.Id u') (named (Some u')) is (held_named m.graph.types Some u' (target_named m.graph valid t' def' u' at' names_it)) (λ same. other (same_named (counterpart_type m u) u' same))),
            )
        by ty is = absurd (theirs_are ty (primitive ty) is refl (not_primitive ty (counterpart_type m u)))
