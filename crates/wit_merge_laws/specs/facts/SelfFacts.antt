-- A graph with which a copy of it is merged: each package, world and named type and each interface that has a name or
-- stands under a label is matched with itself, so nothing is brought and what is joined is what was there.
use Rattle.std.specs.Prelude.{bytes_eq}
use Rattle.std.proofs.Common.{◌≡◌, ◌∙◌, inl, inr, ℕ, ◌+◌, suc, Bool, true, false, List, [], ◌∷◌, ◌++◌, map, filter, cond, nat_eq, not, is_some, Option, None, Some, IsSome, option_and_then, slice_get, refl, sym, ap, subst, arith, Contains}
use Rattle.std.specs.List.{enumerate_from}
use Rattle.std.specs.Map.{lookup}
use Rattle.std.specs.Option.{option_map_or}
use Rattle.std.proofs.lemmas.Bool.{eqb-true}
use Rattle.std.proofs.lemmas.List.{append-nil}
use Rattle.std.proofs.lemmas.Map.Views.{Contains-from_lookup}
use Rattle.wit_digraph.specs.facts.MemberFacts.{Contains-here}
use Rattle.wit_values.specs.Table.{HasDistinctKeys}
use Rattle.wit_data.specs.Each.{Each, EachAt}
use Rattle.wit_data.specs.Entries.{Entry, IsImport, entries_of, item_interface}
use Rattle.wit_data.specs.Ownership.{IsListed, IsNamed, world_types}
use Rattle.wit_data.specs.declared.function.Function.{Function}
use Rattle.wit_data.specs.declared.interface.Interface.{Interface}
use Rattle.wit_data.specs.declared.stability.Stability.{Stability}
use Rattle.wit_data.specs.declared.stability.Stability.TheVariants.{Stable, Unknown, Unstable}
use Rattle.wit_data.specs.declared.types.TypeDef.{TypeDef}
use Rattle.wit_data.specs.declared.types.TypeOwner.{TypeOwner}
use Rattle.wit_data.specs.declared.types.TypeOwner.TheVariants as owner
use Rattle.wit_data.specs.declared.world.World.{World}
use Rattle.wit_data.specs.declared.world.WorldItem.{WorldItem}
use Rattle.wit_data.specs.declared.world.WorldItem.TheVariants as item
use Rattle.wit_data.specs.declared.world.WorldKey.{WorldKey}
use Rattle.wit_data.specs.declared.world.WorldKey.TheVariants as key
use Rattle.wit_names.specs.PackageName.{same_package}
use Rattle.wit_names.specs.declared.package_name.PackageName.{PackageName}
use Rattle.wit_elaboration.specs.Entries.{key_interface, same_key}
use Rattle.wit_elaboration.specs.facts.Filters.{Contains-filter}
use Rattle.wit_elaboration.specs.facts.FreshEntries.{same_key-true}
use Rattle.wit_elaboration.specs.Elaborated.{with_elaborated_lists}
use Rattle.wit_elaboration.specs.Elaboration.{elaborated_world}
use Rattle.wit_elaboration.specs.Valid.{IsValid}
use Rattle.wit_digraph.specs.Relation.{IsAcyclic}
use Rattle.wit_data.specs.Uses.{uses_of}
use Rattle.wit_graph_data.specs.declared.graph.Graph.{Graph}
use Rattle.wit_graph_data.specs.declared.graph.Package.{Package}
use Rattle.wit_graph_theory.specs.facts.GoodIsValid.{good_things}
use Rattle.wit_graph_theory.specs.facts.GraphSource.{good_items}
use Rattle.wit_graph_theory.specs.facts.LawsOfElaboration.{LawsOfElaboration}
use Rattle.wit_graph_theory.specs.facts.ListFacts.{Contains-map_cases, contained_at, found_at, place_of, same_at}
use Rattle.wit_graph_theory.specs.facts.OptionFacts.{some_parts, some_same, some_whole}
use Rattle.wit_graph_theory.specs.facts.PackagesAcyclic.{numbered_from}
use Rattle.wit_remap_spec.specs.Image.{entry_image, function_image, interface_image, item_image, key_image, world_image}
use Rattle.wit_link_spec.specs.facts.CanonicalStays.{canonical_longer}
use Rattle.wit_remap_spec.specs.Joined.{joined_entry, joined_item, joined_stability}
use Rattle.wit_graph_data.specs.Named.{interface_type}
use Rattle.wit_remap_spec.specs.ValueRemap.{types_behind}
use Rattle.wit_remap_spec.specs.Selected.{selected, selected_with_index}
use Rattle.wit_merge_spec.specs.Cause.{MergeIsAccepted}
use Rattle.wit_merge_spec.specs.Matches.{GraphMerge, counterpart_at_label, counterpart_interface, counterpart_interface_by, counterpart_of, counterpart_package, counterpart_type, counterpart_type_by, counterpart_world, matched_world, named_in_counterpart, unnamed_item, world_labels}
use Rattle.wit_merge_spec.specs.Merged.{brought_functions, is_under_id, joined_graph, merge_maps, merged_interface, merged_package, merged_type, merged_world, moved_worlds, package_image, value_remap, merged, with_entries, with_interface, with_package, with_world}
use Rattle.wit_merge_laws.specs.facts.BothNames.{both_names}
use Rattle.wit_merge_laws.specs.facts.FoundBack.{label_found, lookup_finds_entry, lookup_finds_name, lookup_finds_package, lookup_finds_world_type, unnamed_held, unnamed_so}
use Rattle.wit_merge_laws.specs.facts.InterfacesStand.{counterpart_from, old_interface_at}
use Rattle.wit_merge_laws.specs.facts.MatchFacts.{goes_to, label_match, no_name, stands_at}
use Rattle.wit_merge_laws.specs.facts.MatchedOnce.{in_own_table, lists_distinct, one_under, world_in_table}
use Rattle.wit_merge_laws.specs.facts.NamesGo.{home_is}
use Rattle.wit_merge_laws.specs.facts.NoCycles.{can_elaborate}
use Rattle.wit_merge_laws.specs.facts.NothingFacts.{map_same}
use Rattle.wit_merge_laws.specs.facts.TypesStand.{old_type_at}
use Rattle.wit_merge_laws.specs.facts.MergedWorlds.{named_key}
use Rattle.wit_merge_laws.specs.facts.WorldsStand.{entry}
use Rattle.wit_merge_laws.specs.laws.CopyLaws.{AcceptedCopiesChangeNothing, IsPlacedType, StaysItself}
use Rattle.wit_merge_laws.specs.laws.MergingLaws.{merge_of_graphs}
use Rattle.wit_merge_laws.specs.laws.Names.{HaveSameNames, InterfaceName, IsNamedSo, at_label, in_package}
use Rattle.wit_merge_spec.specs.steps.Parts.{moved_interfaces, brought_types, with_type, joined_type, joined_interface, joined_world, joined_package, moves_type, moves_interface, moves_world, moves_package}

-- ---- lists

pub key_has : (k : WorldKey) (j : ℕ) → k ≡ key.Interface j → Contains (key_interface k) j
key_has (key.Name label) j is = cc
key_has (key.Interface i) j is = let same : i ≡ j = cc in subst (λ (x : ℕ). Contains (x ∷ []) j) (sym same) (Contains-here j [])

-- what a test keeps nothing of
none_pass : {X : Type 0} (p : X → Bool) (xs : List X) → Each (λ x. p x ≡ false) xs → filter p xs ≡ []
none_pass p [] none = refl
none_pass p (x ∷ xs) none = ap (λ (b : Bool). cond b (x ∷ filter p xs) (filter p xs)) (none 0 x refl) ∙ none_pass p xs (λ i y at. none (suc i) y at)

-- what brings nothing joins nothing
pub nothing_behind : {X Y : Type 0} (f : Y → X) (xs : List X) (ys : List Y) → ys ≡ [] → xs ++ map f ys ≡ xs
nothing_behind f xs ys none = ap (λ l. xs ++ map f l) none ∙ append-nil xs

-- a change that leaves each numbered element as it is
numbered_same : {X : Type 0} (f : ℕ × X → X) (n : ℕ) (xs : List X) → ((k : ℕ) (x : X) → slice_get xs k ≡ Some x → f (n + k, x) ≡ x) → map f (enumerate_from n xs) ≡ xs
numbered_same f n [] same = refl
numbered_same {X} f n (x ∷ xs) same = λ i. first i ∷ numbered_same f (n + 1) xs (λ k y at. ap (λ (j : ℕ). f (j, y)) (next k) ∙ same (suc k) y at) i
  where
    here : n ≡ n + 0
    here = omega arith

    first : f (n, x) ≡ x
    first = ap (λ (k : ℕ). f (k, x)) here ∙ same 0 x refl

    next : (k : ℕ) → n + 1 + k ≡ n + suc k
    next k = omega arith

pub all_same : {X : Type 0} (f : ℕ × X → X) (xs : List X) → EachAt (λ k x. f (k, x) ≡ x) xs → map f (enumerate_from 0 xs) ≡ xs
all_same {X} f xs same = numbered_same f 0 xs (λ k x at. ap (λ (j : ℕ). f (j, x)) (zero_and k) ∙ same k x at)
  where
    zero_and : (k : ℕ) → 0 + k ≡ k
    zero_and k = omega arith

none_selected : {X : Type 0} (kept : ℕ → Bool) (xs : List X) → EachAt (λ k (x : X). kept k ≡ false) xs → selected_with_index kept xs ≡ []
none_selected {X} kept xs none =
    none_pass (λ (e : ℕ × X). kept e.0) (enumerate_from 0 xs) (λ k e on.
    let is = numbered_from 0 xs k e on in
    let place : k ≡ e.0 = let n = is.0 in omega (arith, n) in
    ap kept (sym place) ∙ none k e.1 is.1)

join_same : (s : Stability) → joined_stability s s ≡ s
join_same Unknown = refl
join_same (Stable since deprecated) = refl
join_same (Unstable feature deprecated) = refl

stays_put : (o : Option ℕ) (x : ℕ) → o ≡ Some x → not (is_some o) ≡ false
stays_put o x is = ap (λ (o : Option ℕ). not (is_some o)) is

module _ (g : Graph) (offset : ℕ) (valid : IsValid g) where
  abbrev m : GraphMerge
  m = merge_of_graphs g g offset

  -- ---- each is matched with itself

  package_self : (p : ℕ) (home : Package) → slice_get g.packages p ≡ Some home → counterpart_package m p ≡ Some p
  package_self p home at =
      let names = valid.well_formed.package_names in
      some_whole (λ (home : Package). lookup (same_package home.name) g.package_names) (slice_get g.packages p) home p at (lookup_finds_package g.package_names names.distinct home.name p (names.listed p home at))

  table_self : (table : Package → List (List ℕ × ℕ)) (home : Option ℕ) (name : List ℕ) (p x : ℕ) (there : Package) → home ≡ Some p → slice_get g.packages p ≡ Some there → HasDistinctKeys (table there) → Contains (table there) (name, x)
      → named_in_counterpart table m home name ≡ Some x
  table_self table home name p x there home_so at distinct has =
      some_whole (λ q. option_and_then (λ (there : Package). lookup (bytes_eq name) (table there)) (slice_get g.packages q)) (option_and_then (counterpart_package m) home) p x
      (some_whole (counterpart_package m) home p p home_so (package_self p there at))
      (some_whole (λ (there : Package). lookup (bytes_eq name) (table there)) (slice_get g.packages p) there x at (lookup_finds_name (table there) distinct name x has))

  pub world_self : (w : ℕ) (world : World) → slice_get g.worlds w ≡ Some world → counterpart_world m w ≡ Some w
  world_self w world at =
      let of = home_is _ world.package (valid.well_formed.tables.worlds_listed w world at) in
      let home = world_in_table g valid w world of.0 at of.1 in
      some_whole (λ (world : World). named_in_counterpart (λ (there : Package). there.worlds) m world.package world.name) (slice_get g.worlds w) world w at
      (table_self (λ (there : Package). there.worlds) world.package world.name of.0 w home.0 of.1 home.1 (valid.well_formed.tables.distinct_worlds of.0 home.0 home.1) home.2)

  world_there : (w : ℕ) (world : World) → slice_get g.worlds w ≡ Some world → matched_world m w ≡ Some world
  world_there w world at = some_whole (slice_get g.worlds) (counterpart_world m w) w world (world_self w world at) at

  pub named_self : (i : ℕ) (interface : Interface) (name : List ℕ) → slice_get g.interfaces i ≡ Some interface → interface.name ≡ Some name → counterpart_interface m i ≡ Some i
  named_self i interface name at called =
      let of = home_is _ interface.package (valid.well_formed.tables.interfaces_listed i interface at) in
      let home = in_own_table g valid i interface name of.0 at called of.1 in
      some_whole (λ (interface : Interface). counterpart_interface_by m i interface.package interface.name) (slice_get g.interfaces i) interface i at
      (subst (λ (o : Option (List ℕ)). counterpart_interface_by m i interface.package o ≡ Some i) (sym called)
      (table_self (λ (there : Package). there.interfaces) interface.package name of.0 i home.0 of.1 home.1 (valid.well_formed.tables.distinct_interfaces of.0 home.0 home.1) home.2))

  pub unnamed_self : (i : ℕ) (interface : Interface) → slice_get g.interfaces i ≡ Some interface → interface.name ≡ None → (w : ℕ) (exported : Bool) (label : List ℕ) (world : World) (held : WorldItem) → slice_get g.worlds w ≡ Some world
      → Contains (entries_of exported world) (entry (key.Name label) held) → item_interface held ≡ i ∷ [] → counterpart_interface m i ≡ Some i
  unnamed_self i interface at none w exported label world held there has is =
      let unnamed = unnamed_so g.interfaces i interface at none in
      some_whole (λ (interface : Interface). counterpart_interface_by m i interface.package interface.name) (slice_get g.interfaces i) interface i at
      (subst (λ (o : Option (List ℕ)). counterpart_interface_by m i interface.package o ≡ Some i) (sym none)
      (some_whole (counterpart_at_label m) (lookup (nat_eq i) (world_labels g.worlds)) (record { world = w; exported = exported; label = label }) i (label_found g valid w exported label world held i unnamed there has is)
      (some_whole (λ (there : World). option_and_then (unnamed_item g.interfaces) (lookup (same_key (key.Name label)) (entries_of exported there))) (matched_world m w) world i (world_there w world there)
      (some_whole (unnamed_item g.interfaces) (lookup (same_key (key.Name label)) (entries_of exported world)) held i (lookup_finds_entry (entries_of exported world) (lists_distinct g valid w exported world there) (key.Name label) held has)
      (unnamed_held g.interfaces held i is unnamed)))))

  -- what is matched is matched with itself
  pub interface_own : (i i' : ℕ) → counterpart_interface m i ≡ Some i' → i ≡ i'
  interface_own i i' found =
      let one = some_parts (λ (interface : Interface). counterpart_interface_by m i interface.package interface.name) (slice_get g.interfaces i) i' found in
      by one.0 one.1 one.0.name refl one.2
    where
      by : (interface : Interface) → slice_get g.interfaces i ≡ Some interface → (o : Option (List ℕ)) → interface.name ≡ o → counterpart_interface_by m i interface.package o ≡ Some i' → i ≡ i'
      by interface at (Some name) called is = some_same i i' (sym (named_self i interface name at called) ∙ found)
      by interface at None called is =
          let label = label_match m i i' is in
          let stands = stands_at g.worlds i label.world_label (Contains-from_lookup (λ u v. eqb-true u v) i label.world_label (world_labels g.worlds) label.world_label_is) in
          some_same i i' (sym (unnamed_self i interface at called label.world_label.world label.world_label.exported label.world_label.label stands.world stands.held stands.there stands.listed stands.is) ∙ found)

  -- ---- types

  pub type_of_interface : (t : ℕ) (def : TypeDef) (name : List ℕ) (i : ℕ) → slice_get g.types t ≡ Some def → def.name ≡ Some name → def.owner ≡ owner.Interface i → counterpart_interface m i ≡ Some i → counterpart_type m t ≡ Some t
  type_of_interface t def name i at called owned found =
      let listed = subst (IsListed g.interfaces g.worlds t (Some name)) owned (subst (λ (o : Option (List ℕ)). IsListed g.interfaces g.worlds t o def.owner) called (valid.well_formed.owners.listed t def at)) in
      let home = found_at (λ (interface : Interface). Contains interface.types (name, t)) g.interfaces i listed in
      some_whole (λ (def : TypeDef). counterpart_type_by m def.name def.owner) (slice_get g.types t) def t at
      ((λ k. counterpart_type_by m (called k) (owned k))
      ∙ some_whole (interface_type g name) (counterpart_interface m i) i t found
      (some_whole (λ (interface : Interface). lookup (bytes_eq name) interface.types) (slice_get g.interfaces i) home.0 t home.1 (lookup_finds_name home.0.types (valid.well_formed.owners.distinct_types i home.0 home.1) name t home.2)))

  pub type_of_world : (t : ℕ) (def : TypeDef) (name : List ℕ) (w : ℕ) → slice_get g.types t ≡ Some def → def.name ≡ Some name → def.owner ≡ owner.World w → counterpart_type m t ≡ Some t
  type_of_world t def name w at called owned =
      let listed = subst (IsListed g.interfaces g.worlds t (Some name)) owned (subst (λ (o : Option (List ℕ)). IsListed g.interfaces g.worlds t o def.owner) called (valid.well_formed.owners.listed t def at)) in
      let home = found_at (λ (world : World). Contains (world_types world) (name, t)) g.worlds w listed in
      some_whole (λ (def : TypeDef). counterpart_type_by m def.name def.owner) (slice_get g.types t) def t at
      ((λ k. counterpart_type_by m (called k) (owned k))
      ∙ some_whole (λ (there : World). lookup (bytes_eq name) (world_types there)) (matched_world m w) home.0 t (world_there w home.0 home.1) (lookup_finds_world_type g valid w home.0 home.1 name t home.2))

  pub type_own : (t t' : ℕ) → counterpart_type m t ≡ Some t' → t ≡ t'
  type_own t t' found =
      let one = some_parts (λ (def : TypeDef). counterpart_type_by m def.name def.owner) (slice_get g.types t) t' found in
      by one.0 one.1 one.0.name one.0.owner refl refl one.2
    where
      by : (def : TypeDef) → slice_get g.types t ≡ Some def → (o : Option (List ℕ)) (of : TypeOwner) → def.name ≡ o → def.owner ≡ of → counterpart_type_by m o of ≡ Some t' → t ≡ t'
      by def at (Some name) (owner.Interface i) called owned is =
          let within = some_parts (interface_type g name) (counterpart_interface m i) t' is in
          let self = within.1 ∙ ap (λ (x : ℕ). Some x) (sym (interface_own i within.0 within.1)) in
          some_same t t' (sym (type_of_interface t def name i at called owned self) ∙ found)
      by def at (Some name) (owner.World w) called owned is = some_same t t' (sym (type_of_world t def name w at called owned) ∙ found)
      by def at (Some name) owner.None called owned is = cc
      by def at None of called owned is = cc

  -- ---- what is joined is what was there

  module _ {X : Type 0} (found : ℕ → Option ℕ) (xs : List X) (own : (x x' : ℕ) → found x ≡ Some x' → x ≡ x') (join : ℕ × X → X → X) where
    joins_same : (k : ℕ) (x : X) → slice_get xs k ≡ Some x → (found k ≡ Some k → join (k, x) x ≡ x) → option_map_or (λ (p : ℕ × X). join p x) (counterpart_of found xs k) x ≡ x
    joins_same k x at same = by (counterpart_of found xs k) refl
      where
        by : (o : Option (ℕ × X)) → counterpart_of found xs k ≡ o → option_map_or (λ (p : ℕ × X). join p x) o x ≡ x
        by None is = refl
        by (Some p) is =
            let from = counterpart_from found xs k p is in
            let place : p.0 ≡ k = own p.0 k from.1 in
            let held : p.1 ≡ x = same_at xs p.0 k p.1 x place from.0 at in
            (λ j. join (place j, held j) x) ∙ same (ap found (sym place) ∙ from.1)

  pub same_type : (t : ℕ) (def : TypeDef) → slice_get g.types t ≡ Some def → joined_type m (t, def) ≡ def
  same_type t def at = joins_same (counterpart_type m) g.types type_own (λ p into. with_type p.1 into) t def at (λ found. λ k. record def { stability = join_same def.stability k })

  none_brought : (i : ℕ) (interface : Interface) → slice_get g.interfaces i ≡ Some interface → counterpart_interface m i ≡ Some i → brought_types m interface ≡ []
  none_brought i interface at found =
      none_pass (λ (e : List ℕ × ℕ). moves_type m e.1) interface.types (λ k e on.
      let def = found_at (λ (def : TypeDef). (def.name ≡ Some e.0) × (def.owner ≡ owner.Interface i)) g.types e.1 (valid.well_formed.owners.own_types i interface at k e on) in
      stays_put (counterpart_type m e.1) e.1 (type_of_interface e.1 def.0 e.0 i def.1 def.2.0 def.2.1 found))

  no_functions : (i : ℕ) (interface : Interface) → slice_get g.interfaces i ≡ Some interface → brought_functions interface interface ≡ []
  no_functions i interface at =
      none_pass (λ (e : List ℕ × Function). not (is_some (lookup (bytes_eq e.0) interface.functions))) interface.functions (λ k e on.
      ap (λ (o : Option Function). not (is_some o)) (lookup_finds_name interface.functions (valid.well_formed.owners.distinct_functions i interface at) e.0 e.1 (contained_at interface.functions k e on)))

  pub same_interface : (i : ℕ) (interface : Interface) → slice_get g.interfaces i ≡ Some interface → joined_interface m (i, interface) ≡ interface
  same_interface i interface at =
      joins_same (counterpart_interface m) g.interfaces interface_own (λ p into. with_interface m p.1 into) i interface at (λ found. λ k. record interface {
        types = nothing_behind (λ (e : List ℕ × ℕ). (e.0, merged_type m e.1)) interface.types (brought_types m interface) (none_brought i interface at found) k;
        functions = nothing_behind (λ (e : List ℕ × Function). (e.0, function_image (merge_maps m) e.1)) interface.functions (brought_functions interface interface) (no_functions i interface at) k;
        stability = join_same interface.stability k;
      })

  -- an item with its own image joined to it
  same_item : (w : ℕ) (held : WorldItem) → joined_item false (item_image (merge_maps m) w held) held ≡ held
  same_item w (item.Interface id stability docs span external_id) = λ k. item.Interface id (join_same stability k) docs span external_id
  same_item w (item.Function f) = refl
  same_item w (item.Type_ t span) = refl

  named_stays : (j : ℕ) → IsNamed g.interfaces j → merged_interface m j ≡ j
  named_stays j named =
      let found = found_at _ g.interfaces j named in
      goes_to (counterpart_interface m j) _ j (by found.0 found.1 found.0.name refl found.2)
    where
      by : (interface : Interface) → slice_get g.interfaces j ≡ Some interface → (o : Option (List ℕ)) → interface.name ≡ o → IsSome o → counterpart_interface m j ≡ Some j
      by interface at (Some name) called some = named_self j interface name at called
      by interface at None called some = cc

  module _ (w : ℕ) (es : List Entry) (distinct : HasDistinctKeys es) (named : (e : Entry) (j : ℕ) → Contains es e → e.0 ≡ key.Interface j → IsNamed g.interfaces j) where
    abbrev brought : List Entry
    brought = map (entry_image (merge_maps m) w) (filter (λ (e : Entry). is_under_id e.0) es)

    same_key_there : (d e : Entry) → Contains es d → is_under_id d.0 ≡ true → (entry_image (merge_maps m) w d).0 ≡ e.0 → d.0 ≡ e.0
    same_key_there d e has under is = by d.0 refl under is
      where
        by : (k : WorldKey) → d.0 ≡ k → is_under_id k ≡ true → key_image (merge_maps m) w k ≡ e.0 → k ≡ e.0
        by (key.Name label) key_is under is = cc
        by (key.Interface j) key_is under is = ap (λ (x : ℕ). key.Interface x) (sym (named_stays j (named d j has key_is))) ∙ is

    same_entry : (k : ℕ) (e : Entry) → slice_get es k ≡ Some e → joined_entry false brought e ≡ e
    same_entry k e at = λ i. (e.0, by (lookup (same_key e.0) brought) refl i)
      where
        by : (o : Option WorldItem) → lookup (same_key e.0) brought ≡ o → option_map_or (λ (from : WorldItem). joined_item false from e.1) o e.1 ≡ e.1
        by None is = refl
        by (Some from) is =
            let has = Contains-from_lookup same_key-true e.0 from brought is in
            let image = Contains-map_cases (entry_image (merge_maps m) w) (filter (λ (e : Entry). is_under_id e.0) es) (entry e.0 from) has in
            let kept = Contains-filter (λ (e : Entry). is_under_id e.0) es image.0 image.1 in
            let keys = same_key_there image.0 e kept.0 kept.1 (ap (λ (x : Entry). x.0) image.2) in
            let held : image.0.1 ≡ e.1 = one_under es distinct e.0 image.0.1 e.1 (subst (λ (x : WorldKey). Contains es (entry x image.0.1)) keys kept.0) (contained_at es k e at) in
            ap (λ (x : WorldItem). joined_item false x e.1) (sym (ap (λ (x : Entry). x.1) image.2) ∙ ap (item_image (merge_maps m) w) held) ∙ same_item w e.1

    same_entries : with_entries m w es es ≡ es
    same_entries = map_same (joined_entry false brought) es same_entry

  import_named : (w : ℕ) (k : WorldKey) (held : WorldItem) (j : ℕ) → k ≡ key.Interface j → IsImport g.interfaces g.types w k held → IsNamed g.interfaces j
  import_named w (key.Name label) held j is import = cc
  import_named w (key.Interface f) (item.Interface id stability docs span external_id) j is import = let same : f ≡ j = cc in subst (IsNamed g.interfaces) same import.1
  import_named w (key.Interface f) (item.Function fn) j is import = absurd import
  import_named w (key.Interface f) (item.Type_ t span) j is import = absurd import

  -- the key of an interface is of one that has a name
  pub key_named : (w : ℕ) (world : World) → slice_get g.worlds w ≡ Some world → (exported : Bool) (e : Entry) (j : ℕ) → Contains (entries_of exported world) e → e.0 ≡ key.Interface j → IsNamed g.interfaces j
  key_named w world at false e j has is = let place = place_of world.imports e has in import_named w e.0 e.1 j is (valid.well_formed.worlds.imports w world at place.0 e place.1)
  key_named w world at true e j has is =
      let place = place_of world.exports e has in named_key g.interfaces e.0 e.1 j (key_has e.0 j is) (valid.well_formed.worlds.exports w world at place.0 e place.1)

  pub same_world : (w : ℕ) (world : World) → slice_get g.worlds w ≡ Some world → joined_world m (w, world) ≡ world
  same_world w world at =
      joins_same (counterpart_world m) g.worlds world_own (with_world m) w world at (λ found. λ k. record world {
        imports = same_entries w world.imports (valid.well_formed.worlds.distinct_imports w world at) (key_named w world at false) k;
        exports = same_entries w world.exports (valid.well_formed.worlds.distinct_exports w world at) (key_named w world at true) k;
        stability = join_same world.stability k;
      })
    where
      world_own : (x x' : ℕ) → counterpart_world m x ≡ Some x' → x ≡ x'
      world_own x x' found =
          let one = some_parts (λ (world : World). named_in_counterpart (λ (there : Package). there.worlds) m world.package world.name) (slice_get g.worlds x) x' found in
          some_same x x' (sym (world_self x one.0 one.1) ∙ found)

  -- ---- packages

  named_entry : (p : ℕ) (home : Package) → slice_get g.packages p ≡ Some home → Each (λ (e : List ℕ × ℕ). moves_interface m e.1 ≡ false) home.interfaces
  named_entry p home at k e on =
      let of = found_at (λ (interface : Interface). (interface.name ≡ Some e.0) × (interface.package ≡ Some p)) g.interfaces e.1 (valid.well_formed.tables.interface_tables p home at k e on) in
      stays_put (counterpart_interface m e.1) e.1 (named_self e.1 of.0 e.0 of.1 of.2.0)

  world_entry : (p : ℕ) (home : Package) → slice_get g.packages p ≡ Some home → Each (λ (e : List ℕ × ℕ). moves_world m e.1 ≡ false) home.worlds
  world_entry p home at k e on =
      let of = found_at (λ (world : World). (world.name ≡ e.0) × (world.package ≡ Some p)) g.worlds e.1 (valid.well_formed.tables.world_tables p home at k e on) in
      stays_put (counterpart_world m e.1) e.1 (world_self e.1 of.0 of.1)

  pub same_package_there : (p : ℕ) (home : Package) → slice_get g.packages p ≡ Some home → joined_package m (p, home) ≡ home
  same_package_there p home at =
      joins_same (counterpart_package m) g.packages package_own (λ e into. with_package m e.1 into) p home at (λ found. λ k. record home {
        interfaces = nothing_behind (λ (e : List ℕ × ℕ). (e.0, merged_interface m e.1)) home.interfaces (filter (λ (e : List ℕ × ℕ). moves_interface m e.1) home.interfaces) (none_pass (λ (e : List ℕ × ℕ). moves_interface m e.1) home.interfaces (named_entry p home at)) k;
        worlds = nothing_behind (λ (e : List ℕ × ℕ). (e.0, merged_world m e.1)) home.worlds (filter (λ (e : List ℕ × ℕ). moves_world m e.1) home.worlds) (none_pass (λ (e : List ℕ × ℕ). moves_world m e.1) home.worlds (world_entry p home at)) k;
      })
    where
      package_own : (x x' : ℕ) → counterpart_package m x ≡ Some x' → x ≡ x'
      package_own x x' found =
          let one = some_parts (λ (home : Package). lookup (same_package home.name) g.package_names) (slice_get g.packages x) x' found in
          some_same x x' (sym (package_self x one.0 one.1) ∙ found)

  same_packages : (merged m).packages ≡ g.packages
  same_packages =
      ap (λ (l : List Package). l ++ map (package_image m) (selected (moves_package m) g.packages)) (all_same (joined_package m) g.packages same_package_there)
      ∙ nothing_behind (package_image m) g.packages (selected (moves_package m) g.packages)
      (ap (map (λ (e : ℕ × Package). e.1)) (none_selected (moves_package m) g.packages (λ p home at. stays_put (counterpart_package m p) p (package_self p home at))))

  same_names : (merged m).package_names ≡ g.package_names
  same_names =
      nothing_behind (λ (e : PackageName × ℕ). (e.0, merged_package m e.1)) g.package_names (filter (λ (e : PackageName × ℕ). moves_package m e.1) g.package_names)
      (none_pass (λ (e : PackageName × ℕ). moves_package m e.1) g.package_names (λ k e on.
      let home = found_at (λ (home : Package). home.name ≡ e.0) g.packages e.1 (valid.well_formed.package_names.own_name k e on) in
      stays_put (counterpart_package m e.1) e.1 (package_self e.1 home.0 home.1)))

  pub no_worlds_move : moved_worlds m ≡ []
  no_worlds_move = none_selected (moves_world m) g.worlds (λ w world at. stays_put (counterpart_world m w) w (world_self w world at))

  same_worlds : (joined_graph m).worlds ≡ g.worlds
  same_worlds =
      ap (λ (l : List World). l ++ map (λ (e : ℕ × World). world_image (merge_maps m) e.0 e.1) (moved_worlds m)) (all_same (joined_world m) g.worlds same_world)
      ∙ nothing_behind (λ (e : ℕ × World). world_image (merge_maps m) e.0 e.1) g.worlds (moved_worlds m) no_worlds_move

  -- ---- what has a name goes to itself

  placed_self : (i : ℕ) (name : InterfaceName) → IsNamedSo g name i → counterpart_interface m i ≡ Some i
  placed_self i (in_package home name) is =
      let found = found_at (λ (interface : Interface). (interface.name ≡ Some name) × (interface.package ≡ Some is.p)) g.interfaces i is.is in
      named_self i found.0 name found.1 found.2.0
  placed_self i (at_label l) is =
      let none = no_name g.interfaces i is.unnamed in
      let world = found_at (λ (world : World). Contains (entries_of l.exported world) (key.Name l.label, is.held)) g.worlds is.w is.stands in
      unnamed_self i none.0 none.1 none.2 is.w l.exported l.label world.0 is.held world.1 world.2 is.is

  type_id : (t : ℕ) (def : TypeDef) → slice_get g.types t ≡ Some def → IsPlacedType g def.owner → counterpart_type m t ≡ Some t
  type_id t def at placed = by def.name def.owner refl refl (valid.well_formed.owners.listed t def at) placed
    where
      by : (o : Option (List ℕ)) (of : TypeOwner) → def.name ≡ o → def.owner ≡ of → IsListed g.interfaces g.worlds t o of → IsPlacedType g of → counterpart_type m t ≡ Some t
      by (Some name) (owner.Interface i) called owned listed placed = type_of_interface t def name i at called owned (placed_self i placed.0 placed.1)
      by (Some name) (owner.World w) called owned listed placed = type_of_world t def name w at called owned
      by None (owner.Interface i) called owned listed placed = absurd listed
      by None (owner.World w) called owned listed placed = absurd listed
      by o owner.None called owned listed placed = absurd placed

  pub stays_itself : StaysItself g m
  stays_itself = record {
    packages = same_packages;
    package_names = same_names;
    worlds = same_worlds;
    interfaces = λ i interface at. old_interface_at m i interface at ∙ ap (λ (x : Interface). Some x) (same_interface i interface at);
    types = λ t def at. old_type_at m t def at ∙ ap (λ (x : TypeDef). Some x) (same_type t def at);
    package_ids = λ p home at. goes_to (counterpart_package m p) _ p (package_self p home at);
    world_ids = λ w world at. goes_to (counterpart_world m w) _ w (world_self w world at);
    interface_ids = λ i placed. goes_to (counterpart_interface m i) _ i (placed_self i placed.0 placed.1);
    type_ids = λ t def at placed. goes_to (counterpart_type m t) _ t (type_id t def at placed);
  }

-- ---- where no cause holds

module _ (laws : LawsOfElaboration) (g : Graph) (offset : ℕ) (valid : IsValid g) (can : MergeIsAccepted (merge_of_graphs g g offset)) where
  abbrev copied : GraphMerge
  copied = merge_of_graphs g g offset

  abbrev joined : Graph
  joined = joined_graph copied

  same_types : joined.types ≡ g.types ++ types_behind (value_remap copied)
  same_types = ap (λ (l : List TypeDef). l ++ types_behind (value_remap copied)) (all_same (joined_type copied) g.types (same_type g offset valid))

  same_interfaces : joined.interfaces ≡ g.interfaces ++ map (interface_image (merge_maps copied)) (moved_interfaces copied)
  same_interfaces = ap (λ (l : List Interface). l ++ map (interface_image (merge_maps copied)) (moved_interfaces copied)) (all_same (joined_interface copied) g.interfaces (same_interface g offset valid))

  same_elaborated : (w : ℕ) (world : World) → slice_get g.worlds w ≡ Some world → elaborated_world joined world ≡ world
  same_elaborated w world at =
      let acyclic = (can_elaborate copied valid valid can laws.refused).acyclic in
      let longer = canonical_longer g (good_items g (good_things g valid)) (types_behind (value_remap copied)) (map (interface_image (merge_maps copied)) (moved_interfaces copied)) laws.local valid.no_cycles.uses
      (subst IsAcyclic (λ k. uses_of (same_types k) (same_interfaces k)) acyclic) w world at (valid.canonical w world at) in
      (λ k. with_elaborated_lists (same_types k) (uses_of (same_types k) (same_interfaces k)) world) ∙ sym longer.world_is

  same_all : (merged copied).worlds ≡ g.worlds
  same_all = ap (map (elaborated_world joined)) (same_worlds g offset valid) ∙ map_same (elaborated_world joined) g.worlds same_elaborated

  same_name : HaveSameNames g (merged copied)
  same_name name =
      let both = both_names laws copied name valid valid can in
      (λ has. both.1 (inl has), λ has. elim (both.0 has) [ inl mine ↦ mine | inr theirs ↦ theirs ])

pub copies_change_nothing : LawsOfElaboration → AcceptedCopiesChangeNothing
copies_change_nothing laws g offset valid can = (same_name laws g offset valid can, same_all laws g offset valid can)
