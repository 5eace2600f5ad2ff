-- What is matched one way is matched back the other way: packages, worlds and interfaces by their names, and types by
-- theirs; an interface without a name by where it stands, which is one place of a valid graph.
use Rattle.std.proofs.Common.{◌≡◌, ◌∙◌, ℕ, ◌+◌, cond, Bool, true, false, not, List, [], ◌∷◌, nat_eq, is_some, Option, None, Some, option_and_then, slice_get, refl, sym, ap, subst, arith, Contains}
use Rattle.std.proofs.lemmas.Bool.{eqb-true}
use Rattle.std.proofs.lemmas.Bool.Decides.{Decides-like, same_from_decides}
use Rattle.std.proofs.lemmas.Cmp.{nat_eq_equiv, nat_list_eq_equiv}
use Rattle.std.proofs.lemmas.Map.Views.{Contains-from_lookup, IsSome-lookup_from_Contains}
use Rattle.std.proofs.lemmas.Slice.Eq.{bytes_eq-Decides}
use Rattle.std.specs.Cmp.{IsEquivalence}
use Rattle.std.specs.List.{enumerate_from, flat_map}
use Rattle.std.specs.Map.{lookup}
use Rattle.std.specs.Option.{option_map_or}
use Rattle.std.specs.Str.{bytes_eq}
use Rattle.wit_digraph.specs.facts.MemberFacts.{Contains-flat_map, Contains-here}
use Rattle.std.proofs.lemmas.List.Elements.{Contains-append_left, Contains-append_right}
use Rattle.wit_values.specs.Table.{HasDistinctKeys}
use Rattle.wit_data.specs.Entries.{Entry, is_unnamed, item_interface, entries_of}
use Rattle.wit_data.specs.Ownership.{IsListed, world_types}
use Rattle.wit_names.specs.facts.PackageNameFacts.{same_package-Decides}
use Rattle.wit_names.specs.PackageName.{same_package}
use Rattle.wit_data.specs.facts.WorldKeyFacts.{key_laws}
use Rattle.wit_data.specs.declared.interface.Interface.{Interface}
use Rattle.wit_names.specs.declared.package_name.PackageName.{PackageName}
use Rattle.wit_data.specs.declared.types.TypeDef.{TypeDef}
use Rattle.wit_data.specs.declared.types.TypeOwner.{TypeOwner}
use Rattle.wit_data.specs.declared.world.World.{World}
use Rattle.wit_data.specs.declared.world.WorldItem.{WorldItem}
use Rattle.wit_data.specs.declared.world.WorldKey.{WorldKey}
use Rattle.wit_data.specs.declared.types.TypeOwner.TheVariants as owner
use Rattle.wit_data.specs.declared.world.WorldItem.TheVariants as item
use Rattle.wit_data.specs.declared.world.WorldKey.TheVariants as key
use Rattle.wit_elaboration.specs.facts.FreshEntries.{same_key-true}
use Rattle.wit_elaboration.specs.Entries.{same_key}
use Rattle.wit_elaboration.specs.Valid.{IsValid}
use Rattle.wit_graph_data.specs.declared.graph.Graph.{Graph}
use Rattle.wit_graph_data.specs.declared.graph.Package.{Package}
use Rattle.wit_graph_theory.specs.facts.GoodWorlds.{same_one}
use Rattle.wit_graph_theory.specs.facts.ListFacts.{Contains-map, contained_at, found_at, place_of}
use Rattle.wit_graph_theory.specs.facts.OptionFacts.{some_parts, some_there, some_whole}
use Rattle.wit_graph_theory.specs.facts.PackagesAcyclic.{numbered_into}
use Rattle.wit_graph_data.specs.Named.{interface_type}
use Rattle.wit_link_spec.specs.facts.Standing.{listed_is}
use Rattle.wit_merge_spec.specs.Matches.{GraphMerge, WorldLabel, counterpart_at_label, counterpart_interface, counterpart_interface_by, counterpart_package, counterpart_type, counterpart_type_by, counterpart_world, interface_at_label, matched_world, named_in_counterpart, unnamed_item, world_labels}
use Rattle.wit_merge_laws.specs.facts.MatchFacts.{label_match, named_is, no_name, package_is, stands_at, world_is, world_type_is}
use Rattle.wit_merge_laws.specs.facts.MatchedOnce.{in_own_table, lists_distinct, one_under, world_in_table}
use Rattle.wit_merge_laws.specs.laws.MergingLaws.{merge_of_graphs}
use Rattle.wit_merge_laws.specs.facts.OnceStand.{world_label_key}
use Rattle.wit_merge_laws.specs.facts.WorldsStand.{entry, listed_by}
use Rattle.wit_merge_spec.specs.steps.Parts.{labels_of_world}

-- ---- look-ups

-- where keys are distinct, what stands under a key is found by it
pub lookup_finds : {K V : Type 0} (same : K → K → Bool) → IsEquivalence same → ((j k : K) → same j k ≡ true → j ≡ k) → (es : List (K × V)) → HasDistinctKeys es → (k : K) (v : V) → Contains es (k, v) → lookup (same k) es ≡ Some v
lookup_finds {K} {V} same laws exact es distinct k v has =
    let there = some_there (lookup (same k) es) (IsSome-lookup_from_Contains laws k es (Contains-map (λ (e : K × V). e.0) es (k, v) has)) in
    there.1 ∙ ap (λ (x : V). Some x) (one_under es distinct k there.0 v (Contains-from_lookup exact k there.0 es there.1) has)

pub lookup_finds_name : {V : Type 0} (es : List (List ℕ × V)) → HasDistinctKeys es → (name : List ℕ) (v : V) → Contains es (name, v) → lookup (bytes_eq name) es ≡ Some v
lookup_finds_name es distinct name v has = lookup_finds bytes_eq nat_list_eq_equiv (λ a b. (bytes_eq-Decides a b).0) es distinct name v has

pub lookup_finds_entry : (es : List Entry) → HasDistinctKeys es → (k : WorldKey) (held : WorldItem) → Contains es (entry k held) → lookup (same_key k) es ≡ Some held
lookup_finds_entry es distinct k held has = lookup_finds same_key key_laws same_key-true es distinct k held has

package_laws : IsEquivalence same_package
package_laws = record {
  refl = λ j. (same_package-Decides j j).1 refl;
  symm = λ j k. same_from_decides (same_package j k) (same_package k j) (same_package-Decides j k) (Decides-like _ (λ h. sym h) (λ h. sym h) (same_package-Decides k j));
  congr = λ j k l equal. ap (λ (m : PackageName). same_package m l) ((same_package-Decides j k).0 equal);
}

pub lookup_finds_package : (es : List (PackageName × ℕ)) → HasDistinctKeys es → (name : PackageName) (p : ℕ) → Contains es (name, p) → lookup (same_package name) es ≡ Some p
lookup_finds_package es distinct name p has = lookup_finds same_package package_laws (λ a b. (same_package-Decides a b).0) es distinct name p has

-- a world finds each type that it lists under its name
pub lookup_finds_world_type : (g : Graph) → IsValid g → (w : ℕ) (world : World) → slice_get g.worlds w ≡ Some world → (name : List ℕ) (t : ℕ) → Contains (world_types world) (name, t) → lookup (bytes_eq name) (world_types world) ≡ Some t
lookup_finds_world_type g valid w world at name t has =
    let there = some_there (lookup (bytes_eq name) (world_types world)) (IsSome-lookup_from_Contains nat_list_eq_equiv name (world_types world) (Contains-map (λ (e : List ℕ × ℕ). e.0) (world_types world) (name, t) has)) in
    let one = listed_by world name there.0 (Contains-from_lookup (λ a b. (bytes_eq-Decides a b).0) name there.0 (world_types world) there.1) in
    let other = listed_by world name t has in
    let same = one_under world.imports (lists_distinct g valid w false world at) (key.Name name) (item.Type_ there.0 one.span) (item.Type_ t other.span) one.has other.has in
    there.1 ∙ ap (λ (x : ℕ). Some x) (one_type there.0 t one.span other.span same)
  where
    one_type : (a b : ℕ) (span span' : Option (ℕ × ℕ)) → item.Type_ a span ≡ item.Type_ b span' → a ≡ b
    one_type a b span span' same = cc

-- ---- labels of worlds

-- an interface under a label is among the labels of its world
spotted_here : (w : ℕ) (exported : Bool) (label : List ℕ) (held : WorldItem) (i : ℕ) → item_interface held ≡ i ∷ [] → Contains (interface_at_label w exported (key.Name label) held) (i, record { world = w; exported = exported; label = label })
spotted_here w exported label (item.Interface j stability docs span external_id) i is =
    let world_label : WorldLabel = record { world = w; exported = exported; label = label } in
    subst (λ (x : ℕ). Contains {X = ℕ × WorldLabel} ((j, world_label) ∷ []) (x, world_label)) (same_one j i is) (Contains-here {X = ℕ × WorldLabel} (j, world_label) [])
spotted_here w exported label (item.Function f) i is = cc
spotted_here w exported label (item.Type_ t span) i is = cc

-- those of the imports or the exports of a world
abbrev labels_of_side : ℕ → Bool → World → List (ℕ × WorldLabel)
labels_of_side w exported world =
    flat_map (λ (e : Entry). interface_at_label w exported e.0 e.1) (entries_of exported world)

-- and of all worlds
pub label_there : (worlds : List World) (w : ℕ) (exported : Bool) (label : List ℕ) (world : World) (held : WorldItem) (i : ℕ) → slice_get worlds w ≡ Some world → Contains (entries_of exported world) (entry (key.Name label) held)
    → item_interface held ≡ i ∷ [] → Contains (world_labels worlds) (i, record { world = w; exported = exported; label = label })
label_there worlds w exported label world held i there has is =
    Contains-flat_map (λ (e : ℕ × World). labels_of_world e.0 e.1) (enumerate_from 0 worlds) (w, world) (i, record { world = w; exported = exported; label = label })
    (contained_at (enumerate_from 0 worlds) w (w, world) (numbered_into 0 worlds w world there ∙ ap (λ (n : ℕ). Some (n, world)) place)) (on exported has)
  where
    place : 0 + w ≡ w
    place = omega arith

    on : (exported : Bool) → Contains (entries_of exported world) (entry (key.Name label) held) → Contains (labels_of_world w world) (i, record { world = w; exported = exported; label = label })
    on false has =
        Contains-append_left (labels_of_side w false world) (labels_of_side w true world) (i, record { world = w; exported = false; label = label })
        (Contains-flat_map (λ (e : Entry). interface_at_label w false e.0 e.1) world.imports (entry (key.Name label) held) (i, record { world = w; exported = false; label = label }) has (spotted_here w false label held i is))
    on true has =
        Contains-append_right (labels_of_side w false world) (labels_of_side w true world) (i, record { world = w; exported = true; label = label })
        (Contains-flat_map (λ (e : Entry). interface_at_label w true e.0 e.1) world.exports (entry (key.Name label) held) (i, record { world = w; exported = true; label = label }) has (spotted_here w true label held i is))

-- the label of a world by which an interface without a name is found is the one where it stands
pub label_found : (g : Graph) → IsValid g → (w : ℕ) (exported : Bool) (label : List ℕ) (world : World) (held : WorldItem) (i : ℕ) → is_unnamed g.interfaces i ≡ true → slice_get g.worlds w ≡ Some world
    → Contains (entries_of exported world) (entry (key.Name label) held) → item_interface held ≡ i ∷ [] → lookup (nat_eq i) (world_labels g.worlds) ≡ Some (record { world = w; exported = exported; label = label })
label_found g valid w exported label world held i unnamed there has is =
    let found = some_there (lookup (nat_eq i) (world_labels g.worlds)) (IsSome-lookup_from_Contains nat_eq_equiv i (world_labels g.worlds) (Contains-map (λ (e : ℕ × WorldLabel). e.0) (world_labels g.worlds) (i, record { world = w; exported = exported; label = label }) (label_there g.worlds w exported label world held i there has is))) in
    let stands = stands_at g.worlds i found.0 (Contains-from_lookup (λ a b. eqb-true a b) i found.0 (world_labels g.worlds) found.1) in
    let place = place_of (entries_of found.0.exported stands.world) (entry (key.Name found.0.label) stands.held) stands.listed in
    let same = world_label_key g valid i w found.0.world exported found.0.exported place.0 world label held unnamed there has is
    (record { world = stands.world; there = stands.there; entry = entry (key.Name found.0.label) stands.held; at = place.1; held = stands.is }) in
    let label_is : label ≡ found.0.label = one_label label found.0.label same.1 in
    found.1 ∙ (λ k. Some (record { world = sym same.0 k; exported = sym same.2 k; label = sym label_is k }))
  where
    one_label : (a b : List ℕ) → key.Name a ≡ key.Name b → a ≡ b
    one_label a b same = cc

-- ---- back

pub unnamed_so : (interfaces : List Interface) (i : ℕ) (interface : Interface) → slice_get interfaces i ≡ Some interface → interface.name ≡ None → is_unnamed interfaces i ≡ true
unnamed_so interfaces i interface at none =
    ap (λ (o : Option Interface). option_map_or (λ (x : Interface). not (is_some x.name)) o false) at ∙ ap (λ (o : Option (List ℕ)). not (is_some o)) none

pub unnamed_held : (interfaces : List Interface) (held : WorldItem) (i : ℕ) → item_interface held ≡ i ∷ [] → is_unnamed interfaces i ≡ true → unnamed_item interfaces held ≡ Some i
unnamed_held interfaces (item.Interface j stability docs span external_id) i is unnamed = by (is_unnamed interfaces j) (ap (is_unnamed interfaces) same ∙ unnamed)
  where
    same : j ≡ i
    same = same_one j i is

    by : (b : Bool) → b ≡ true → cond b (Some j) None ≡ Some i
    by true so = ap (λ (x : ℕ). Some x) same
    by false so = cc
unnamed_held interfaces (item.Function f) i is unnamed = cc
unnamed_held interfaces (item.Type_ t span) i is unnamed = cc

module _ (g h : Graph) (a b : ℕ) (valid : IsValid g) (valid_other : IsValid h) where
  abbrev there : GraphMerge
  there = merge_of_graphs g h a

  abbrev back : GraphMerge
  back = merge_of_graphs h g b

  pub package_back : (p p' : ℕ) → counterpart_package there p ≡ Some p' → counterpart_package back p' ≡ Some p
  package_back p p' found =
      let is = package_is there valid p p' found in
      let home' = found_at (λ (home' : Package). home'.name ≡ is.0.name) g.packages p' is.2 in
      let names = valid_other.well_formed.package_names in
      some_whole (λ (home : Package). lookup (same_package home.name) h.package_names) (slice_get g.packages p') home'.0 p home'.1
      (lookup_finds_package h.package_names names.distinct home'.0.name p (subst (λ (name : PackageName). Contains h.package_names (name, p)) (sym home'.2) (names.listed p is.0 is.1)))

  -- in a table of a package
  in_table_back : (table : Package → List (List ℕ × ℕ)) (home' : Option ℕ) (name : List ℕ) (p p' x : ℕ) (home : Package) → home' ≡ Some p' → counterpart_package there p ≡ Some p' → slice_get h.packages p ≡ Some home
      → HasDistinctKeys (table home) → Contains (table home) (name, x) → named_in_counterpart table back home' name ≡ Some x
  in_table_back table home' name p p' x home home_is found at distinct has =
      some_whole (λ q. option_and_then (λ (home : Package). lookup (bytes_eq name) (table home)) (slice_get h.packages q)) (option_and_then (counterpart_package back) home') p x
      (some_whole (counterpart_package back) home' p' p home_is (package_back p p' found))
      (some_whole (λ (home : Package). lookup (bytes_eq name) (table home)) (slice_get h.packages p) home x at (lookup_finds_name (table home) distinct name x has))

  pub world_back : (w w' : ℕ) → counterpart_world there w ≡ Some w' → counterpart_world back w' ≡ Some w
  world_back w w' found =
      let is = world_is there valid w w' found in
      let home = world_in_table h valid_other w is.from is.at.p is.from_is is.at.home_is in
      some_whole (λ (world : World). named_in_counterpart (λ (home : Package). home.worlds) back world.package world.name) (slice_get g.worlds w') is.into w is.into_is
      (in_table_back (λ (home : Package). home.worlds) is.into.package is.into.name is.at.p is.at.p' w home.0 is.home_at is.at.matched home.1 (valid_other.well_formed.tables.distinct_worlds is.at.p home.0 home.1)
      (subst (λ (name : List ℕ). Contains home.0.worlds (name, w)) (sym is.name) home.2))

  -- interfaces of a name
  named_back : (i i' : ℕ) (from : Interface) (name : List ℕ) → slice_get h.interfaces i ≡ Some from → from.name ≡ Some name → counterpart_interface_by there i from.package (Some name) ≡ Some i' → counterpart_interface back i' ≡ Some i
  named_back i i' from name from_is called found =
      let is = named_is there valid name from.package i' found in
      let home = in_own_table h valid_other i from name is.at.p from_is called is.at.home_is in
      some_whole (λ (interface : Interface). counterpart_interface_by back i' interface.package interface.name) (slice_get g.interfaces i') is.into i is.into_is
      (subst (λ (o : Option (List ℕ)). counterpart_interface_by back i' is.into.package o ≡ Some i) (sym is.called)
      (in_table_back (λ (home : Package). home.interfaces) is.into.package name is.at.p is.at.p' i home.0 is.home_at is.at.matched home.1 (valid_other.well_formed.tables.distinct_interfaces is.at.p home.0 home.1) home.2))

  -- interfaces without one
  unnamed_back : (i i' : ℕ) (from : Interface) → slice_get h.interfaces i ≡ Some from → from.name ≡ None → counterpart_interface_by there i from.package None ≡ Some i' → counterpart_interface back i' ≡ Some i
  unnamed_back i i' from from_is none found =
      let at = label_match there i i' found in
      let world_label = at.world_label in
      let stands = stands_at h.worlds i world_label (Contains-from_lookup (λ u v. eqb-true u v) i world_label (world_labels h.worlds) at.world_label_is) in
      let into = no_name g.interfaces i' at.unnamed in
      let looks = label_found g valid at.w' world_label.exported world_label.label at.there at.held i' at.unnamed at.there_is (Contains-from_lookup same_key-true (key.Name world_label.label) at.held (entries_of world_label.exported at.there) at.listed) at.is in
      let beside : matched_world back at.w' ≡ Some stands.world = some_whole (slice_get h.worlds) (counterpart_world back at.w') world_label.world stands.world (world_back world_label.world at.w' at.matched) stands.there in
      let held : lookup (same_key (key.Name world_label.label)) (entries_of world_label.exported stands.world) ≡ Some stands.held =
      lookup_finds_entry (entries_of world_label.exported stands.world) (lists_distinct h valid_other world_label.world world_label.exported stands.world stands.there) (key.Name world_label.label) stands.held stands.listed in
      let as_unnamed : counterpart_interface_by back i' into.0.package None ≡ Some i =
      some_whole (counterpart_at_label back) (lookup (nat_eq i') (world_labels g.worlds)) (record { world = at.w'; exported = world_label.exported; label = world_label.label }) i looks
      (some_whole (λ (world : World). option_and_then (unnamed_item h.interfaces) (lookup (same_key (key.Name world_label.label)) (entries_of world_label.exported world))) (matched_world back at.w') stands.world i beside
      (some_whole (unnamed_item h.interfaces) (lookup (same_key (key.Name world_label.label)) (entries_of world_label.exported stands.world)) stands.held i held
      (unnamed_held h.interfaces stands.held i stands.is (unnamed_so h.interfaces i from from_is none)))) in
      some_whole (λ (interface : Interface). counterpart_interface_by back i' interface.package interface.name) (slice_get g.interfaces i') into.0 i into.1
      (subst (λ (o : Option (List ℕ)). counterpart_interface_by back i' into.0.package o ≡ Some i) (sym into.2) as_unnamed)

  pub interface_back : (i i' : ℕ) → counterpart_interface there i ≡ Some i' → counterpart_interface back i' ≡ Some i
  interface_back i i' found =
      let one = some_parts (λ (interface : Interface). counterpart_interface_by there i interface.package interface.name) (slice_get h.interfaces i) i' found in
      by one.0 one.1 one.0.name refl one.2
    where
      by : (from : Interface) → slice_get h.interfaces i ≡ Some from → (o : Option (List ℕ)) → from.name ≡ o → counterpart_interface_by there i from.package o ≡ Some i' → counterpart_interface back i' ≡ Some i
      by from from_is (Some name) called found = named_back i i' from name from_is called found
      by from from_is None called found = unnamed_back i i' from from_is called found

  pub type_back : (t t' : ℕ) → counterpart_type there t ≡ Some t' → counterpart_type back t' ≡ Some t
  type_back t t' found =
      let one = some_parts (λ (def : TypeDef). counterpart_type_by there def.name def.owner) (slice_get h.types t) t' found in
      by one.0 one.0.name one.0.owner (valid_other.well_formed.owners.listed t one.0 one.1) one.2
    where
      -- a type of g, by its name and its owner
      found_so : (name : List ℕ) (of : TypeOwner) (def : TypeDef) → slice_get g.types t' ≡ Some def → def.name ≡ Some name → def.owner ≡ of → counterpart_type_by back (Some name) of ≡ Some t → counterpart_type back t' ≡ Some t
      found_so name of def at called owned is =
          some_whole (λ (def : TypeDef). counterpart_type_by back def.name def.owner) (slice_get g.types t') def t at ((λ k. counterpart_type_by back (called k) (owned k)) ∙ is)

      by : (from : TypeDef) (o : Option (List ℕ)) (of : TypeOwner) → IsListed h.interfaces h.worlds t o of → counterpart_type_by there o of ≡ Some t' → counterpart_type back t' ≡ Some t
      by from (Some name) (owner.Interface i) listed found =
          let at = some_parts (interface_type g name) (counterpart_interface there i) t' found in
          let into = found_at (λ (def : TypeDef). (def.name ≡ Some name) × (def.owner ≡ owner.Interface at.0)) g.types t' (listed_is g valid name at.0 t' at.2) in
          let home = found_at (λ (interface : Interface). Contains interface.types (name, t)) h.interfaces i listed in
          found_so name (owner.Interface at.0) into.0 into.1 into.2.0 into.2.1
          (some_whole (interface_type h name) (counterpart_interface back at.0) i t (interface_back i at.0 at.1)
          (some_whole (λ (interface : Interface). lookup (bytes_eq name) interface.types) (slice_get h.interfaces i) home.0 t home.1
          (lookup_finds_name home.0.types (valid_other.well_formed.owners.distinct_types i home.0 home.1) name t home.2)))
      by from (Some name) (owner.World w) listed found =
          let at = some_parts (λ (world : World). lookup (bytes_eq name) (world_types world)) (matched_world there w) t' found in
          let world' = some_parts (slice_get g.worlds) (counterpart_world there w) at.0 at.1 in
          let into = found_at (λ (def : TypeDef). (def.name ≡ Some name) × (def.owner ≡ owner.World world'.0)) g.types t'
          (world_type_is g valid world'.0 at.0 name t' world'.2 (Contains-from_lookup (λ a b. (bytes_eq-Decides a b).0) name t' (world_types at.0) at.2)) in
          let home = found_at (λ (world : World). Contains (world_types world) (name, t)) h.worlds w listed in
          found_so name (owner.World world'.0) into.0 into.1 into.2.0 into.2.1
          (some_whole (λ (world : World). lookup (bytes_eq name) (world_types world)) (matched_world back world'.0) home.0 t
          (some_whole (slice_get h.worlds) (counterpart_world back world'.0) w home.0 (world_back w world'.0 world'.1) home.1)
          (lookup_finds_world_type h valid_other w home.0 home.1 name t home.2))
      by from (Some name) owner.None listed found = cc
      by from None of listed found = cc
