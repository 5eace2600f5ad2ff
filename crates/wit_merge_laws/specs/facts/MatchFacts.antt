-- What is matched is there, under the name that it is looked up by, and of the package or the owner to which that of
-- the other thing goes.
use Rattle.std.proofs.Common.{◌≡◌, ◌∙◌, ℕ, Bool, true, false, List, [], ◌∷◌, inl, inr, arith, cond, is_some, nat_eq, not, Option, None, Some, option_and_then, option_map, unwrap_or, slice_get, refl, sym, ap, subst, Contains}
use Rattle.std.proofs.lemmas.Bool.{eqb-true}
use Rattle.std.proofs.lemmas.List.Elements.{Contains-append_cases}
use Rattle.std.proofs.lemmas.Map.Views.{Contains-from_lookup}
use Rattle.std.proofs.lemmas.Slice.Eq.{bytes_eq-Decides}
use Rattle.std.specs.List.{enumerate_from, flat_map}
use Rattle.std.specs.Map.{lookup}
use Rattle.std.specs.Option.{option_map_or}
use Rattle.std.specs.Str.{bytes_eq}
use Rattle.wit_digraph.specs.facts.MemberFacts.{Contains-cons_cases, Contains-flat_map_cases, Contains-nil}
use Rattle.wit_data.specs.Each.{SomeAt}
use Rattle.wit_data.specs.Entries.{Entry, IsImport, is_unnamed, item_interface, entries_of}
use Rattle.wit_data.specs.Ownership.{IsTypeOf, world_types, entry_type as listed_type_of}
use Rattle.wit_names.specs.facts.PackageNameFacts.{same_package-Decides}
use Rattle.wit_names.specs.PackageName.{same_package}
use Rattle.wit_data.specs.declared.interface.Interface.{Interface}
use Rattle.wit_data.specs.declared.types.TypeDef.{TypeDef}
use Rattle.wit_data.specs.declared.types.TypeOwner.{TypeOwner}
use Rattle.wit_data.specs.declared.world.World.{World}
use Rattle.wit_data.specs.declared.world.WorldItem.{WorldItem}
use Rattle.wit_data.specs.declared.world.WorldKey.{WorldKey}
use Rattle.wit_data.specs.declared.types.TypeOwner.TheVariants as owner
use Rattle.wit_elaboration.specs.facts.FreshEntries.{same_key-true}
use Rattle.wit_data.specs.declared.world.WorldItem.TheVariants as item
use Rattle.wit_data.specs.declared.world.WorldKey.TheVariants as key
use Rattle.wit_elaboration.specs.Entries.{same_key}
use Rattle.wit_elaboration.specs.Valid.{IsOfPackage, IsValid}
use Rattle.wit_graph_data.specs.declared.graph.Graph.{Graph}
use Rattle.wit_graph_data.specs.declared.graph.Package.{Package}
use Rattle.wit_graph_theory.specs.facts.GoodWorlds.{same_one}
use Rattle.wit_remap_spec.specs.Image.{owner_image}
use Rattle.wit_graph_theory.specs.facts.ListFacts.{found_at, place_of}
use Rattle.wit_graph_theory.specs.facts.OptionFacts.{none_there, some_parts, some_same}
use Rattle.wit_graph_theory.specs.facts.PackagesAcyclic.{numbered_from}
use Rattle.wit_graph_data.specs.Named.{interface_type}
use Rattle.wit_link_spec.specs.facts.Standing.{listed_is}
use Rattle.wit_merge_spec.specs.Matches.{GraphMerge, WorldLabel, counterpart_at_label, counterpart_interface, counterpart_interface_by, counterpart_package, counterpart_type, counterpart_type_by, counterpart_world, interface_at_label, matched_world, named_in_counterpart, unnamed_item, world_labels}
use Rattle.wit_merge_spec.specs.Merged.{merge_maps, merged_package}
use Rattle.wit_merge_spec.specs.steps.Parts.{labels_of_world}

-- ---- options

-- where a matched thing goes
pub goes_to : (o : Option ℕ) (next x : ℕ) → o ≡ Some x → unwrap_or o next ≡ x
goes_to o next x is = ap (λ (p : Option ℕ). unwrap_or p next) is

-- ---- packages and tables

module _ (m : GraphMerge) (valid : IsValid m.graph) where
  -- a matched package has the name of the other
  pub package_is : (p p' : ℕ) → counterpart_package m p ≡ Some p' → (home : Package) × (slice_get m.other.packages p ≡ Some home) × SomeAt m.graph.packages p' (λ (there : Package). there.name ≡ home.name)
  package_is p p' found =
      let one = some_parts (λ (home : Package). lookup (same_package home.name) m.graph.package_names) (slice_get m.other.packages p) p' found in
      let has = Contains-from_lookup (λ a b. (same_package-Decides a b).0) one.0.name p' m.graph.package_names one.2 in
      let place = place_of m.graph.package_names (one.0.name, p') has in
      (one.0, one.1, valid.well_formed.package_names.own_name place.0 (one.0.name, p') place.1)

  -- what is found in a table stands there, in the package that is matched
  pub record InTable (table : Package → List (List ℕ × ℕ)) (home : Option ℕ) (name : List ℕ)
      (x' : ℕ) : Type 0 where
    pub p : ℕ
    pub p' : ℕ
    pub there : Package
    pub home_is : home ≡ Some p
    pub matched : counterpart_package m p ≡ Some p'
    pub there_is : slice_get m.graph.packages p' ≡ Some there
    pub found : lookup (bytes_eq name) (table there) ≡ Some x'
    pub has : Contains (table there) (name, x')

  pub in_table : (table : Package → List (List ℕ × ℕ)) (home : Option ℕ) (name : List ℕ) (x' : ℕ) →
      named_in_counterpart table m home name ≡ Some x' → InTable table home name x'
  in_table table home name x' found =
      let one = some_parts
      (λ p'. option_and_then (λ (there : Package). lookup (bytes_eq name) (table there))
      (slice_get m.graph.packages p')) (option_and_then (counterpart_package m) home) x' found
      in
      let two = some_parts (counterpart_package m) home one.0 one.1 in
      let three = some_parts (λ (there : Package). lookup (bytes_eq name) (table there))
      (slice_get m.graph.packages one.0) x' one.2 in
      record {
        p = two.0;
        p' = one.0;
        there = three.0;
        home_is = two.1;
        matched = two.2;
        there_is = three.1;
        found = three.2;
        has = Contains-from_lookup (λ a b. (bytes_eq-Decides a b).0) name x'
            (table three.0) three.2;
      }

  -- the package to which a matched package goes
  home_goes : (home : Option ℕ) (p p' : ℕ) → home ≡ Some p → counterpart_package m p ≡ Some p' →
      option_map (merged_package m) home ≡ Some p'
  home_goes home p p' home_is matched =
      ap (option_map (merged_package m)) home_is ∙ ap (λ (q : ℕ). Some q)
      (goes_to (counterpart_package m p) _ p' matched)

  -- a world that is matched, and its counterpart
  pub record WorldMatch (w w' : ℕ) : Type 0 where
    pub from : World
    pub into : World
    pub from_is : slice_get m.other.worlds w ≡ Some from
    pub into_is : slice_get m.graph.worlds w' ≡ Some into
    pub name : into.name ≡ from.name
    pub home : into.package ≡ option_map (merged_package m) from.package
    pub at : InTable (λ (there : Package). there.worlds) from.package from.name w'
    pub home_at : into.package ≡ Some at.p'

  pub world_is : (w w' : ℕ) → counterpart_world m w ≡ Some w' → WorldMatch w w'
  world_is w w' found =
      let one = some_parts (λ (world : World). named_in_counterpart (λ (there : Package). there.worlds) m world.package world.name) (slice_get m.other.worlds w) w' found in
      let table = in_table (λ (there : Package). there.worlds) one.0.package one.0.name w' one.2 in
      let place = place_of table.there.worlds (one.0.name, w') table.has in
      let is = found_at (λ (world : World). (world.name ≡ one.0.name) × (world.package ≡ Some table.p')) m.graph.worlds w' (valid.well_formed.tables.world_tables table.p' table.there table.there_is place.0 (one.0.name, w') place.1) in
      record { from = one.0; into = is.0; from_is = one.1; into_is = is.1; name = is.2.0; home = is.2.1 ∙ sym (home_goes one.0.package table.p table.p' table.home_is table.matched); at = table; home_at = is.2.1 }

  -- an interface with a name that is found
  pub record NamedIs (name : List ℕ) (home : Option ℕ) (i' : ℕ) : Type 0 where
    pub into : Interface
    pub into_is : slice_get m.graph.interfaces i' ≡ Some into
    pub called : into.name ≡ Some name
    pub home_is : into.package ≡ option_map (merged_package m) home
    pub at : InTable (λ (there : Package). there.interfaces) home name i'
    pub home_at : into.package ≡ Some at.p'

  pub named_is : (name : List ℕ) (home : Option ℕ) (i' : ℕ) → named_in_counterpart (λ (there : Package). there.interfaces) m home name ≡ Some i' → NamedIs name home i'
  named_is name home i' found =
      let table = in_table (λ (there : Package). there.interfaces) home name i' found in
      let place = place_of table.there.interfaces (name, i') table.has in
      let is = found_at (λ (interface : Interface). (interface.name ≡ Some name) × (interface.package ≡ Some table.p')) m.graph.interfaces i'
      (valid.well_formed.tables.interface_tables table.p' table.there table.there_is place.0 (name, i') place.1) in
      record { into = is.0; into_is = is.1; called = is.2.0; home_is = is.2.1 ∙ sym (home_goes home table.p table.p' table.home_is table.matched); at = table; home_at = is.2.1 }

-- ---- labels of worlds

-- interface i stands at a label of a world of some worlds
pub record StandsAt (worlds : List World) (i : ℕ) (world_label : WorldLabel) : Type 0 where
  pub world : World
  pub there : slice_get worlds world_label.world ≡ Some world
  pub held : WorldItem
  pub listed : Contains (entries_of world_label.exported world) (key.Name world_label.label, held)
  pub is : item_interface held ≡ i ∷ []

-- what stands at a label of a world of these entries
record Spotted (w : ℕ) (exported : Bool) (k : WorldKey) (held : WorldItem) (i : ℕ)
    (world_label : WorldLabel) : Type 0 where
  world : world_label.world ≡ w
  side : world_label.exported ≡ exported
  key_is : k ≡ key.Name world_label.label
  is : item_interface held ≡ i ∷ []

spotted_is : (w : ℕ) (exported : Bool) (k : WorldKey) (held : WorldItem) (i : ℕ) (world_label : WorldLabel) → Contains (interface_at_label w exported k held) (i, world_label) → Spotted w exported k held i world_label
spotted_is w exported (key.Name label) (item.Interface j stability docs span external_id) i world_label has = elim (Contains-cons_cases (j, _) (i, world_label) [] has) [
  | inl same ↦
      let at = ap (λ (p : ℕ × WorldLabel). p.1) same in
      record { world = sym (ap (λ (s : WorldLabel). s.world) at); side = sym (ap (λ (s : WorldLabel). s.exported) at); key_is = ap (λ (s : WorldLabel). key.Name s.label) at; is = ap (λ (p : ℕ × WorldLabel). p.0 ∷ []) same }
  | inr none ↦ absurd (Contains-nil none)
]
spotted_is w exported (key.Name label) (item.Function f) i world_label has = absurd (Contains-nil has)
spotted_is w exported (key.Name label) (item.Type_ t span) i world_label has = absurd (Contains-nil has)
spotted_is w exported (key.Interface j) held i world_label has = absurd (Contains-nil has)

module _ (worlds : List World) (i : ℕ) (world_label : WorldLabel) where
  in_list : (w : ℕ) (world : World) (exported : Bool) → slice_get worlds w ≡ Some world → Contains (flat_map (λ (e : Entry). interface_at_label w exported e.0 e.1) (entries_of exported world)) (i, world_label) → StandsAt worlds i world_label
  in_list w world exported there has =
      let from = Contains-flat_map_cases (λ (e : Entry). interface_at_label w exported e.0 e.1) (entries_of exported world) (i, world_label) has in
      let is = spotted_is w exported from.0.0 from.0.1 i world_label from.1.1 in
      record {
        world = world;
        there = ap (slice_get worlds) is.world ∙ there;
        held = from.0.1;
        listed = subst (λ (b : Bool). Contains (entries_of b world) (key.Name world_label.label, from.0.1)) (sym is.side) (subst (λ (k : WorldKey). Contains (entries_of exported world) (k, from.0.1)) is.key_is from.1.0);
        is = is.is;
      }

  pub stands_at : Contains (world_labels worlds) (i, world_label) → StandsAt worlds i world_label
  stands_at has =
      let from = Contains-flat_map_cases (λ (e : ℕ × World). labels_of_world e.0 e.1) (enumerate_from 0 worlds) (i, world_label) has in
      let place = place_of (enumerate_from 0 worlds) from.0 from.1.0 in
      let numbered = numbered_from 0 worlds place.0 from.0 place.1 in
      let n = numbered.0 in
      let there : slice_get worlds from.0.0 ≡ Some from.0.1 = subst (λ (k : ℕ). slice_get worlds k ≡ Some from.0.1) (omega (arith, n)) numbered.1 in
      elim (Contains-append_cases (flat_map (λ (e : Entry). interface_at_label from.0.0 false e.0 e.1) from.0.1.imports) (flat_map (λ (e : Entry). interface_at_label from.0.0 true e.0 e.1) from.0.1.exports) (i, world_label) from.1.1) [
        | inl among ↦ in_list from.0.0 from.0.1 false there among
        | inr among ↦ in_list from.0.0 from.0.1 true there among
      ]

-- an item that is an interface without a name
unnamed_is : (interfaces : List Interface) (held : WorldItem) (i : ℕ) → unnamed_item interfaces held ≡ Some i → (item_interface held ≡ i ∷ []) × (is_unnamed interfaces i ≡ true)
unnamed_is interfaces (item.Interface j stability docs span external_id) i is = by (is_unnamed interfaces j) refl is
  where
    by : (b : Bool) → is_unnamed interfaces j ≡ b → cond b (Some j) None ≡ Some i → (item_interface (item.Interface j stability docs span external_id) ≡ i ∷ []) × (is_unnamed interfaces i ≡ true)
    by true unnamed same = let j_is : j ≡ i = cc in (ap (λ (x : ℕ). x ∷ []) j_is, subst (λ (x : ℕ). is_unnamed interfaces x ≡ true) j_is unnamed)
    by false unnamed same = cc
unnamed_is interfaces (item.Function f) i is = cc
unnamed_is interfaces (item.Type_ t span) i is = cc

-- an interface without a name that is an entry is of the world's package
entry_home : (interfaces : List Interface) (home : Option ℕ) (held : WorldItem) (i : ℕ) → item_interface held ≡ i ∷ [] → IsOfPackage interfaces home held
    → SomeAt interfaces i (λ (interface : Interface). (interface.name ≡ None) → interface.package ≡ home)
entry_home interfaces home (item.Interface j stability docs span external_id) i is of = subst (λ (x : ℕ). SomeAt interfaces x (λ (interface : Interface). (interface.name ≡ None) → interface.package ≡ home)) (same_one j i is) of
entry_home interfaces home (item.Function f) i is of = cc
entry_home interfaces home (item.Type_ t span) i is of = cc

-- so at a label of a world of a valid graph
pub label_home : (g : Graph) → IsValid g → (w : ℕ) (world : World) (exported : Bool) (k : WorldKey) (held : WorldItem) (i : ℕ) → slice_get g.worlds w ≡ Some world → Contains (entries_of exported world) (k, held)
    → item_interface held ≡ i ∷ [] → SomeAt g.interfaces i (λ (interface : Interface). (interface.name ≡ None) → interface.package ≡ world.package)
label_home g valid w world false k held i there listed is =
    let place = place_of world.imports (k, held) listed in entry_home g.interfaces world.package held i is (valid.well_formed.worlds.own_imports w world there place.0 (k, held) place.1)
label_home g valid w world true k held i there listed is =
    let place = place_of world.exports (k, held) listed in entry_home g.interfaces world.package held i is (valid.well_formed.worlds.own_exports w world there place.0 (k, held) place.1)

-- an interface without a name is there, and has none
pub no_name : (interfaces : List Interface) (i : ℕ) → is_unnamed interfaces i ≡ true → (interface : Interface) × (slice_get interfaces i ≡ Some interface) × (interface.name ≡ None)
no_name interfaces i is = by (slice_get interfaces i) refl is
  where
    by : (o : Option Interface) → slice_get interfaces i ≡ o → option_map_or (λ (interface : Interface). not (is_some interface.name)) o false ≡ true → (interface : Interface) × (slice_get interfaces i ≡ Some interface) × (interface.name ≡ None)
    by None at h = cc
    by (Some interface) at h = (interface, at, none_there interface.name h)

-- ---- interfaces

-- what an interface without a name is found by: its own label of a world, and that of its counterpart
pub record LabelMatch (m : GraphMerge) (i i' : ℕ) : Type 0 where
  pub world_label : WorldLabel
  pub w' : ℕ
  pub there : World
  pub held : WorldItem
  pub world_label_is : lookup (nat_eq i) (world_labels m.other.worlds) ≡ Some world_label
  pub matched : counterpart_world m world_label.world ≡ Some w'
  pub there_is : slice_get m.graph.worlds w' ≡ Some there
  pub listed : lookup (same_key (key.Name world_label.label))
      (entries_of world_label.exported there) ≡ Some held
  pub is : item_interface held ≡ i' ∷ []
  pub unnamed : is_unnamed m.graph.interfaces i' ≡ true

pub label_match : (m : GraphMerge) (i i' : ℕ) → option_and_then (counterpart_at_label m) (lookup (nat_eq i) (world_labels m.other.worlds)) ≡ Some i' → LabelMatch m i i'
label_match m i i' found =
    let one = some_parts (counterpart_at_label m) (lookup (nat_eq i) (world_labels m.other.worlds)) i' found in
    let two = some_parts (λ (there : World). option_and_then (unnamed_item m.graph.interfaces) (lookup (same_key (key.Name one.0.label)) (entries_of one.0.exported there))) (matched_world m one.0.world) i' one.2 in
    let three = some_parts (slice_get m.graph.worlds) (counterpart_world m one.0.world) two.0 two.1 in
    let four = some_parts (unnamed_item m.graph.interfaces) (lookup (same_key (key.Name one.0.label)) (entries_of one.0.exported two.0)) i' two.2 in
    let is = unnamed_is m.graph.interfaces four.0 i' four.2 in
    record { world_label = one.0; w' = three.0; there = two.0; held = four.0; world_label_is = one.1; matched = three.1; there_is = three.2; listed = four.1; is = is.0; unnamed = is.1 }

-- an interface that is matched, and its counterpart
pub record InterfaceMatch (m : GraphMerge) (i i' : ℕ) : Type 0 where
  pub from : Interface
  pub into : Interface
  pub from_is : slice_get m.other.interfaces i ≡ Some from
  pub into_is : slice_get m.graph.interfaces i' ≡ Some into
  pub called : into.name ≡ from.name
  pub home : into.package ≡ option_map (merged_package m) from.package

module _ (m : GraphMerge) (valid : IsValid m.graph) (valid_other : IsValid m.other) where
  pub interface_is : (i i' : ℕ) → counterpart_interface m i ≡ Some i' → InterfaceMatch m i i'
  interface_is i i' found =
      let one = some_parts (λ (interface : Interface). counterpart_interface_by m i interface.package interface.name) (slice_get m.other.interfaces i) i' found in
      by one.0 one.1 one.0.name refl one.2
    where
      by : (from : Interface) → slice_get m.other.interfaces i ≡ Some from → (o : Option (List ℕ)) → from.name ≡ o → counterpart_interface_by m i from.package o ≡ Some i' → InterfaceMatch m i i'
      by from from_is (Some name) called found =
          let is = named_is m valid name from.package i' found in
          record { from = from; into = is.into; from_is = from_is; into_is = is.into_is; called = is.called ∙ sym called; home = is.home_is }
      by from from_is None called found =
          let at = label_match m i i' found in
          let stands = stands_at m.other.worlds i at.world_label (Contains-from_lookup (λ a b. eqb-true a b) i at.world_label (world_labels m.other.worlds) at.world_label_is) in
          let world = world_is m valid at.world_label.world at.w' at.matched in
          let mine = found_at (λ (interface : Interface). (interface.name ≡ None) → interface.package ≡ stands.world.package) m.other.interfaces i
          (label_home m.other valid_other at.world_label.world stands.world at.world_label.exported (key.Name at.world_label.label) stands.held i stands.there stands.listed stands.is) in
          let theirs = found_at (λ (interface : Interface). (interface.name ≡ None) → interface.package ≡ at.there.package) m.graph.interfaces i'
          (label_home m.graph valid at.w' at.there at.world_label.exported (key.Name at.world_label.label) at.held i' at.there_is (Contains-from_lookup same_key-true (key.Name at.world_label.label) at.held (entries_of at.world_label.exported at.there) at.listed) at.is) in
          let none = no_name m.graph.interfaces i' at.unnamed in
          let same_mine : mine.0 ≡ from = some_same mine.0 from (sym mine.1 ∙ from_is) in
          let same_theirs : theirs.0 ≡ none.0 = some_same theirs.0 none.0 (sym theirs.1 ∙ none.1) in
          let mine_home : from.package ≡ stands.world.package = subst (λ (x : Interface). (x.name ≡ None) → x.package ≡ stands.world.package) same_mine mine.2 called in
          let their_home : none.0.package ≡ at.there.package = subst (λ (x : Interface). (x.name ≡ None) → x.package ≡ at.there.package) same_theirs theirs.2 none.2 in
          let same_world : world.from ≡ stands.world = some_same world.from stands.world (sym world.from_is ∙ stands.there) in
          let same_there : world.into ≡ at.there = some_same world.into at.there (sym world.into_is ∙ at.there_is) in
          record {
            from = from;
            into = none.0;
            from_is = from_is;
            into_is = none.1;
            called = none.2 ∙ sym called;
            home = their_home ∙ (sym (ap (λ (x : World). x.package) same_there) ∙ (world.home ∙ ap (option_map (merged_package m)) (ap (λ (x : World). x.package) same_world ∙ sym mine_home)));
          }

-- ---- types

-- a type that is matched, and its counterpart
pub record TypeMatch (m : GraphMerge) (t t' : ℕ) : Type 0 where
  pub from : TypeDef
  pub into : TypeDef
  pub name : List ℕ
  pub from_is : slice_get m.other.types t ≡ Some from
  pub into_is : slice_get m.graph.types t' ≡ Some into
  pub called : from.name ≡ Some name
  pub called_so : into.name ≡ Some name
  pub owner_is : into.owner ≡ owner_image (merge_maps m) from.owner

-- a type that a world of a valid graph lists is its own
pub world_type_is : (g : Graph) → IsValid g → (w : ℕ) (world : World) (name : List ℕ) (t : ℕ) → slice_get g.worlds w ≡ Some world → Contains (world_types world) (name, t) → IsTypeOf g.types (owner.World w) name t
world_type_is g valid w world name t there has =
    let from = Contains-flat_map_cases (λ (e : Entry). listed_type_of e.0 e.1) world.imports (name, t) has in
    let place = place_of world.imports from.0 from.1.0 in
    by from.0.0 from.0.1 (valid.well_formed.worlds.imports w world there place.0 from.0 place.1) from.1.1
  where
    by : (k : WorldKey) (held : WorldItem) → IsImport g.interfaces g.types w k held → Contains (listed_type_of k held) (name, t) → IsTypeOf g.types (owner.World w) name t
    by (key.Name label) (item.Type_ id span) is listed = elim (Contains-cons_cases (label, id) (name, t) [] listed) [
      | inl same ↦ subst (λ (p : List ℕ × ℕ). IsTypeOf g.types (owner.World w) p.0 p.1) same is
      | inr none ↦ absurd (Contains-nil none)
    ]
    by (key.Name label) (item.Interface i stability docs span external_id) is listed = absurd (Contains-nil listed)
    by (key.Name label) (item.Function f) is listed = absurd (Contains-nil listed)
    by (key.Interface i) (item.Type_ id span) is listed = absurd (Contains-nil listed)
    by (key.Interface i) (item.Interface j stability docs span external_id) is listed = absurd (Contains-nil listed)
    by (key.Interface i) (item.Function f) is listed = absurd (Contains-nil listed)

module _ (m : GraphMerge) (valid : IsValid m.graph) where
  pub type_is : (t t' : ℕ) → counterpart_type m t ≡ Some t' → TypeMatch m t t'
  type_is t t' found =
      let one = some_parts (λ (def : TypeDef). counterpart_type_by m def.name def.owner) (slice_get m.other.types t) t' found in
      by one.0 one.1 one.0.name one.0.owner refl refl one.2
    where
      by : (from : TypeDef) → slice_get m.other.types t ≡ Some from → (o : Option (List ℕ)) (of : TypeOwner) → from.name ≡ o → from.owner ≡ of → counterpart_type_by m o of ≡ Some t' → TypeMatch m t t'
      by from from_is (Some name) (owner.Interface i) called of found =
          let one = some_parts (interface_type m.graph name) (counterpart_interface m i) t' found in
          let is = found_at (λ (def : TypeDef). (def.name ≡ Some name) × (def.owner ≡ owner.Interface one.0)) m.graph.types t' (listed_is m.graph valid name one.0 t' one.2) in
          record {
            from = from;
            into = is.0;
            name = name;
            from_is = from_is;
            into_is = is.1;
            called = called;
            called_so = is.2.0;
            owner_is = is.2.1 ∙ (ap (λ (i' : ℕ). owner.Interface i') (sym (goes_to (counterpart_interface m i) _ one.0 one.1)) ∙ sym (ap (owner_image (merge_maps m)) of));
          }
      by from from_is (Some name) (owner.World w) called of found =
          let one = some_parts (λ (there : World). lookup (bytes_eq name) (world_types there)) (matched_world m w) t' found in
          let two = some_parts (slice_get m.graph.worlds) (counterpart_world m w) one.0 one.1 in
          let is = found_at (λ (def : TypeDef). (def.name ≡ Some name) × (def.owner ≡ owner.World two.0)) m.graph.types t'
          (world_type_is m.graph valid two.0 one.0 name t' two.2 (Contains-from_lookup (λ a b. (bytes_eq-Decides a b).0) name t' (world_types one.0) one.2)) in
          record {
            from = from;
            into = is.0;
            name = name;
            from_is = from_is;
            into_is = is.1;
            called = called;
            called_so = is.2.0;
            owner_is = is.2.1 ∙ (ap (λ (w' : ℕ). owner.World w') (sym (goes_to (counterpart_world m w) _ two.0 two.1)) ∙ sym (ap (owner_image (merge_maps m)) of));
          }
      by from from_is (Some name) owner.None called of found = cc
      by from from_is None of_it called of found = cc
