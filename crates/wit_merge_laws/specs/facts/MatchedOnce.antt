-- No two things of the other graph are matched with one thing of the graph.
use Rattle.std.proofs.Common.{◌≡◌, ◌∙◌, ℕ, Bool, true, false, List, Option, None, Some, slice_get, refl, sym, ap, subst, Contains}
use Rattle.std.proofs.lemmas.Bool.{eqb-true}
use Rattle.std.proofs.lemmas.Map.Views.{Contains-from_lookup}
use Rattle.std.specs.Prelude.{IfSome, IsSomeAnd}
use Rattle.wit_values.specs.Table.{HasDistinctKeys}
use Rattle.wit_data.specs.Each.{SomeAt}
use Rattle.wit_data.specs.Entries.{Entry, item_interface, entries_of}
use Rattle.wit_data.specs.declared.interface.Interface.{Interface}
use Rattle.wit_names.specs.declared.package_name.PackageName.{PackageName}
use Rattle.wit_data.specs.declared.world.World.{World}
use Rattle.wit_data.specs.declared.world.WorldKey.{WorldKey}
use Rattle.wit_data.specs.declared.world.WorldKey.TheVariants as key
use Rattle.wit_elaboration.specs.facts.FreshEntries.{same_key-true}
use Rattle.wit_elaboration.specs.Valid.{IsValid}
use Rattle.wit_graph_data.specs.declared.graph.Graph.{Graph}
use Rattle.wit_graph_data.specs.declared.graph.Package.{Package}
use Rattle.wit_graph_theory.specs.facts.GoodWorlds.{same_one}
use Rattle.wit_graph_theory.specs.facts.ListFacts.{found_at, place_of, same_at}
use Rattle.wit_graph_theory.specs.steps.UnnamedOnce.{Holds, StandsOnceOnly}
use Rattle.wit_graph_theory.specs.facts.UnnamedOnceFrom.{StandsOnceOnly-from_once}
use Rattle.wit_graph_theory.specs.facts.OptionFacts.{some_parts, some_same}
use Rattle.wit_merge_spec.specs.Matches.{GraphMerge, counterpart_interface, counterpart_interface_by, counterpart_package, counterpart_world, world_labels}
use Rattle.wit_merge_laws.specs.facts.MatchFacts.{interface_is, label_match, named_is, package_is, stands_at, world_is}

-- under one key stands one thing
pub one_under : {K V : Type 0} (es : List (K × V)) → HasDistinctKeys es → (k : K) (v w : V) → Contains es (k, v) → Contains es (k, w) → v ≡ w
one_under {K} {V} es distinct k v w first second =
    let one = place_of es (k, v) first in
    let other = place_of es (k, w) second in
    let same = distinct one.0 other.0 (k, v) (k, w) one.1 other.1 refl in
    ap (λ (e : K × V). e.1) (same_at es one.0 other.0 (k, v) (k, w) same one.1 other.1)

-- what an option has
pub has_some : (o : Option ℕ) (P : ℕ → Type 0) (x : ℕ) → o ≡ Some x → IsSomeAnd o P → P x
has_some None P x is h = cc
has_some (Some y) P x is h = let same : y ≡ x = cc in subst P same h

has_named : (o : Option (List ℕ)) (P : List ℕ → Type 0) (n : List ℕ) → o ≡ Some n → IfSome o P → P n
has_named None P n is h = cc
has_named (Some y) P n is h = let same : y ≡ n = cc in subst P same h

-- ---- tables of a valid graph

module _ (g : Graph) (valid : IsValid g) where
  -- an interface with a name stands in the table of its package
  pub in_own_table : (i : ℕ) (interface : Interface) (name : List ℕ) (p : ℕ) → slice_get g.interfaces i ≡ Some interface → interface.name ≡ Some name → interface.package ≡ Some p
      → (home : Package) × (slice_get g.packages p ≡ Some home) × Contains home.interfaces (name, i)
  in_own_table i interface name p at called of =
      let has = has_some interface.package (λ p. SomeAt g.packages p (λ (home : Package). IfSome interface.name (λ name. Contains home.interfaces (name, i)))) p of (valid.well_formed.tables.interfaces_listed i interface at) in
      let home = found_at (λ (home : Package). IfSome interface.name (λ name. Contains home.interfaces (name, i))) g.packages p has in
      (home.0, home.1, has_named interface.name (λ name. Contains home.0.interfaces (name, i)) name called home.2)

  -- and so does a world
  pub world_in_table : (w : ℕ) (world : World) (p : ℕ) → slice_get g.worlds w ≡ Some world → world.package ≡ Some p → (home : Package) × (slice_get g.packages p ≡ Some home) × Contains home.worlds (world.name, w)
  world_in_table w world p at of =
      let has = has_some world.package (λ p. SomeAt g.packages p (λ (home : Package). Contains home.worlds (world.name, w))) p of (valid.well_formed.tables.worlds_listed w world at) in
      found_at (λ (home : Package). Contains home.worlds (world.name, w)) g.packages p has

  pub lists_distinct : (w : ℕ) (b : Bool) (world : World) → slice_get g.worlds w ≡ Some world → HasDistinctKeys (entries_of b world)
  lists_distinct w false world at = valid.well_formed.worlds.distinct_imports w world at
  lists_distinct w true world at = valid.well_formed.worlds.distinct_exports w world at

  pub one_place : StandsOnceOnly g.interfaces g.worlds
  one_place = StandsOnceOnly-from_once g.interfaces g.worlds valid.well_formed.worlds.once

-- ---- matched once

module _ (m : GraphMerge) (valid : IsValid m.graph) (valid_other : IsValid m.other) where
  pub package_once : (p q p' : ℕ) → counterpart_package m p ≡ Some p' → counterpart_package m q ≡ Some p' → p ≡ q
  package_once p q p' first second =
      let a = package_is m valid p p' first in
      let b = package_is m valid q p' second in
      let here = found_at (λ (there : Package). there.name ≡ a.0.name) m.graph.packages p' a.2 in
      let there = found_at (λ (there : Package). there.name ≡ b.0.name) m.graph.packages p' b.2 in
      let one : here.0 ≡ there.0 = some_same here.0 there.0 (sym here.1 ∙ there.1) in
      let names : a.0.name ≡ b.0.name = sym here.2 ∙ (ap (λ (x : Package). x.name) one ∙ there.2) in
      let listed = valid_other.well_formed.package_names.listed in
      one_under m.other.package_names valid_other.well_formed.package_names.distinct b.0.name p q (subst (λ (n : PackageName). Contains m.other.package_names (n, p)) names (listed p a.0 a.1)) (listed q b.0 b.1)

  pub world_once : (w v w' : ℕ) → counterpart_world m w ≡ Some w' → counterpart_world m v ≡ Some w' → w ≡ v
  world_once w v w' first second =
      let a = world_is m valid w w' first in
      let b = world_is m valid v w' second in
      let into : a.into ≡ b.into = some_same a.into b.into (sym a.into_is ∙ b.into_is) in
      let home' : a.at.p' ≡ b.at.p' = some_same a.at.p' b.at.p' (sym a.home_at ∙ (ap (λ (x : World). x.package) into ∙ b.home_at)) in
      let home : a.at.p ≡ b.at.p = package_once a.at.p b.at.p b.at.p' (a.at.matched ∙ ap (λ (x : ℕ). Some x) home') b.at.matched in
      let names : a.from.name ≡ b.from.name = sym a.name ∙ (ap (λ (x : World). x.name) into ∙ b.name) in
      let one = world_in_table m.other valid_other w a.from b.at.p a.from_is (a.at.home_is ∙ ap (λ (x : ℕ). Some x) home) in
      let other = world_in_table m.other valid_other v b.from b.at.p b.from_is b.at.home_is in
      let same : one.0 ≡ other.0 = some_same one.0 other.0 (sym one.1 ∙ other.1) in
      one_under other.0.worlds (valid_other.well_formed.tables.distinct_worlds b.at.p other.0 other.1) b.from.name w v
      (subst (λ (n : List ℕ). Contains other.0.worlds (n, w)) names (subst (λ (x : Package). Contains x.worlds (a.from.name, w)) same one.2)) other.2

  -- interfaces of one name
  named_once : (i j i' : ℕ) (a b : Interface) (name : List ℕ) → slice_get m.other.interfaces i ≡ Some a → slice_get m.other.interfaces j ≡ Some b → a.name ≡ Some name → b.name ≡ Some name
      → counterpart_interface_by m i a.package (Some name) ≡ Some i' → counterpart_interface_by m j b.package (Some name) ≡ Some i' → i ≡ j
  named_once i j i' a b name at there called called_so first second =
      let x = named_is m valid name a.package i' first in
      let y = named_is m valid name b.package i' second in
      let into : x.into ≡ y.into = some_same x.into y.into (sym x.into_is ∙ y.into_is) in
      let home' : x.at.p' ≡ y.at.p' = some_same x.at.p' y.at.p' (sym x.home_at ∙ (ap (λ (z : Interface). z.package) into ∙ y.home_at)) in
      let home : x.at.p ≡ y.at.p = package_once x.at.p y.at.p y.at.p' (x.at.matched ∙ ap (λ (z : ℕ). Some z) home') y.at.matched in
      let one = in_own_table m.other valid_other i a name y.at.p at called (x.at.home_is ∙ ap (λ (z : ℕ). Some z) home) in
      let other = in_own_table m.other valid_other j b name y.at.p there called_so y.at.home_is in
      let same : one.0 ≡ other.0 = some_same one.0 other.0 (sym one.1 ∙ other.1) in
      one_under other.0.interfaces (valid_other.well_formed.tables.distinct_interfaces y.at.p other.0 other.1) name i j (subst (λ (z : Package). Contains z.interfaces (name, i)) same one.2) other.2

  -- interfaces without a name
  unnamed_once : (i j i' : ℕ) (home home_so : Option ℕ) → counterpart_interface_by m i home None ≡ Some i' → counterpart_interface_by m j home_so None ≡ Some i' → i ≡ j
  unnamed_once i j i' home home_so first second =
      let a = label_match m i i' first in
      let b = label_match m j i' second in
      let mine = place_of (entries_of a.world_label.exported a.there) (key.Name a.world_label.label, a.held) (Contains-from_lookup same_key-true (key.Name a.world_label.label) a.held (entries_of a.world_label.exported a.there) a.listed) in
      let yours = place_of (entries_of b.world_label.exported b.there) (key.Name b.world_label.label, b.held) (Contains-from_lookup same_key-true (key.Name b.world_label.label) b.held (entries_of b.world_label.exported b.there) b.listed) in
      let holds : Holds m.graph.worlds a.w' a.world_label.exported mine.0 i' = record { world = a.there; there = a.there_is; entry = (key.Name a.world_label.label, a.held); at = mine.1; held = a.is } in
      let holds_so : Holds m.graph.worlds b.w' b.world_label.exported yours.0 i' = record { world = b.there; there = b.there_is; entry = (key.Name b.world_label.label, b.held); at = yours.1; held = b.is } in
      let one = one_place m.graph valid i' a.w' b.w' a.world_label.exported b.world_label.exported mine.0 yours.0 a.unnamed holds holds_so in
      let worlds : a.there ≡ b.there = same_at m.graph.worlds a.w' b.w' a.there b.there one.0 a.there_is b.there_is in
      let lists : entries_of a.world_label.exported a.there ≡ entries_of b.world_label.exported b.there = λ k. entries_of (one.1 k) (worlds k) in
      let entries = same_at (entries_of b.world_label.exported b.there) mine.0 yours.0 (key.Name a.world_label.label, a.held) (key.Name b.world_label.label, b.held) one.2
      (subst (λ (es : List Entry). slice_get es mine.0 ≡ Some (key.Name a.world_label.label, a.held)) lists mine.1) yours.1 in
      let labels : key.Name a.world_label.label ≡ key.Name b.world_label.label = ap (λ (e : Entry). e.0) entries in
      let from : a.world_label.world ≡ b.world_label.world = world_once a.world_label.world b.world_label.world b.w' (a.matched ∙ ap (λ (x : ℕ). Some x) one.0) b.matched in
      let x = stands_at m.other.worlds i a.world_label (Contains-from_lookup (λ u v. eqb-true u v) i a.world_label (world_labels m.other.worlds) a.world_label_is) in
      let y = stands_at m.other.worlds j b.world_label (Contains-from_lookup (λ u v. eqb-true u v) j b.world_label (world_labels m.other.worlds) b.world_label_is) in
      let same_world : x.world ≡ y.world = same_at m.other.worlds a.world_label.world b.world_label.world x.world y.world from x.there y.there in
      let listed : Contains (entries_of b.world_label.exported y.world) (key.Name b.world_label.label, x.held) = subst (λ (e : WorldKey). Contains (entries_of b.world_label.exported y.world) (e, x.held)) labels (subst (λ (es : List Entry). Contains es (key.Name a.world_label.label, x.held)) (λ k. entries_of (one.1 k) (same_world k)) x.listed) in
      let held : x.held ≡ y.held = one_under (entries_of b.world_label.exported y.world) (lists_distinct m.other valid_other b.world_label.world b.world_label.exported y.world y.there) (key.Name b.world_label.label) x.held y.held listed y.listed in
      same_one i j (sym x.is ∙ (ap item_interface held ∙ y.is))

  pub interface_once : (i j i' : ℕ) → counterpart_interface m i ≡ Some i' → counterpart_interface m j ≡ Some i' → i ≡ j
  interface_once i j i' first second =
      let a = some_parts (λ (interface : Interface). counterpart_interface_by m i interface.package interface.name) (slice_get m.other.interfaces i) i' first in
      let b = some_parts (λ (interface : Interface). counterpart_interface_by m j interface.package interface.name) (slice_get m.other.interfaces j) i' second in
      let x = interface_is m valid valid_other i i' first in
      let y = interface_is m valid valid_other j i' second in
      let into : x.into ≡ y.into = some_same x.into y.into (sym x.into_is ∙ y.into_is) in
      let x_is : x.from ≡ a.0 = some_same x.from a.0 (sym x.from_is ∙ a.1) in
      let y_is : y.from ≡ b.0 = some_same y.from b.0 (sym y.from_is ∙ b.1) in
      let names : b.0.name ≡ a.0.name = ap (λ (z : Interface). z.name) (sym y_is) ∙ (sym y.called ∙ (ap (λ (z : Interface). z.name) (sym into) ∙ (x.called ∙ ap (λ (z : Interface). z.name) x_is))) in
      by a.0 b.0 a.1 b.1 a.0.name refl names a.2 (subst (λ (n : Option (List ℕ)). counterpart_interface_by m j b.0.package n ≡ Some i') names b.2)
    where
      by : (a b : Interface) → slice_get m.other.interfaces i ≡ Some a → slice_get m.other.interfaces j ≡ Some b → (n : Option (List ℕ)) → a.name ≡ n → b.name ≡ n → counterpart_interface_by m i a.package n ≡ Some i' → counterpart_interface_by m j b.package n ≡ Some i'
          → i ≡ j
      by a b at there (Some name) called called_so first second = named_once i j i' a b name at there called called_so first second
      by a b at there None called called_so first second = unnamed_once i j i' a.package b.package first second
