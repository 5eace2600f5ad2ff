-- What a merged graph has of each of the two graphs under the same names, and under which names these have what is theirs
-- in it: said of a part, a graph whose things go to places of the merged one.
use Rattle.std.proofs.Common.{◌≡◌, ◌∙◌, ℕ, Bool, true, List, [], ◌∷◌, Option, None, Some, IfSome, IsSomeAnd, slice_get, refl, sym, ap, subst, Contains}
use Rattle.wit_data.specs.Each.{SomeAt}
use Rattle.wit_data.specs.Entries.{is_unnamed, item_interface, entries_of}
use Rattle.wit_data.specs.declared.function.Function.{Function}
use Rattle.wit_data.specs.declared.interface.Interface.{Interface}
use Rattle.wit_names.specs.declared.package_name.PackageName.{PackageName}
use Rattle.wit_data.specs.declared.world.World.{World}
use Rattle.wit_data.specs.declared.world.WorldItem.{WorldItem}
use Rattle.wit_data.specs.declared.world.WorldKey.TheVariants as key
use Rattle.wit_elaboration.specs.Valid.{IsValid}
use Rattle.wit_graph_data.specs.declared.graph.Graph.{Graph}
use Rattle.wit_graph_data.specs.declared.graph.Package.{Package}
use Rattle.wit_graph_theory.specs.facts.ListFacts.{found_at, same_at, some_at}
use Rattle.wit_graph_theory.specs.facts.UnnamedOnceCarried.{unnamed_same}
use Rattle.wit_merge_laws.specs.facts.MatchFacts.{no_name}
use Rattle.wit_merge_laws.specs.laws.Names.{HasName, InterfaceName, IsInterface, IsNamedSo, IsPackage, IsWorld, Name, at_label, in_package, of_export, of_function, of_interface, of_label, of_package, of_type, of_world}
use Rattle.wit_merge_laws.specs.facts.WorldsStand.{entry}

-- ---- parts

-- an interface keeps its name and its package, and all that it has under names
pub record InterfaceRemap (packages : ℕ → ℕ) (old new : Interface) : Type 0 where
  pub name : new.name ≡ old.name
  pub home : (p : ℕ) → old.package ≡ Some p → new.package ≡ Some (packages p)
  pub types : (name : List ℕ) (t : ℕ) → Contains old.types (name, t)
      → (t' : ℕ) × Contains new.types (name, t')
  pub functions : (name : List ℕ) (f : Function) → Contains old.functions (name, f)
      → (f' : Function) × Contains new.functions (name, f')

-- an item that is an interface goes to one that is it, at its place
abbrev pub ItemRemap : (ℕ → ℕ) → WorldItem → WorldItem → Type 0
ItemRemap interfaces old new =
    (i : ℕ) → item_interface old ≡ i ∷ [] → item_interface new ≡ interfaces i ∷ []

-- so does a world, with its labels and what it exports
pub record WorldRemap (packages interfaces : ℕ → ℕ) (old new : World) : Type 0 where
  pub name : new.name ≡ old.name
  pub home : (p : ℕ) → old.package ≡ Some p → new.package ≡ Some (packages p)
  pub labels : (exported : Bool) (label : List ℕ) (held : WorldItem)
      → Contains (entries_of exported old) (entry (key.Name label) held)
      → (there : WorldItem) × Contains (entries_of exported new) (entry (key.Name label) there)
      × ItemRemap interfaces held there
  pub exports : (i : ℕ) (held : WorldItem) → Contains old.exports (entry (key.Interface i) held)
      → (there : WorldItem) × Contains new.exports (entry (key.Interface (interfaces i)) there)

-- what things are remapped to
pub record NewIds : Type 0 where
  pub packages : ℕ → ℕ
  pub interfaces : ℕ → ℕ
  pub worlds : ℕ → ℕ

-- the things of h go to these places of g
pub record MapsInto (h g : Graph) (to : NewIds) : Type 0 where
  pub packages_go : (p : ℕ) (old : Package) → slice_get h.packages p ≡ Some old
      → SomeAt g.packages (to.packages p) (λ (new : Package). new.name ≡ old.name)
  pub interfaces_go : (i : ℕ) (old : Interface) → slice_get h.interfaces i ≡ Some old
      → SomeAt g.interfaces (to.interfaces i) (InterfaceRemap to.packages old)
  pub worlds_go : (w : ℕ) (old : World) → slice_get h.worlds w ≡ Some old
      → SomeAt g.worlds (to.worlds w) (WorldRemap to.packages to.interfaces old)

pub home_is : (P : ℕ → Type 0) (o : Option ℕ) → IsSomeAnd o P → (p : ℕ) × (o ≡ Some p) × P p
home_is P None h = absurd h
home_is P (Some p) h = (p, refl, h)

some_one : (x y : ℕ) → Some x ≡ Some y → x ≡ y
some_one x y same = cc

-- ---- names that are kept

module _ (h g : Graph) (to : NewIds) (part : MapsInto h g to) where
  pub package_goes : (home : PackageName) (p : ℕ) → IsPackage h home p → IsPackage g home (to.packages p)
  package_goes home p is =
      let old = found_at (λ (there : Package). there.name ≡ home) h.packages p is in
      let new = found_at (λ (new : Package). new.name ≡ old.0.name) g.packages (to.packages p) (part.packages_go p old.0 old.1) in
      some_at (λ (there : Package). there.name ≡ home) g.packages (to.packages p) new.0 new.1 (new.2 ∙ old.2)

  pub interface_remapped : (home : PackageName) (name : List ℕ) (i : ℕ) → IsInterface h home name i → IsInterface g home name (to.interfaces i)
  interface_remapped home name i is =
      let old = found_at (λ (interface : Interface). (interface.name ≡ Some name) × (interface.package ≡ Some is.p)) h.interfaces i is.is in
      let new = found_at (InterfaceRemap to.packages old.0) g.interfaces (to.interfaces i) (part.interfaces_go i old.0 old.1) in
      record {
        p = to.packages is.p;
        of = package_goes home is.p is.of;
        is = some_at (λ (interface : Interface). (interface.name ≡ Some name) × (interface.package ≡ Some (to.packages is.p))) g.interfaces (to.interfaces i) new.0 new.1 (new.2.name ∙ old.2.0, new.2.home is.p old.2.1);
      }

  pub world_remapped : (home : PackageName) (name : List ℕ) (w : ℕ) → IsWorld h home name w → IsWorld g home name (to.worlds w)
  world_remapped home name w is =
      let old = found_at (λ (world : World). (world.name ≡ name) × (world.package ≡ Some is.p)) h.worlds w is.is in
      let new = found_at (WorldRemap to.packages to.interfaces old.0) g.worlds (to.worlds w) (part.worlds_go w old.0 old.1) in
      record {
        p = to.packages is.p;
        of = package_goes home is.p is.of;
        is = some_at (λ (world : World). (world.name ≡ name) × (world.package ≡ Some (to.packages is.p))) g.worlds (to.worlds w) new.0 new.1 (new.2.name ∙ old.2.0, new.2.home is.p old.2.1);
      }

  -- what stands under a label
  pub record LabelRemap (w : ℕ) (exported : Bool) (label : List ℕ) (held : WorldItem) : Type 0 where
    pub there : WorldItem
    pub stands : SomeAt g.worlds (to.worlds w)
        (λ (world : World). Contains (entries_of exported world) (entry (key.Name label) there))
    pub goes : ItemRemap to.interfaces held there

  pub label_goes : (w : ℕ) (exported : Bool) (label : List ℕ) (held : WorldItem) → SomeAt h.worlds w (λ (world : World). Contains (entries_of exported world) (entry (key.Name label) held)) → LabelRemap w exported label held
  label_goes w exported label held stands =
      let old = found_at (λ (world : World). Contains (entries_of exported world) (entry (key.Name label) held)) h.worlds w stands in
      let new = found_at (WorldRemap to.packages to.interfaces old.0) g.worlds (to.worlds w) (part.worlds_go w old.0 old.1) in
      let under = new.2.labels exported label held old.2 in
      record {
        there = under.0;
        stands = some_at (λ (world : World). Contains (entries_of exported world) (entry (key.Name label) under.0)) g.worlds (to.worlds w) new.0 new.1 under.1;
        goes = under.2;
      }

  -- an interface without a name still has none
  unnamed_goes : (i : ℕ) → is_unnamed h.interfaces i ≡ true → is_unnamed g.interfaces (to.interfaces i) ≡ true
  unnamed_goes i unnamed =
      let old = no_name h.interfaces i unnamed in
      let new = found_at (InterfaceRemap to.packages old.0) g.interfaces (to.interfaces i) (part.interfaces_go i old.0 old.1) in
      unnamed_same h.interfaces g.interfaces i (to.interfaces i) old.0 new.0 old.1 new.1 new.2.name ∙ unnamed

  pub named_goes : (name : InterfaceName) (i : ℕ) → IsNamedSo h name i → IsNamedSo g name (to.interfaces i)
  named_goes (in_package home name) i is = interface_remapped home name i is
  named_goes (at_label l) i is =
      let stands = label_goes is.w l.exported l.label is.held is.stands in
      record { w = to.worlds is.w; of = world_remapped l.home l.world is.w is.of; held = stands.there; stands = stands.stands; is = stands.goes i is.is; unnamed = unnamed_goes i is.unnamed }

  -- all that h has under names, g has
  pub names_go : (name : Name) → HasName h name → HasName g name
  names_go (of_package home) (p, is) = (to.packages p, package_goes home p is)
  names_go (of_interface name) (i, is) = (to.interfaces i, named_goes name i is)
  names_go (of_world home name) (w, is) = (to.worlds w, world_remapped home name w is)
  names_go (of_type owner name) (i, t, is, has) =
      let old = found_at (λ (interface : Interface). Contains interface.types (name, t)) h.interfaces i has in
      let new = found_at (InterfaceRemap to.packages old.0) g.interfaces (to.interfaces i) (part.interfaces_go i old.0 old.1) in
      let under = new.2.types name t old.2 in
      (to.interfaces i, under.0, named_goes owner i is, some_at (λ (interface : Interface). Contains interface.types (name, under.0)) g.interfaces (to.interfaces i) new.0 new.1 under.1)
  names_go (of_function owner name) (i, f, is, has) =
      let old = found_at (λ (interface : Interface). Contains interface.functions (name, f)) h.interfaces i has in
      let new = found_at (InterfaceRemap to.packages old.0) g.interfaces (to.interfaces i) (part.interfaces_go i old.0 old.1) in
      let under = new.2.functions name f old.2 in
      (to.interfaces i, under.0, named_goes owner i is, some_at (λ (interface : Interface). Contains interface.functions (name, under.0)) g.interfaces (to.interfaces i) new.0 new.1 under.1)
  names_go (of_label l) (w, held, is, has) =
      let stands = label_goes w l.exported l.label held has in
      (to.worlds w, stands.there, world_remapped l.home l.world w is, stands.stands)
  names_go (of_export home world of name) (w, i, held, is, named, has) =
      let old = found_at (λ (there : World). Contains there.exports (entry (key.Interface i) held)) h.worlds w has in
      let new = found_at (WorldRemap to.packages to.interfaces old.0) g.worlds (to.worlds w) (part.worlds_go w old.0 old.1) in
      let under = new.2.exports i held old.2 in (
        to.worlds w,
        to.interfaces i,
        under.0,
        world_remapped home world w is,
        interface_remapped of name i named,
        some_at (λ (there : World). Contains there.exports (entry (key.Interface (to.interfaces i)) under.0)) g.worlds (to.worlds w) new.0 new.1 under.1,
      )

  -- ---- and the way back: a thing at a place has the name of what goes there

  module _ (valid : IsValid h) where
    pub package_back : (home : PackageName) (p : ℕ) (old : Package) → slice_get h.packages p ≡ Some old → IsPackage g home (to.packages p) → IsPackage h home p
    package_back home p old at is =
        let new = found_at (λ (new : Package). new.name ≡ old.name) g.packages (to.packages p) (part.packages_go p old at) in
        let here = found_at (λ (there : Package). there.name ≡ home) g.packages (to.packages p) is in
        let same = same_at g.packages (to.packages p) (to.packages p) new.0 here.0 refl new.1 here.1 in
        some_at (λ (there : Package). there.name ≡ home) h.packages p old at (sym new.2 ∙ (ap (λ (x : Package). x.name) same ∙ here.2))

    pub interface_back : (home : PackageName) (name : List ℕ) (i : ℕ) (old : Interface) → slice_get h.interfaces i ≡ Some old → IsInterface g home name (to.interfaces i) → IsInterface h home name i
    interface_back home name i old at is =
        let new = found_at (InterfaceRemap to.packages old) g.interfaces (to.interfaces i) (part.interfaces_go i old at) in
        let here = found_at (λ (interface : Interface). (interface.name ≡ Some name) × (interface.package ≡ Some is.p)) g.interfaces (to.interfaces i) is.is in
        let same = same_at g.interfaces (to.interfaces i) (to.interfaces i) new.0 here.0 refl new.1 here.1 in
        let mine = home_is _ old.package (valid.well_formed.tables.interfaces_listed i old at) in
        let there = found_at (λ (home : Package). IfSome old.name (λ (n : List ℕ). Contains home.interfaces (n, i))) h.packages mine.0 mine.2 in
        let place : is.p ≡ to.packages mine.0 = some_one is.p (to.packages mine.0) (sym here.2.1 ∙ (ap (λ (x : Interface). x.package) (sym same) ∙ new.2.home mine.0 mine.1)) in
        record {
          p = mine.0;
          of = package_back home mine.0 there.0 there.1 (subst (IsPackage g home) place is.of);
          is = some_at (λ (interface : Interface). (interface.name ≡ Some name) × (interface.package ≡ Some mine.0)) h.interfaces i old at (sym new.2.name ∙ (ap (λ (x : Interface). x.name) same ∙ here.2.0), mine.1);
        }

    pub world_back : (home : PackageName) (name : List ℕ) (w : ℕ) (old : World) → slice_get h.worlds w ≡ Some old → IsWorld g home name (to.worlds w) → IsWorld h home name w
    world_back home name w old at is =
        let new = found_at (WorldRemap to.packages to.interfaces old) g.worlds (to.worlds w) (part.worlds_go w old at) in
        let here = found_at (λ (world : World). (world.name ≡ name) × (world.package ≡ Some is.p)) g.worlds (to.worlds w) is.is in
        let same = same_at g.worlds (to.worlds w) (to.worlds w) new.0 here.0 refl new.1 here.1 in
        let mine = home_is _ old.package (valid.well_formed.tables.worlds_listed w old at) in
        let there = found_at (λ (home : Package). Contains home.worlds (old.name, w)) h.packages mine.0 mine.2 in
        let place : is.p ≡ to.packages mine.0 = some_one is.p (to.packages mine.0) (sym here.2.1 ∙ (ap (λ (x : World). x.package) (sym same) ∙ new.2.home mine.0 mine.1)) in
        record {
          p = mine.0;
          of = package_back home mine.0 there.0 there.1 (subst (IsPackage g home) place is.of);
          is = some_at (λ (world : World). (world.name ≡ name) × (world.package ≡ Some mine.0)) h.worlds w old at (sym new.2.name ∙ (ap (λ (x : World). x.name) same ∙ here.2.0), mine.1);
        }

    -- one that has no name there has none
    pub unnamed_back : (i : ℕ) (old : Interface) → slice_get h.interfaces i ≡ Some old → is_unnamed g.interfaces (to.interfaces i) ≡ true → is_unnamed h.interfaces i ≡ true
    unnamed_back i old at unnamed =
        let new = found_at (InterfaceRemap to.packages old) g.interfaces (to.interfaces i) (part.interfaces_go i old at) in
        sym (unnamed_same h.interfaces g.interfaces i (to.interfaces i) old new.0 at new.1 new.2.name) ∙ unnamed
