-- No two interfaces of a package that are active go to one interface, so keys that differ go to keys that differ.
use Rattle.std.proofs.Common.{◌≡◌, ◌∙◌, ℕ, ◌<◌, if◌then◌else◌, Bool, true, false, List, length, nat_eq, Option, None, Some, option_and_then, IsSome, slice_get, refl, sym, ap, subst, inl, inr, arith, Contains}
use Rattle.std.specs.List.{list_any}
use Rattle.std.specs.Map.{lookup}
use Rattle.std.specs.Str.{bytes_eq}
use Rattle.std.proofs.lemmas.Bool.{cases_Bool}
use Rattle.std.proofs.lemmas.Map.Views.{Contains-from_lookup}
use Rattle.std.proofs.lemmas.Option.{slice_get_within}
use Rattle.std.proofs.lemmas.Slice.Eq.{bytes_eq-Decides}
use Rattle.wit_data.specs.Foreign.{ForeignItem, interface_id}
use Rattle.wit_names.specs.facts.PackageNameFacts.{same_name}
use Rattle.wit_names.specs.PackageName.{same_package}
use Rattle.wit_data.specs.Shape.{IsShaped}
use Rattle.wit_data.specs.declared.interface.Interface.{Interface}
use Rattle.wit_names.specs.declared.package_name.PackageName.{PackageName}
use Rattle.wit_data.specs.declared.world.WorldKey.{WorldKey}
use Rattle.wit_data.specs.declared.unresolved.AstItem.TheVariants as named
use Rattle.wit_data.specs.declared.world.WorldKey.TheVariants as key
use Rattle.wit_elaboration.specs.Valid.{IsValid}
use Rattle.wit_graph_data.specs.declared.graph.Graph.{Graph}
use Rattle.wit_graph_data.specs.declared.graph.Package.{Package}
use Rattle.wit_remap_spec.specs.Image.{key_image}
use Rattle.wit_graph_theory.specs.facts.ListFacts.{found_at, get_at, place_of, same_at}
use Rattle.wit_link_spec.specs.Addition.{Addition, addition_maps, own_interface, remapped_interface}
use Rattle.wit_link_spec.specs.facts.ClosedCut.{closed_part}
use Rattle.wit_link_spec.specs.facts.ForeignFound.{find-passes, interface_found, interface_of, named_at}
use Rattle.wit_link_spec.specs.Gates.{interface_is_active, is_foreign_interface}
use Rattle.wit_link_spec.specs.Lookup.{find_interface, find_package, foreign_interface_id, named_items, naming_item}
use Rattle.wit_link_spec.specs.facts.OwnThingFacts.{own_of_both}
use Rattle.wit_link_spec.specs.facts.RankFacts.{rank-injective}
use Rattle.wit_link_spec.specs.Reasons.{IsResolved}
use Rattle.wit_link_spec.specs.facts.Standing.{foreign_interface_remapped, own_interface_remapped}

-- ---- what is found is found under one name

-- an interface that is found, with the package in which it is
record IsFound (g : Graph) (home : PackageName) (name : List ℕ) (i : ℕ) : Type 0 where
  p : ℕ
  interface : Interface
  there : slice_get g.interfaces i ≡ Some interface
  called : interface.name ≡ Some name
  of : interface.package ≡ Some p
  holder : Package
  at : slice_get g.packages p ≡ Some holder
  home_is : holder.name ≡ home

found_is : (g : Graph) → IsValid g → (own home : PackageName) (name : List ℕ) (i : ℕ) → find_interface g own home name ≡ Some i → IsFound g home name i
found_is g valid own home name i found = in_package (find_package g own home) refl found
  where
    listed : (b : Bool) (p : ℕ) → (if b then None else lookup (same_package home) g.package_names) ≡ Some p → lookup (same_package home) g.package_names ≡ Some p
    listed true p h = cc
    listed false p h = h

    in_table : (p : ℕ) → find_package g own home ≡ Some p → (o : Option Package) → slice_get g.packages p ≡ o → option_and_then (λ (there : Package). lookup (bytes_eq name) there.interfaces) o ≡ Some i → IsFound g home name i
    in_table p finds None at h = cc
    in_table p finds (Some there) at h =
        let has = Contains-from_lookup (λ x y. (bytes_eq-Decides x y).0) name i there.interfaces h in
        let place = place_of there.interfaces (name, i) has in
        let is = found_at (λ (interface : Interface). (interface.name ≡ Some name) × (interface.package ≡ Some p)) g.interfaces i (valid.well_formed.tables.interface_tables p there at place.0 (name, i) place.1) in
        let names = Contains-from_lookup (λ x y. same_name x y) home p g.package_names (listed (same_package own home) p finds) in
        let entry = place_of g.package_names (home, p) names in
        let own_name = found_at (λ (x : Package). x.name ≡ home) g.packages p (valid.well_formed.package_names.own_name entry.0 (home, p) entry.1) in
        record { p = p; interface = is.0; there = is.1; called = is.2.0; of = is.2.1; holder = own_name.0; at = own_name.1; home_is = own_name.2 }

    in_package : (o : Option ℕ) → find_package g own home ≡ o → option_and_then (λ p. option_and_then (λ (there : Package). lookup (bytes_eq name) there.interfaces) (slice_get g.packages p)) o ≡ Some i
        → IsFound g home name i
    in_package None finds h = cc
    in_package (Some p) finds h = in_table p finds (slice_get g.packages p) refl h

-- so one interface is found under one name alone
one_name : (g : Graph) (home home' : PackageName) (name name' : List ℕ) (i j : ℕ) → i ≡ j → IsFound g home name i → IsFound g home' name' j → (home ≡ home') × (name ≡ name')
one_name g home home' name name' i j same a b =
    let one = same_at g.interfaces i j a.interface b.interface same a.there b.there in
    let names : Some name ≡ Some name' = sym a.called ∙ ap (λ (x : Interface). x.name) one ∙ b.called in
    let homes : Some a.p ≡ Some b.p = sym a.of ∙ ap (λ (x : Interface). x.package) one ∙ b.of in
    let place : a.p ≡ b.p = cc in
    let packages = same_at g.packages a.p b.p a.holder b.holder place a.at b.at in
    let called : name ≡ name' = cc in
    (sym a.home_is ∙ ap (λ (x : Package). x.name) packages ∙ b.home_is, called)

some_same : (i j : ℕ) → Some i ≡ Some j → i ≡ j
some_same i j h = cc

module _ (a : Addition) (valid : IsValid a.graph) (shaped : IsShaped a.unresolved) (image : IsResolved a) where
  -- an interface that is active is there
  pub active_there : (f : ℕ) → interface_is_active a.features a.unresolved f ≡ true → (interface : Interface) × (slice_get a.unresolved.interfaces f ≡ Some interface)
  active_there f active = get_at a.unresolved.interfaces f ((closed_part a shaped image).interfaces_in_range f active)

  -- a foreign one goes to one of the graph
  pub foreign_within : (f : ℕ) → is_foreign_interface a.unresolved f ≡ true → interface_is_active a.features a.unresolved f ≡ true → remapped_interface a f < length a.graph.interfaces
  foreign_within f foreign active =
      let there = active_there f active in
      let goes = foreign_interface_remapped a valid shaped image f there.0 there.1 foreign active in
      let found = found_at (λ (interface : Interface). IsSome interface.name × (interface.name ≡ there.0.name)) a.graph.interfaces (remapped_interface a f) goes.1 in
      slice_get_within a.graph.interfaces (remapped_interface a f) found.0 found.1

  -- under what it is named there
  record IsNamedThere (f : ℕ) : Type 0 where
    e : ℕ × PackageName × ForeignItem
    names : naming_item interface_id a.unresolved f ≡ Some e
    found : IsFound a.graph e.1 e.2.0 (remapped_interface a f)

  named_there : (f : ℕ) → is_foreign_interface a.unresolved f ≡ true → interface_is_active a.features a.unresolved f ≡ true → IsNamedThere f
  named_there f foreign active =
      let there = active_there f active in
      let is = interface_found a shaped image f foreign active in
      let goes = (foreign_interface_remapped a valid shaped image f there.0 there.1 foreign active).0 in
      let finds : foreign_interface_id a.graph a.unresolved f ≡ Some is.1 = ap (λ (o : Option (ℕ × PackageName × ForeignItem)). option_and_then (λ (e : ℕ × PackageName × ForeignItem). find_interface a.graph a.unresolved.name e.1 e.2.0) o) is.2 ∙ is.3 in
      let same : is.1 ≡ remapped_interface a f = some_same is.1 (remapped_interface a f) (sym finds ∙ goes) in
      record { e = is.0; names = is.2; found = found_is a.graph valid a.unresolved.name is.0.1 is.0.2.0 (remapped_interface a f) (subst (λ (i : ℕ). find_interface a.graph a.unresolved.name is.0.1 is.0.2.0 ≡ Some i) same is.3) }

  foreign_apart : (f g : ℕ) → IsNamedThere f → IsNamedThere g → remapped_interface a f ≡ remapped_interface a g → f ≡ g
  foreign_apart f g x y same =
      let names = one_name a.graph x.e.1 y.e.1 x.e.2.0 y.e.2.0 (remapped_interface a f) (remapped_interface a g) same x.found y.found in
      let first = find-passes (λ (e : ℕ × PackageName × ForeignItem). list_any (nat_eq f) (interface_id e.2.1.0)) (named_items a.unresolved.foreign_deps) x.e x.names in
      let second = find-passes (λ (e : ℕ × PackageName × ForeignItem). list_any (nat_eq g) (interface_id e.2.1.0)) (named_items a.unresolved.foreign_deps) y.e y.names in
      let at = named_at a.unresolved.foreign_deps x.e first.0 in
      let at' = named_at a.unresolved.foreign_deps y.e second.0 in
      let place : x.e.0 ≡ y.e.0 = shaped.keys.packages x.e.0 y.e.0 (x.e.1, at.0) (y.e.1, at'.0) at.1 at'.1 names.0 in
      let homes = same_at a.unresolved.foreign_deps x.e.0 y.e.0 (x.e.1, at.0) (y.e.1, at'.0) place at.1 at'.1 in
      let items : at.0 ≡ at'.0 = ap (λ (h : PackageName × List ForeignItem). h.1) homes in
      let spot = place_of at.0 x.e.2 at.2 in
      let spot' = place_of at.0 y.e.2 (subst (λ (l : List ForeignItem). Contains l y.e.2) (sym items) at'.2) in
      let index = shaped.keys.items x.e.0 (x.e.1, at.0) at.1 spot.0 spot'.0 x.e.2 y.e.2 spot.1 spot'.1 names.1 in
      let one = same_at at.0 spot.0 spot'.0 x.e.2 y.e.2 index spot.1 spot'.1 in
      let both : named.Interface f ≡ named.Interface g = sym (interface_of f x.e.2.1.0 first.1) ∙ ap (λ (i : ForeignItem). i.1.0) one ∙ interface_of g y.e.2.1.0 second.1 in
      cc

  own_both : (f : ℕ) → is_foreign_interface a.unresolved f ≡ false → interface_is_active a.features a.unresolved f ≡ true → own_interface a f ≡ true
  own_both f own active = own_of_both (is_foreign_interface a.unresolved f) (interface_is_active a.features a.unresolved f) own active

  -- what is active goes apart
  pub interfaces_apart : (f g : ℕ) → interface_is_active a.features a.unresolved f ≡ true → interface_is_active a.features a.unresolved g ≡ true → remapped_interface a f ≡ remapped_interface a g → f ≡ g
  interfaces_apart f g active other same = elim (cases_Bool (is_foreign_interface a.unresolved f)) [
    | inl foreign ↦ elim (cases_Bool (is_foreign_interface a.unresolved g)) [
      | inl both ↦ foreign_apart f g (named_there f foreign active) (named_there g both other) same
      | inr own ↦
          let low = foreign_within f foreign active in
          let high = own_interface_remapped a g (own_both g own other) in
          absurd (omega arith)
    ]
    | inr own ↦ elim (cases_Bool (is_foreign_interface a.unresolved g)) [
      | inl foreign ↦
          let low = foreign_within g foreign other in
          let high = own_interface_remapped a f (own_both f own active) in
          absurd (omega arith)
      | inr both ↦
          let first = own_interface_remapped a f (own_both f own active) in
          let second = own_interface_remapped a g (own_both g both other) in
          rank-injective (own_interface a) f g (own_both f own active) (own_both g both other) (omega arith)
    ]
  ]

  -- the interface of a key is active
  abbrev pub KeyIsActive : WorldKey → Type 0
  KeyIsActive (key.Name label) = Unit {0}
  KeyIsActive (key.Interface f) = interface_is_active a.features a.unresolved f ≡ true

  -- keys that go to one key are one
  pub keys_apart : (w : ℕ) (j k : WorldKey) → KeyIsActive j → KeyIsActive k → key_image (addition_maps a) w j ≡ key_image (addition_maps a) w k → j ≡ k
  keys_apart w (key.Name m) (key.Name n) first second same = same
  keys_apart w (key.Name m) (key.Interface g) first second same = cc
  keys_apart w (key.Interface f) (key.Name n) first second same = cc
  keys_apart w (key.Interface f) (key.Interface g) first second same = ap key.Interface (interfaces_apart f g first second (inside (remapped_interface a f) (remapped_interface a g) same))
    where
      inside : (i j : ℕ) → key.Interface i ≡ key.Interface j → i ≡ j
      inside i j h = cc
