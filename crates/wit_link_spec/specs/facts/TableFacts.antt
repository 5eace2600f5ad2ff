-- The tables of packages when a package is added: what was there stays, and the new package's table holds its named
-- interfaces. What concerns the new worlds is a premise.
use Rattle.std.proofs.Common.{◌≡◌, ◌∙◌, inl, inr, ℕ, ◌+◌, zero, suc, List, [], ◌∷◌, ◌++◌, map, length, option_map, Option, None, Some, IsSomeAnd, IfSome, slice_get, refl, sym, ap, subst, arith, Contains}
use Rattle.wit_values.specs.facts.Lists.{slice_get-push}
use Rattle.wit_values.specs.Table.{HasDistinctKeys}
use Rattle.wit_data.specs.Each.{Each, EachAt, SomeAt}
use Rattle.wit_data.specs.Shape.{IsShaped}
use Rattle.wit_data.specs.declared.interface.Interface.{Interface}
use Rattle.wit_data.specs.declared.world.World.{World}
use Rattle.wit_elaboration.specs.Valid.{IsInTable, IsInterfaceOf, IsValid, IsWorldInTable, IsWorldOf}
use Rattle.wit_graph_data.specs.declared.graph.Graph.{Graph}
use Rattle.wit_graph_data.specs.declared.graph.Package.{Package}
use Rattle.wit_remap_spec.specs.Kept.{cut_interface}
use Rattle.wit_graph_theory.specs.facts.DependencyFacts.{filter_map_into}
use Rattle.wit_graph_theory.specs.facts.Good.{IsGoodPackage}
use Rattle.wit_graph_theory.specs.facts.GoodIsValid.{good_things}
use Rattle.wit_graph_theory.specs.facts.GoodTypes.{if_some}
use Rattle.wit_remap_spec.specs.Image.{interface_image}
use Rattle.wit_graph_theory.specs.facts.ListFacts.{SomeAt-old, contained_at, found_at, from_map, old_or_new, some_at}
use Rattle.wit_graph_theory.specs.laws.Theory.{HasGoodTables}
use Rattle.wit_link_spec.specs.Addition.{Addition, addition_maps, own_interface, own_interfaces, remapped_interface}
use Rattle.wit_remap_spec.specs.Selected.{rank, selected_with_index}
use Rattle.wit_link_spec.specs.facts.ActivePart.{part}
use Rattle.wit_link_spec.specs.Added.{new_package, with_parts}
use Rattle.wit_link_spec.specs.facts.RankFacts.{selected_with_index-at}
use Rattle.wit_link_spec.specs.Reasons.{IsResolved}
use Rattle.wit_link_spec.specs.facts.NamesOnce.{distinct_interfaces, table_entry}
use Rattle.wit_link_spec.specs.facts.OwnThingFacts.{own_interface_from}
use Rattle.wit_link_spec.specs.facts.Grown.{IsGrown, part_at}
use Rattle.wit_link_spec.specs.facts.ListedStage.{listed_parts}
use Rattle.wit_link_spec.specs.facts.PartsStand.{old_interface_at, own_interface_at}

-- what holds of each of a list and of one more
pub each_pushed : {X : Type 0} (P : ℕ → X → Type 0) (xs : List X) (x : X) → EachAt P xs → P (length xs) x → EachAt P (xs ++ x ∷ [])
each_pushed {X} P xs x old new i y on =
    elim (old_or_new xs (x ∷ []) i y on) [
      | inl before ↦ old i y before
      | inr later ↦ last later.0 later.1 later.2
    ]
  where
    last : (k : ℕ) → i ≡ length xs + k → slice_get (x ∷ []) k ≡ Some y → P i y
    last zero place at = let same : x ≡ y = cc in let here : length xs ≡ i = omega arith in subst (P i) same (subst (λ (n : ℕ). P n x) here new)
    last (suc k) place at = cc

-- a table that holds what is there still does
in_longer : (packages : List Package) (more : Package) (o : Option ℕ) (P : Package → Type 0) → IsSomeAnd o (λ p. SomeAt packages p P) → IsSomeAnd o (λ p. SomeAt (packages ++ more ∷ []) p P)
in_longer packages more None P holds = holds
in_longer packages more (Some p) P holds = SomeAt-old P P packages (more ∷ []) p (λ home is. is) holds

module _ (a : Addition) (valid : IsValid a.graph) (shaped : IsShaped a.unresolved) (image : IsResolved a) (count : ℕ) (new : Graph) (are : IsGrown a count new) where
  pub new_package_at : slice_get new.packages (length a.graph.packages) ≡ Some (new_package a)
  new_package_at = ap (λ (l : List Package). slice_get l (length a.graph.packages)) are.packages_are ∙ slice_get-push a.graph.packages (new_package a)

  -- ---- interfaces

  abbrev Tabled : ℕ → Interface → Package → Type 0
  Tabled i interface home = IfSome interface.name (λ name. Contains home.interfaces (name, i))

  -- one that has a name stands in the new table
  new_interface_tabled : (i : ℕ) (cut : Interface) → slice_get (own_interfaces a) i ≡ Some cut → IfSome cut.name (λ name. Contains (new_package a).interfaces (name, length a.graph.interfaces + i))
  new_interface_tabled i cut on =
      let own = own_interface_from a i cut on in
      let taken = selected_with_index-at (own_interface a) a.unresolved.interfaces own.f own.interface own.there own.own in
      if_some (λ (name : List ℕ). Contains (new_package a).interfaces (name, length a.graph.interfaces + i)) cut.name
      (λ name called.
      let named : own.interface.name ≡ Some name = ap (λ (x : Interface). x.name) own.is ∙ called in
      let pair : List ℕ × ℕ = (name, remapped_interface a own.f) in
      let gives : option_map (λ (name : List ℕ). let r : List ℕ × ℕ = (name, remapped_interface a own.f) in r) own.interface.name ≡ Some pair = ap (option_map (λ (name : List ℕ). let r : List ℕ × ℕ = (name, remapped_interface a own.f) in r)) named in
      subst (λ (n : ℕ). Contains (new_package a).interfaces (name, n)) own.place
      (filter_map_into (λ (e : ℕ × Interface). option_map (λ (name : List ℕ). let r : List ℕ × ℕ = (name, remapped_interface a e.0) in r) e.1.name) (selected_with_index (own_interface a) a.unresolved.interfaces) (own.f, own.interface) pair
      (contained_at (selected_with_index (own_interface a) a.unresolved.interfaces) (rank (own_interface a) own.f) (own.f, own.interface) taken) gives))

  pub interfaces_in_tables : EachAt (IsInTable new.packages) new.interfaces
  interfaces_in_tables i interface on =
      subst (λ (packages : List Package). IsInTable packages i interface) (sym are.packages_are)
      (elim (old_or_new (with_parts a).interfaces are.interfaces i interface (subst (λ (l : List Interface). slice_get l i ≡ Some interface) are.interfaces_are on)) [
        | inl part ↦ elim (old_or_new a.graph.interfaces (map (interface_image (addition_maps a)) (own_interfaces a)) i interface part) [
          | inl old ↦ in_longer a.graph.packages (new_package a) interface.package (Tabled i interface) (valid.well_formed.tables.interfaces_listed i interface old)
          | inr later ↦
              let from = from_map (interface_image (addition_maps a)) (own_interfaces a) later.0 interface later.2 in
              let here : IsInTable (a.graph.packages ++ new_package a ∷ []) (length a.graph.interfaces + later.0) (interface_image (addition_maps a) from.0) =
              some_at (Tabled (length a.graph.interfaces + later.0) (interface_image (addition_maps a) from.0)) (a.graph.packages ++ new_package a ∷ []) (length a.graph.packages) (new_package a)
              (slice_get-push a.graph.packages (new_package a)) (new_interface_tabled later.0 from.0 from.1) in
              subst (λ (n : ℕ). IsInTable (a.graph.packages ++ new_package a ∷ []) n interface) (sym later.1)
              (subst (IsInTable (a.graph.packages ++ new_package a ∷ []) (length a.graph.interfaces + later.0)) from.2 here)
        ]
        | inr copy ↦
            let is = are.copies copy.0 interface copy.2 in
            subst (λ (o : Option ℕ). IsSomeAnd o (λ p. SomeAt (a.graph.packages ++ new_package a ∷ []) p (Tabled i interface))) (sym is.1)
            (some_at (Tabled i interface) (a.graph.packages ++ new_package a ∷ []) (length a.graph.packages) (new_package a) (slice_get-push a.graph.packages (new_package a))
            (subst (λ (o : Option (List ℕ)). IfSome o (λ name. Contains (new_package a).interfaces (name, i))) (sym is.0) tt))
      ])

  -- ---- packages

  -- a package that was there is as it was
  pub old_package_good : (p : ℕ) (home : Package) → slice_get a.graph.packages p ≡ Some home → IsGoodPackage new.interfaces new.worlds p home
  old_package_good p home at =
      let is = (good_things a.graph valid).packages p home at in
      record {
        interfaces_are = λ i e on.
            let found = found_at (λ (interface : Interface). (interface.name ≡ Some e.0) × (interface.package ≡ Some p)) a.graph.interfaces e.1 (is.interfaces_are i e on) in
            some_at (λ (interface : Interface). (interface.name ≡ Some e.0) × (interface.package ≡ Some p)) new.interfaces e.1 found.0 (part_at a count new are e.1 found.0 (old_interface_at a valid shaped image (with_parts a).types (with_parts a).interfaces (listed_parts a) e.1 found.0 found.1)) found.2;
        worlds_are = λ i e on.
            subst (λ (worlds : List World). IsWorldOf worlds p e.0 e.1) (sym are.worlds_are)
            (SomeAt-old (λ (world : World). (world.name ≡ e.0) × (world.package ≡ Some p)) (λ (world : World). (world.name ≡ e.0) × (world.package ≡ Some p)) a.graph.worlds are.done e.1 (λ world is. is) (is.worlds_are i e on));
        distinct_interfaces = is.distinct_interfaces;
        distinct_worlds = is.distinct_worlds;
        namespace = is.namespace;
        name = is.name;
        version = is.version;
      }

  new_interfaces_are : Each (λ (e : List ℕ × ℕ). IsInterfaceOf new.interfaces (length a.graph.packages) e.0 e.1) (new_package a).interfaces
  new_interfaces_are i e on =
      let entry = table_entry a shaped i e on in
      let there = part_at a count new are (remapped_interface a entry.f) _ (own_interface_at a valid shaped image (with_parts a).types (with_parts a).interfaces (listed_parts a) entry.f entry.interface entry.there entry.own) in
      subst (IsInterfaceOf new.interfaces (length a.graph.packages) e.0) entry.place
      (some_at (λ (interface : Interface). (interface.name ≡ Some e.0) × (interface.package ≡ Some (length a.graph.packages))) new.interfaces (remapped_interface a entry.f) (interface_image (addition_maps a) (cut_interface (part a) entry.interface)) there (entry.name, refl))

  module _ (worlds_are : Each (λ (e : List ℕ × ℕ). IsWorldOf new.worlds (length a.graph.packages) e.0 e.1) (new_package a).worlds) (distinct_worlds : HasDistinctKeys (new_package a).worlds) where
    -- so is the new one, where its worlds are
    new_package_good : IsGoodPackage new.interfaces new.worlds (length a.graph.packages) (new_package a)
    new_package_good = record {
      interfaces_are = new_interfaces_are;
      worlds_are = worlds_are;
      distinct_interfaces = distinct_interfaces a shaped;
      distinct_worlds = distinct_worlds;
      namespace = shaped.names.namespace;
      name = shaped.names.own;
      version = shaped.names.version;
    }

    pub good_tables : EachAt (IsWorldInTable new.packages) new.worlds → HasGoodTables new
    good_tables worlds = record {
      packages = subst (λ (packages : List Package). EachAt (IsGoodPackage new.interfaces new.worlds) packages) (sym are.packages_are)
          (each_pushed (IsGoodPackage new.interfaces new.worlds) a.graph.packages (new_package a) old_package_good new_package_good);
      interfaces = interfaces_in_tables;
      worlds = worlds;
    }
