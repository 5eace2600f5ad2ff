-- The packages of a merged graph: their tables hold its interfaces and worlds under their names and nothing else, and
-- they are listed under their names.
use Rattle.std.proofs.Common.{◌≡◌, ◌∙◌, ℕ, ◌+◌, Bool, true, false, not, List, [], ◌∷◌, ◌++◌, inl, inr, cond, map, filter, length, is_some, Option, None, Some, option_and_then, option_map, slice_get, refl, sym, ap, subst, arith, Contains}
use Rattle.std.specs.Cmp.Lexicographic.{nat_list_eq_equiv}
use Rattle.std.specs.List.{enumerate_from}
use Rattle.std.specs.Map.{lookup}
use Rattle.std.specs.Option.{option_map_or}
use Rattle.std.specs.Prelude.{IfSome, IsSomeAnd, bytes_eq}
use Rattle.std.proofs.lemmas.Bool.{cases_Bool, false≢true}
use Rattle.std.proofs.lemmas.List.{length-map}
use Rattle.std.proofs.lemmas.List.Elements.{Contains-append_cases, Contains-append_left, Contains-append_right}
use Rattle.wit_values.specs.facts.Lists.{slice_get-append}
use Rattle.wit_digraph.specs.facts.MemberFacts.{Contains-cons_cases, Contains-nil}
use Rattle.wit_data.specs.Each.{EachAt, SomeAt}
use Rattle.wit_names.specs.facts.PackageNameFacts.{own_name}
use Rattle.wit_names.specs.PackageName.{same_package}
use Rattle.wit_data.specs.declared.interface.Interface.{Interface}
use Rattle.wit_names.specs.declared.package_name.PackageName.{PackageName}
use Rattle.wit_data.specs.declared.world.World.{World}
use Rattle.wit_elaboration.specs.facts.Filters.{Contains-filter, Contains-filtered}
use Rattle.wit_elaboration.specs.Valid.{HasPackageNames, IsInTable, IsInterfaceOf, IsValid, IsWorldInTable, IsWorldOf}
use Rattle.wit_graph_data.specs.declared.graph.Package.{Package}
use Rattle.wit_elaboration.specs.AllElaborated.{elaborated_world}
use Rattle.wit_graph_theory.specs.facts.CutIsGood.{distinct_kept}
use Rattle.wit_graph_theory.specs.facts.Good.{IsGoodPackage}
use Rattle.wit_remap_spec.specs.Image.{interface_image, world_image}
use Rattle.wit_graph_theory.specs.facts.ImagesCome.{distinct_map}
use Rattle.wit_graph_theory.specs.facts.ListFacts.{Contains-map, Contains-map_cases, at_map, at_new, contained_at, found_at, from_map, old_or_new, place_of, some_at}
use Rattle.wit_graph_theory.specs.facts.OptionFacts.{none_there, some_by, some_same}
use Rattle.wit_graph_theory.specs.facts.PackagesAcyclic.{length-numbered, numbered_from, numbered_into}
use Rattle.wit_graph_theory.specs.laws.Theory.{HasGoodTables}
use Rattle.wit_link_spec.specs.facts.RankFacts.{selected-at, selected_with_index-from}
use Rattle.wit_remap_spec.specs.Selected.{rank, selected, selected_with_index}
use Rattle.wit_link_spec.specs.facts.KeysApart.{joined_apart}
use Rattle.wit_merge_spec.specs.Merged.{joined_graph, package_image, merged, with_package, with_world, merge_maps, merged_interface, merged_package, merged_world}
use Rattle.wit_merge_spec.specs.Matches.{GraphMerge, counterpart_interface, counterpart_interface_by, counterpart_of, counterpart_package, counterpart_world, named_in_counterpart}
use Rattle.wit_merge_laws.specs.facts.InterfacesStand as interfaces
use Rattle.wit_merge_laws.specs.facts.InterfacesStand.{counterpart_from, counterpart_is}
use Rattle.wit_merge_laws.specs.facts.ListedStand as worlds
use Rattle.wit_merge_laws.specs.facts.MatchFacts.{goes_to, package_is}
use Rattle.wit_merge_laws.specs.facts.MatchedOnce.{package_once}
use Rattle.wit_merge_laws.specs.facts.TypesStand.{matched_some, moved_next}
use Rattle.wit_merge_spec.specs.steps.Parts.{joined_interface, joined_world, joined_package, moves_interface, moves_world, moves_package}

-- a key that is looked up in vain isn't there
in_vain : {K V : Type 0} (test : K → Bool) (k : K) (v : V) (es : List (K × V)) → test k ≡ true → lookup test es ≡ None → Contains es (k, v) → ⊥
in_vain test k v [] passes none has = Contains-nil has
in_vain {K} {V} test k v (e ∷ es) passes none has = by (test e.0) refl none (in_vain test k v es passes)
  where
    by : (b : Bool) → test e.0 ≡ b → cond b (Some e.1) (lookup test es) ≡ None → (lookup test es ≡ None → Contains es (k, v) → ⊥) → ⊥
    by true is none rest = cc
    by false is none rest = elim (Contains-cons_cases e (k, v) es has) [
      | inl same ↦ false≢true (sym is ∙ (ap (λ (p : K × V). test p.0) same ∙ passes))
      | inr there ↦ rest none there
    ]

same_bytes : (n : List ℕ) → bytes_eq n n ≡ true
same_bytes n = nat_list_eq_equiv.refl n

-- ---- where packages stand

module _ (m : GraphMerge) where
  abbrev old_packages : List Package
  old_packages = map (joined_package m) (enumerate_from 0 m.graph.packages)

  abbrev images : List Package
  images = map (package_image m) (selected (moves_package m) m.other.packages)

  long_old : length old_packages ≡ length m.graph.packages
  long_old = length-map (enumerate_from 0 m.graph.packages) (joined_package m) ∙ length-numbered 0 m.graph.packages

  pub old_package_at : (p : ℕ) (home : Package) → slice_get m.graph.packages p ≡ Some home → slice_get (merged m).packages p ≡ Some (joined_package m (p, home))
  old_package_at p home at =
      let place : 0 + p ≡ p = omega arith in
      slice_get-append old_packages images p (joined_package m (p, home))
      (at_map (joined_package m) (enumerate_from 0 m.graph.packages) p (p, home) (numbered_into 0 m.graph.packages p home at ∙ ap (λ (n : ℕ). Some (n, home)) place))

  moved_package_remapped : (p : ℕ) → moves_package m p ≡ true → merged_package m p ≡ length m.graph.packages + rank (moves_package m) p
  moved_package_remapped p moves = moved_next (counterpart_package m p) _ moves

  pub new_package_at : (p : ℕ) (home : Package) → slice_get m.other.packages p ≡ Some home → moves_package m p ≡ true → slice_get (merged m).packages (merged_package m p) ≡ Some (package_image m home)
  new_package_at p home at moves =
      let goes = moved_package_remapped p moves in
      let long = long_old in
      at_new old_packages images (rank (moves_package m) p) (merged_package m p) (package_image m home) (omega (arith, goes, long))
      (at_map (package_image m) (selected (moves_package m) m.other.packages) (rank (moves_package m) p) home (selected-at (moves_package m) m.other.packages p home at moves))

  pub data PackageFrom (p' : ℕ) (new : Package) : Type 0 where
    of_graph : (old : Package) → slice_get m.graph.packages p' ≡ Some old
        → joined_package m (p', old) ≡ new → PackageFrom p' new
    of_other : (p : ℕ) (old : Package) → slice_get m.other.packages p ≡ Some old
        → moves_package m p ≡ true → p' ≡ merged_package m p → package_image m old ≡ new
        → PackageFrom p' new

  pub package_at_from : (p' : ℕ) (new : Package) → slice_get (merged m).packages p' ≡ Some new → PackageFrom p' new
  package_at_from p' new at =
      elim (old_or_new old_packages images p' new at) [
        | inl old ↦
            let from = from_map (joined_package m) (enumerate_from 0 m.graph.packages) p' new old in
            let is = numbered_from 0 m.graph.packages p' from.0 from.1 in
            let place : from.0.0 ≡ p' = let n = is.0 in omega (arith, n) in
            of_graph from.0.1 is.1 (ap (λ (k : ℕ). joined_package m (k, from.0.1)) (sym place) ∙ from.2)
        | inr behind ↦
            let from = from_map (package_image m) (selected (moves_package m) m.other.packages) behind.0 new behind.2 in
            let e = from_map (λ (e : ℕ × Package). e.1) (selected_with_index (moves_package m) m.other.packages) behind.0 from.0 from.1 in
            let is = selected_with_index-from (moves_package m) m.other.packages behind.0 e.0 e.1 in
            let goes = moved_package_remapped e.0.0 is.1 in
            let long = long_old in
            let n = behind.1 in
            let r = is.2 in
            of_other e.0.0 from.0 (is.0 ∙ ap (λ (d : Package). Some d) e.2) is.1 (omega (arith, goes, long, n, r)) from.2
      ]

  -- what a joined package keeps
  pub record KeepsPackage (old new : Package) : Type 0 where
    pub name : new.name ≡ old.name
    interfaces : (e : List ℕ × ℕ) → Contains old.interfaces e → Contains new.interfaces e
    worlds : (e : List ℕ × ℕ) → Contains old.worlds e → Contains new.worlds e

  pub package_keeps : (e : ℕ × Package) → KeepsPackage e.1 (joined_package m e)
  package_keeps e = by (counterpart_of (counterpart_package m) m.other.packages e.0)
    where
      by : (o : Option (ℕ × Package)) → KeepsPackage e.1 (option_map_or (λ (p : ℕ × Package). with_package m p.1 e.1) o e.1)
      by None = record { name = refl; interfaces = λ x has. has; worlds = λ x has. has }
      by (Some p) = record { name = refl; interfaces = λ x has. Contains-append_left e.1.interfaces _ x has; worlds = λ x has. Contains-append_left e.1.worlds _ x has }

  pub world_keeps : (e : ℕ × World) → ((joined_world m e).name ≡ e.1.name) × ((joined_world m e).package ≡ e.1.package)
  world_keeps e = by (counterpart_of (counterpart_world m) m.other.worlds e.0)
    where
      by : (o : Option (ℕ × World)) → ((option_map_or (λ (p : ℕ × World). with_world m p e.1) o e.1).name ≡ e.1.name) × ((option_map_or (λ (p : ℕ × World). with_world m p e.1) o e.1).package ≡ e.1.package)
      by None = (refl, refl)
      by (Some p) = (refl, refl)

-- ---- where their things are

module _ (m : GraphMerge) (valid : IsValid m.graph) (valid_other : IsValid m.other) where
  old_interface_of : (p i : ℕ) (name : List ℕ) → IsInterfaceOf m.graph.interfaces p name i → IsInterfaceOf (merged m).interfaces p name i
  old_interface_of p i name is =
      let found = found_at (λ (interface : Interface). (interface.name ≡ Some name) × (interface.package ≡ Some p)) m.graph.interfaces i is in
      let keeps = interfaces.joined_keeps m (i, found.0) in
      some_at (λ (interface : Interface). (interface.name ≡ Some name) × (interface.package ≡ Some p)) (merged m).interfaces i (joined_interface m (i, found.0)) (interfaces.old_interface_at m i found.0 found.1) (keeps.name ∙ found.2.0, keeps.home ∙ found.2.1)

  new_interface_of : (p i : ℕ) (name : List ℕ) → IsInterfaceOf m.other.interfaces p name i → moves_interface m i ≡ true → IsInterfaceOf (merged m).interfaces (merged_package m p) name (merged_interface m i)
  new_interface_of p i name is moves =
      let found = found_at (λ (interface : Interface). (interface.name ≡ Some name) × (interface.package ≡ Some p)) m.other.interfaces i is in
      some_at (λ (interface : Interface). (interface.name ≡ Some name) × (interface.package ≡ Some (merged_package m p))) (merged m).interfaces (merged_interface m i) (interface_image (merge_maps m) found.0) (interfaces.new_interface_at m i found.0 found.1 moves)
      (found.2.0, ap (option_map (merged_package m)) found.2.1)

  old_world_of : (p w : ℕ) (name : List ℕ) → IsWorldOf m.graph.worlds p name w → IsWorldOf (merged m).worlds p name w
  old_world_of p w name is =
      let found = found_at (λ (world : World). (world.name ≡ name) × (world.package ≡ Some p)) m.graph.worlds w is in
      let keeps = world_keeps m (w, found.0) in
      some_at (λ (world : World). (world.name ≡ name) × (world.package ≡ Some p)) (merged m).worlds w (elaborated_world (joined_graph m) (joined_world m (w, found.0)))
      (at_map (elaborated_world (joined_graph m)) (joined_graph m).worlds w (joined_world m (w, found.0)) (worlds.old_world_at m w found.0 found.1)) (keeps.0 ∙ found.2.0, keeps.1 ∙ found.2.1)

  new_world_of : (p w : ℕ) (name : List ℕ) → IsWorldOf m.other.worlds p name w → moves_world m w ≡ true → IsWorldOf (merged m).worlds (merged_package m p) name (merged_world m w)
  new_world_of p w name is moves =
      let found = found_at (λ (world : World). (world.name ≡ name) × (world.package ≡ Some p)) m.other.worlds w is in
      some_at (λ (world : World). (world.name ≡ name) × (world.package ≡ Some (merged_package m p))) (merged m).worlds (merged_world m w) (elaborated_world (joined_graph m) (world_image (merge_maps m) w found.0))
      (at_map (elaborated_world (joined_graph m)) (joined_graph m).worlds (merged_world m w) (world_image (merge_maps m) w found.0) (worlds.new_world_at m w found.0 found.1 moves)) (found.2.0, ap (option_map (merged_package m)) found.2.1)

  -- ---- what is looked up in the table of a matched package

  module _ (p p' : ℕ) (into : Package) (matched : counterpart_package m p ≡ Some p') (into_there : slice_get m.graph.packages p' ≡ Some into) where
    looked_in : (table : Package → List (List ℕ × ℕ)) (home : Option ℕ) (name : List ℕ) → home ≡ Some p → named_in_counterpart table m home name ≡ lookup (bytes_eq name) (table into)
    looked_in table home name home_is =
        some_by (λ p'. option_and_then (λ (there : Package). lookup (bytes_eq name) (table there)) (slice_get m.graph.packages p')) (option_and_then (counterpart_package m) home) p' (some_by (counterpart_package m) home p home_is ∙ matched)
        ∙ some_by (λ (there : Package). lookup (bytes_eq name) (table there)) (slice_get m.graph.packages p') into into_there

    interface_looked : (i : ℕ) (name : List ℕ) → IsInterfaceOf m.other.interfaces p name i → counterpart_interface m i ≡ lookup (bytes_eq name) into.interfaces
    interface_looked i name is =
        let found = found_at (λ (interface : Interface). (interface.name ≡ Some name) × (interface.package ≡ Some p)) m.other.interfaces i is in
        some_by (λ (interface : Interface). counterpart_interface_by m i interface.package interface.name) (slice_get m.other.interfaces i) found.0 found.1
        ∙ (ap (λ (n : Option (List ℕ)). counterpart_interface_by m i found.0.package n) found.2.0 ∙ looked_in (λ (there : Package). there.interfaces) found.0.package name found.2.1)

    world_looked : (w : ℕ) (name : List ℕ) → IsWorldOf m.other.worlds p name w → counterpart_world m w ≡ lookup (bytes_eq name) into.worlds
    world_looked w name is =
        let found = found_at (λ (world : World). (world.name ≡ name) × (world.package ≡ Some p)) m.other.worlds w is in
        some_by (λ (world : World). named_in_counterpart (λ (there : Package). there.worlds) m world.package world.name) (slice_get m.other.worlds w) found.0 found.1
        ∙ (ap (λ (n : List ℕ). named_in_counterpart (λ (there : Package). there.worlds) m found.0.package n) found.2.0 ∙ looked_in (λ (there : Package). there.worlds) found.0.package name found.2.1)

  -- ---- good packages

  abbrev typed : (ℕ → ℕ) → List ℕ × ℕ → List ℕ × ℕ
  typed place e = (e.0, place e.1)

  module _ (p' : ℕ) (into : Package) (there : slice_get m.graph.packages p' ≡ Some into) where
    alone_good : IsGoodPackage (merged m).interfaces (merged m).worlds p' into
    alone_good = record {
      interfaces_are = λ i e on. old_interface_of p' e.1 e.0 (valid.well_formed.tables.interface_tables p' into there i e on);
      worlds_are = λ i e on. old_world_of p' e.1 e.0 (valid.well_formed.tables.world_tables p' into there i e on);
      distinct_interfaces = valid.well_formed.tables.distinct_interfaces p' into there;
      distinct_worlds = valid.well_formed.tables.distinct_worlds p' into there;
      namespace = valid.names.namespaces p' into there;
      name = valid.names.package_names p' into there;
      version = valid.names.versions p' into there;
    }

    module _ (p : ℕ) (from : Package) (from_there : slice_get m.other.packages p ≡ Some from) (matched : counterpart_package m p ≡ Some p') where
      goes : merged_package m p ≡ p'
      goes = goes_to (counterpart_package m p) _ p' matched

      abbrev brought_interfaces : List (List ℕ × ℕ)
      brought_interfaces = filter (λ (e : List ℕ × ℕ). moves_interface m e.1) from.interfaces

      abbrev brought_worlds : List (List ℕ × ℕ)
      brought_worlds = filter (λ (e : List ℕ × ℕ). moves_world m e.1) from.worlds

      new_interface_listed : (e : List ℕ × ℕ) → Contains (map (typed (merged_interface m)) brought_interfaces) e → IsInterfaceOf (merged m).interfaces p' e.0 e.1
      new_interface_listed e has =
          let old = Contains-map_cases (typed (merged_interface m)) brought_interfaces e has in
          let kept = Contains-filter (λ (x : List ℕ × ℕ). moves_interface m x.1) from.interfaces old.0 old.1 in
          let place = place_of from.interfaces old.0 kept.0 in
          subst (λ (x : List ℕ × ℕ). IsInterfaceOf (merged m).interfaces p' x.0 x.1) old.2
          (subst (λ (q : ℕ). IsInterfaceOf (merged m).interfaces q old.0.0 (merged_interface m old.0.1)) goes (new_interface_of p old.0.1 old.0.0 (valid_other.well_formed.tables.interface_tables p from from_there place.0 old.0 place.1) kept.1))

      new_world_listed : (e : List ℕ × ℕ) → Contains (map (typed (merged_world m)) brought_worlds) e → IsWorldOf (merged m).worlds p' e.0 e.1
      new_world_listed e has =
          let old = Contains-map_cases (typed (merged_world m)) brought_worlds e has in
          let kept = Contains-filter (λ (x : List ℕ × ℕ). moves_world m x.1) from.worlds old.0 old.1 in
          let place = place_of from.worlds old.0 kept.0 in
          subst (λ (x : List ℕ × ℕ). IsWorldOf (merged m).worlds p' x.0 x.1) old.2
          (subst (λ (q : ℕ). IsWorldOf (merged m).worlds q old.0.0 (merged_world m old.0.1)) goes (new_world_of p old.0.1 old.0.0 (valid_other.well_formed.tables.world_tables p from from_there place.0 old.0 place.1) kept.1))

      interfaces_apart : (e f : List ℕ × ℕ) → Contains into.interfaces e → Contains (map (typed (merged_interface m)) brought_interfaces) f → e.0 ≡ f.0 → ⊥
      interfaces_apart e f has new same =
          let old = Contains-map_cases (typed (merged_interface m)) brought_interfaces f new in
          let kept = Contains-filter (λ (x : List ℕ × ℕ). moves_interface m x.1) from.interfaces old.0 old.1 in
          let place = place_of from.interfaces old.0 kept.0 in
          let none = none_there (counterpart_interface m old.0.1) kept.1 in
          let named : e.0 ≡ old.0.0 = same ∙ sym (ap (λ (x : List ℕ × ℕ). x.0) old.2) in
          in_vain (bytes_eq old.0.0) old.0.0 e.1 into.interfaces (same_bytes old.0.0)
          (sym (interface_looked p p' into matched there old.0.1 old.0.0 (valid_other.well_formed.tables.interface_tables p from from_there place.0 old.0 place.1)) ∙ none) (subst (λ (n : List ℕ). Contains into.interfaces (n, e.1)) named has)

      worlds_apart : (e f : List ℕ × ℕ) → Contains into.worlds e → Contains (map (typed (merged_world m)) brought_worlds) f → e.0 ≡ f.0 → ⊥
      worlds_apart e f has new same =
          let old = Contains-map_cases (typed (merged_world m)) brought_worlds f new in
          let kept = Contains-filter (λ (x : List ℕ × ℕ). moves_world m x.1) from.worlds old.0 old.1 in
          let place = place_of from.worlds old.0 kept.0 in
          let none = none_there (counterpart_world m old.0.1) kept.1 in
          let named : e.0 ≡ old.0.0 = same ∙ sym (ap (λ (x : List ℕ × ℕ). x.0) old.2) in
          in_vain (bytes_eq old.0.0) old.0.0 e.1 into.worlds (same_bytes old.0.0)
          (sym (world_looked p p' into matched there old.0.1 old.0.0 (valid_other.well_formed.tables.world_tables p from from_there place.0 old.0 place.1)) ∙ none) (subst (λ (n : List ℕ). Contains into.worlds (n, e.1)) named has)

      with_good : IsGoodPackage (merged m).interfaces (merged m).worlds p' (with_package m from into)
      with_good = record {
        interfaces_are = λ i e on.
            elim (Contains-append_cases into.interfaces (map (typed (merged_interface m)) brought_interfaces) e (contained_at (into.interfaces ++ map (typed (merged_interface m)) brought_interfaces) i e on)) [
              | inl old ↦ let place = place_of into.interfaces e old in alone_good.interfaces_are place.0 e place.1
              | inr new ↦ new_interface_listed e new
            ];
        worlds_are = λ i e on.
            elim (Contains-append_cases into.worlds (map (typed (merged_world m)) brought_worlds) e (contained_at (into.worlds ++ map (typed (merged_world m)) brought_worlds) i e on)) [
              | inl old ↦ let place = place_of into.worlds e old in alone_good.worlds_are place.0 e place.1
              | inr new ↦ new_world_listed e new
            ];
        distinct_interfaces = joined_apart into.interfaces (map (typed (merged_interface m)) brought_interfaces) alone_good.distinct_interfaces
            (distinct_map (merged_interface m) brought_interfaces (distinct_kept (λ (x : List ℕ × ℕ). moves_interface m x.1) from.interfaces (valid_other.well_formed.tables.distinct_interfaces p from from_there))) interfaces_apart;
        distinct_worlds = joined_apart into.worlds (map (typed (merged_world m)) brought_worlds) alone_good.distinct_worlds
            (distinct_map (merged_world m) brought_worlds (distinct_kept (λ (x : List ℕ × ℕ). moves_world m x.1) from.worlds (valid_other.well_formed.tables.distinct_worlds p from from_there))) worlds_apart;
        namespace = alone_good.namespace;
        name = alone_good.name;
        version = alone_good.version;
      }

    joined_good : IsGoodPackage (merged m).interfaces (merged m).worlds p' (joined_package m (p', into))
    joined_good = by (counterpart_of (counterpart_package m) m.other.packages p') refl
      where
        by : (o : Option (ℕ × Package)) → counterpart_of (counterpart_package m) m.other.packages p' ≡ o → IsGoodPackage (merged m).interfaces (merged m).worlds p' (option_map_or (λ (x : ℕ × Package). with_package m x.1 into) o into)
        by None is = alone_good
        by (Some x) is = let from = counterpart_from (counterpart_package m) m.other.packages p' x is in with_good x.0 x.1 from.0 from.1

  -- of a package that moves, nothing is matched
  module _ (p : ℕ) (old : Package) (there : slice_get m.other.packages p ≡ Some old) (moves : moves_package m p ≡ true) where
    unmatched : (table : Package → List (List ℕ × ℕ)) (home : Option ℕ) (name : List ℕ) → home ≡ Some p → named_in_counterpart table m home name ≡ None
    unmatched table home name home_is =
        ap (option_and_then (λ p'. option_and_then (λ (there : Package). lookup (bytes_eq name) (table there)) (slice_get m.graph.packages p'))) (some_by (counterpart_package m) home p home_is ∙ none_there (counterpart_package m p) moves)

    pub interface_moves : (i : ℕ) (name : List ℕ) → IsInterfaceOf m.other.interfaces p name i → moves_interface m i ≡ true
    interface_moves i name is =
        let found = found_at (λ (interface : Interface). (interface.name ≡ Some name) × (interface.package ≡ Some p)) m.other.interfaces i is in
        ap (λ (o : Option ℕ). not (is_some o))
        (some_by (λ (interface : Interface). counterpart_interface_by m i interface.package interface.name) (slice_get m.other.interfaces i) found.0 found.1
        ∙ (ap (λ (n : Option (List ℕ)). counterpart_interface_by m i found.0.package n) found.2.0 ∙ unmatched (λ (there : Package). there.interfaces) found.0.package name found.2.1))

    pub world_moves : (w : ℕ) (name : List ℕ) → IsWorldOf m.other.worlds p name w → moves_world m w ≡ true
    world_moves w name is =
        let found = found_at (λ (world : World). (world.name ≡ name) × (world.package ≡ Some p)) m.other.worlds w is in
        ap (λ (o : Option ℕ). not (is_some o))
        (some_by (λ (world : World). named_in_counterpart (λ (there : Package). there.worlds) m world.package world.name) (slice_get m.other.worlds w) found.0 found.1
        ∙ (ap (λ (n : List ℕ). named_in_counterpart (λ (there : Package). there.worlds) m found.0.package n) found.2.0 ∙ unmatched (λ (there : Package). there.worlds) found.0.package name found.2.1))

    image_good : IsGoodPackage (merged m).interfaces (merged m).worlds (merged_package m p) (package_image m old)
    image_good = record {
      interfaces_are = λ i e on.
          let from = from_map (typed (merged_interface m)) old.interfaces i e on in
          let is = valid_other.well_formed.tables.interface_tables p old there i from.0 from.1 in
          subst (λ (x : List ℕ × ℕ). IsInterfaceOf (merged m).interfaces (merged_package m p) x.0 x.1) from.2 (new_interface_of p from.0.1 from.0.0 is (interface_moves from.0.1 from.0.0 is));
      worlds_are = λ i e on.
          let from = from_map (typed (merged_world m)) old.worlds i e on in
          let is = valid_other.well_formed.tables.world_tables p old there i from.0 from.1 in
          subst (λ (x : List ℕ × ℕ). IsWorldOf (merged m).worlds (merged_package m p) x.0 x.1) from.2 (new_world_of p from.0.1 from.0.0 is (world_moves from.0.1 from.0.0 is));
      distinct_interfaces = distinct_map (merged_interface m) old.interfaces (valid_other.well_formed.tables.distinct_interfaces p old there);
      distinct_worlds = distinct_map (merged_world m) old.worlds (valid_other.well_formed.tables.distinct_worlds p old there);
      namespace = valid_other.names.namespaces p old there;
      name = valid_other.names.package_names p old there;
      version = valid_other.names.versions p old there;
    }

  pub packages_good : EachAt (IsGoodPackage (merged m).interfaces (merged m).worlds) (merged m).packages
  packages_good p' new there = by (package_at_from m p' new there)
    where
      by : PackageFrom m p' new → IsGoodPackage (merged m).interfaces (merged m).worlds p' new
      by (of_graph old is same) = subst (IsGoodPackage (merged m).interfaces (merged m).worlds p') same (joined_good p' old is)
      by (of_other p old is moves place same) =
          subst (IsGoodPackage (merged m).interfaces (merged m).worlds p') same (subst (λ (k : ℕ). IsGoodPackage (merged m).interfaces (merged m).worlds k (package_image m old)) (sym place) (image_good p old is moves))

  -- ---- what stands in tables

  -- a package of the other graph stands at its place, and lists what moves
  pub record ListsMoved (old new : Package) : Type 0 where
    pub name : new.name ≡ old.name
    interfaces : (e : List ℕ × ℕ) → Contains old.interfaces e → moves_interface m e.1 ≡ true
        → Contains new.interfaces (typed (merged_interface m) e)
    worlds : (e : List ℕ × ℕ) → Contains old.worlds e → moves_world m e.1 ≡ true
        → Contains new.worlds (typed (merged_world m) e)

  pub package_stands : (p : ℕ) (old : Package) → slice_get m.other.packages p ≡ Some old → SomeAt (merged m).packages (merged_package m p) (ListsMoved old)
  package_stands p old there = elim (cases_Bool (moves_package m p)) [
    | inl goes ↦
        some_at (ListsMoved old) (merged m).packages (merged_package m p) (package_image m old) (new_package_at m p old there goes)
        (record { name = refl; interfaces = λ e has moves. Contains-map (typed (merged_interface m)) old.interfaces e has; worlds = λ e has moves. Contains-map (typed (merged_world m)) old.worlds e has })
    | inr stays ↦ matched (matched_some (counterpart_package m p) stays)
  ]
    where
      matched : (p' : ℕ) × (counterpart_package m p ≡ Some p') → SomeAt (merged m).packages (merged_package m p) (ListsMoved old)
      matched (p', found) =
          let is = package_is m valid p p' found in
          let same : is.0 ≡ old = some_same is.0 old (sym is.1 ∙ there) in
          let into = found_at (λ (there : Package). there.name ≡ is.0.name) m.graph.packages p' is.2 in
          let joined : joined_package m (p', into.0) ≡ with_package m old into.0 =
          ap (λ (o : Option (ℕ × Package)). option_map_or (λ (x : ℕ × Package). with_package m x.1 into.0) o into.0)
          (counterpart_is (counterpart_package m) m.other.packages p' (λ i j. package_once m valid valid_other i j p') p old there found) in
          let at : slice_get (merged m).packages (merged_package m p) ≡ Some (with_package m old into.0) =
          ap (slice_get (merged m).packages) (goes_to (counterpart_package m p) _ p' found) ∙ (old_package_at m p' into.0 into.1 ∙ ap (λ (x : Package). Some x) joined) in
          some_at (ListsMoved old) (merged m).packages (merged_package m p) (with_package m old into.0) at (record {
            name = into.2 ∙ ap (λ (x : Package). x.name) same;
            interfaces = λ e has moves.
                Contains-append_right into.0.interfaces (map (typed (merged_interface m)) (filter (λ (x : List ℕ × ℕ). moves_interface m x.1) old.interfaces)) (typed (merged_interface m) e)
                (Contains-map (typed (merged_interface m)) (filter (λ (x : List ℕ × ℕ). moves_interface m x.1) old.interfaces) e (Contains-filtered (λ (x : List ℕ × ℕ). moves_interface m x.1) old.interfaces e has moves));
            worlds = λ e has moves.
                Contains-append_right into.0.worlds (map (typed (merged_world m)) (filter (λ (x : List ℕ × ℕ). moves_world m x.1) old.worlds)) (typed (merged_world m) e)
                (Contains-map (typed (merged_world m)) (filter (λ (x : List ℕ × ℕ). moves_world m x.1) old.worlds) e (Contains-filtered (λ (x : List ℕ × ℕ). moves_world m x.1) old.worlds e has moves));
          })

-- ---- all that has a package stands in its table

some_so : (o : Option ℕ) (P Q : ℕ → Type 0) → ((p : ℕ) → P p → Q p) → IsSomeAnd o P → IsSomeAnd o Q
some_so None P Q weaker h = absurd h
some_so (Some p) P Q weaker h = weaker p h

some_mapped : (o : Option ℕ) (f : ℕ → ℕ) (P Q : ℕ → Type 0) → ((p : ℕ) → P p → Q (f p)) → IsSomeAnd o P → IsSomeAnd (option_map f o) Q
some_mapped None f P Q weaker h = absurd h
some_mapped (Some p) f P Q weaker h = weaker p h

named_so : (o : Option (List ℕ)) (P Q : List ℕ → Type 0) → ((n : List ℕ) → P n → Q n) → IfSome o P → IfSome o Q
named_so None P Q weaker h = h
named_so (Some n) P Q weaker h = weaker n h

module _ (m : GraphMerge) (valid : IsValid m.graph) (valid_other : IsValid m.other) where
  -- the table of a package has the interface under its name
  abbrev InTableOf : List Package → Option (List ℕ) → ℕ → ℕ → Type 0
  InTableOf packages name i p =
      SomeAt packages p (λ (home : Package). IfSome name (λ n. Contains home.interfaces (n, i)))

  abbrev WorldInTableOf : List Package → List ℕ → ℕ → ℕ → Type 0
  WorldInTableOf packages name w p =
      SomeAt packages p (λ (home : Package). Contains home.worlds (name, w))

  old_in_table : (i : ℕ) (name : Option (List ℕ)) (p : ℕ) → InTableOf m.graph.packages name i p → InTableOf (merged m).packages name i p
  old_in_table i name p is =
      let home = found_at (λ (home : Package). IfSome name (λ n. Contains home.interfaces (n, i))) m.graph.packages p is in
      let keeps = package_keeps m (p, home.0) in
      some_at (λ (home : Package). IfSome name (λ n. Contains home.interfaces (n, i))) (merged m).packages p (joined_package m (p, home.0)) (old_package_at m p home.0 home.1)
      (named_so name (λ n. Contains home.0.interfaces (n, i)) (λ n. Contains (joined_package m (p, home.0)).interfaces (n, i)) (λ n has. keeps.interfaces (n, i) has) home.2)

  new_in_table : (i : ℕ) (name : Option (List ℕ)) → moves_interface m i ≡ true → (p : ℕ) → InTableOf m.other.packages name i p → InTableOf (merged m).packages name (merged_interface m i) (merged_package m p)
  new_in_table i name moves p is =
      let home = found_at (λ (home : Package). IfSome name (λ n. Contains home.interfaces (n, i))) m.other.packages p is in
      let stands = found_at (ListsMoved m valid valid_other home.0) (merged m).packages (merged_package m p) (package_stands m valid valid_other p home.0 home.1) in
      some_at (λ (home : Package). IfSome name (λ n. Contains home.interfaces (n, merged_interface m i))) (merged m).packages (merged_package m p) stands.0 stands.1
      (named_so name (λ n. Contains home.0.interfaces (n, i)) (λ n. Contains stands.0.interfaces (n, merged_interface m i)) (λ n has. stands.2.interfaces (n, i) has moves) home.2)

  in_table_so : (i : ℕ) (a b : Interface) → b.name ≡ a.name → b.package ≡ a.package → IsSomeAnd a.package (InTableOf (merged m).packages a.name i) → IsInTable (merged m).packages i b
  in_table_so i a b name home is =
      subst (λ (n : Option (List ℕ)). IsSomeAnd b.package (InTableOf (merged m).packages n i)) (sym name) (subst (λ (p : Option ℕ). IsSomeAnd p (InTableOf (merged m).packages a.name i)) (sym home) is)

  pub interfaces_in_tables : EachAt (IsInTable (merged m).packages) (merged m).interfaces
  interfaces_in_tables f' new there = by (interfaces.interface_at_from m f' new there)
    where
      by : interfaces.InterfaceFrom m f' new → IsInTable (merged m).packages f' new
      by (interfaces.of_graph old is same) =
          let keeps = interfaces.joined_keeps m (f', old) in
          in_table_so f' old new (ap (λ (x : Interface). x.name) (sym same) ∙ keeps.name) (ap (λ (x : Interface). x.package) (sym same) ∙ keeps.home)
          (some_so old.package (InTableOf m.graph.packages old.name f') (InTableOf (merged m).packages old.name f') (old_in_table f' old.name) (valid.well_formed.tables.interfaces_listed f' old is))
      by (interfaces.of_other i old is moves place same) =
          in_table_so f' (interface_image (merge_maps m) old) new (ap (λ (x : Interface). x.name) (sym same)) (ap (λ (x : Interface). x.package) (sym same))
          (subst (λ (k : ℕ). IsSomeAnd (option_map (merged_package m) old.package) (InTableOf (merged m).packages old.name k)) (sym place)
          (some_mapped old.package (merged_package m) (InTableOf m.other.packages old.name i) (InTableOf (merged m).packages old.name (merged_interface m i)) (new_in_table i old.name moves) (valid_other.well_formed.tables.interfaces_listed i old is)))

  old_world_in : (w : ℕ) (name : List ℕ) (p : ℕ) → WorldInTableOf m.graph.packages name w p → WorldInTableOf (merged m).packages name w p
  old_world_in w name p is =
      let home = found_at (λ (home : Package). Contains home.worlds (name, w)) m.graph.packages p is in
      some_at (λ (home : Package). Contains home.worlds (name, w)) (merged m).packages p (joined_package m (p, home.0)) (old_package_at m p home.0 home.1) ((package_keeps m (p, home.0)).worlds (name, w) home.2)

  new_world_in : (w : ℕ) (name : List ℕ) → moves_world m w ≡ true → (p : ℕ) → WorldInTableOf m.other.packages name w p → WorldInTableOf (merged m).packages name (merged_world m w) (merged_package m p)
  new_world_in w name moves p is =
      let home = found_at (λ (home : Package). Contains home.worlds (name, w)) m.other.packages p is in
      let stands = found_at (ListsMoved m valid valid_other home.0) (merged m).packages (merged_package m p) (package_stands m valid valid_other p home.0 home.1) in
      some_at (λ (home : Package). Contains home.worlds (name, merged_world m w)) (merged m).packages (merged_package m p) stands.0 stands.1 (stands.2.worlds (name, w) home.2 moves)

  world_in_so : (w : ℕ) (a b : World) → b.name ≡ a.name → b.package ≡ a.package → IsSomeAnd a.package (WorldInTableOf (merged m).packages a.name w) → IsWorldInTable (merged m).packages w b
  world_in_so w a b name home is =
      subst (λ (n : List ℕ). IsSomeAnd b.package (WorldInTableOf (merged m).packages n w)) (sym name) (subst (λ (p : Option ℕ). IsSomeAnd p (WorldInTableOf (merged m).packages a.name w)) (sym home) is)

  pub worlds_in_tables : EachAt (IsWorldInTable (merged m).packages) (merged m).worlds
  worlds_in_tables w' new there =
      let from = from_map (elaborated_world (joined_graph m)) (joined_graph m).worlds w' new there in
      world_in_so w' from.0 new (ap (λ (x : World). x.name) (sym from.2)) (ap (λ (x : World). x.package) (sym from.2)) (by from.0 (worlds.world_at_from m w' from.0 from.1))
    where
      by : (listed : World) → worlds.WorldFrom m w' listed → IsWorldInTable (merged m).packages w' listed
      by listed (worlds.of_graph old is same) =
          let keeps = world_keeps m (w', old) in
          world_in_so w' old listed (ap (λ (x : World). x.name) (sym same) ∙ keeps.0) (ap (λ (x : World). x.package) (sym same) ∙ keeps.1)
          (some_so old.package (WorldInTableOf m.graph.packages old.name w') (WorldInTableOf (merged m).packages old.name w') (old_world_in w' old.name) (valid.well_formed.tables.worlds_listed w' old is))
      by listed (worlds.of_other w old is moves place same) =
          world_in_so w' (world_image (merge_maps m) w old) listed (ap (λ (x : World). x.name) (sym same)) (ap (λ (x : World). x.package) (sym same))
          (subst (λ (k : ℕ). IsSomeAnd (option_map (merged_package m) old.package) (WorldInTableOf (merged m).packages old.name k)) (sym place)
          (some_mapped old.package (merged_package m) (WorldInTableOf m.other.packages old.name w) (WorldInTableOf (merged m).packages old.name (merged_world m w)) (new_world_in w old.name moves) (valid_other.well_formed.tables.worlds_listed w old is)))

  pub good_tables : HasGoodTables (merged m)
  good_tables = record { packages = packages_good m valid valid_other; interfaces = interfaces_in_tables; worlds = worlds_in_tables }

  -- ---- names

  abbrev placed : PackageName × ℕ → PackageName × ℕ
  placed e = (e.0, merged_package m e.1)

  abbrev brought : List (PackageName × ℕ)
  brought = filter (λ (e : PackageName × ℕ). moves_package m e.1) m.other.package_names

  own_name_of : (p : ℕ) (name : PackageName) → Contains m.other.package_names (name, p) → (home : Package) × (slice_get m.other.packages p ≡ Some home) × (home.name ≡ name)
  own_name_of p name has =
      let place = place_of m.other.package_names (name, p) has in
      found_at (λ (home : Package). home.name ≡ name) m.other.packages p (valid_other.well_formed.package_names.own_name place.0 (name, p) place.1)

  names_apart : (e f : PackageName × ℕ) → Contains m.graph.package_names e → Contains (map placed brought) f → e.0 ≡ f.0 → ⊥
  names_apart e f has new same =
      let old = Contains-map_cases placed brought f new in
      let kept = Contains-filter (λ (x : PackageName × ℕ). moves_package m x.1) m.other.package_names old.0 old.1 in
      let home = own_name_of old.0.1 old.0.0 kept.0 in
      let looked : counterpart_package m old.0.1 ≡ lookup (same_package old.0.0) m.graph.package_names =
      some_by (λ (home : Package). lookup (same_package home.name) m.graph.package_names) (slice_get m.other.packages old.0.1) home.0 home.1 ∙ ap (λ (n : PackageName). lookup (same_package n) m.graph.package_names) home.2 in
      let named : e.0 ≡ old.0.0 = same ∙ sym (ap (λ (x : PackageName × ℕ). x.0) old.2) in
      in_vain (same_package old.0.0) old.0.0 e.1 m.graph.package_names (own_name old.0.0) (sym looked ∙ none_there (counterpart_package m old.0.1) kept.1) (subst (λ (n : PackageName). Contains m.graph.package_names (n, e.1)) named has)

  old_named : (e : PackageName × ℕ) → Contains m.graph.package_names e → SomeAt (merged m).packages e.1 (λ (home : Package). home.name ≡ e.0)
  old_named e has =
      let place = place_of m.graph.package_names e has in
      let home = found_at (λ (home : Package). home.name ≡ e.0) m.graph.packages e.1 (valid.well_formed.package_names.own_name place.0 e place.1) in
      some_at (λ (home : Package). home.name ≡ e.0) (merged m).packages e.1 (joined_package m (e.1, home.0)) (old_package_at m e.1 home.0 home.1) ((package_keeps m (e.1, home.0)).name ∙ home.2)

  new_named : (e : PackageName × ℕ) → Contains (map placed brought) e → SomeAt (merged m).packages e.1 (λ (home : Package). home.name ≡ e.0)
  new_named e has =
      let old = Contains-map_cases placed brought e has in
      let kept = Contains-filter (λ (x : PackageName × ℕ). moves_package m x.1) m.other.package_names old.0 old.1 in
      let home = own_name_of old.0.1 old.0.0 kept.0 in
      let stands = found_at (ListsMoved m valid valid_other home.0) (merged m).packages (merged_package m old.0.1) (package_stands m valid valid_other old.0.1 home.0 home.1) in
      subst (λ (x : PackageName × ℕ). SomeAt (merged m).packages x.1 (λ (home : Package). home.name ≡ x.0)) old.2
      (some_at (λ (home : Package). home.name ≡ old.0.0) (merged m).packages (merged_package m old.0.1) stands.0 stands.1 (stands.2.name ∙ home.2))

  pub good_names : HasPackageNames (merged m).packages (merged m).package_names
  good_names = record {
    own_name = λ i e on.
        elim (Contains-append_cases m.graph.package_names (map placed brought) e (contained_at (m.graph.package_names ++ map placed brought) i e on)) [ inl old ↦ old_named e old | inr new ↦ new_named e new ];
    listed = λ p' new there. listed p' new (package_at_from m p' new there);
    distinct = joined_apart m.graph.package_names (map placed brought) valid.well_formed.package_names.distinct
        (distinct_map (merged_package m) brought (distinct_kept (λ (x : PackageName × ℕ). moves_package m x.1) m.other.package_names valid_other.well_formed.package_names.distinct)) names_apart;
  }
    where
      listed : (p' : ℕ) (new : Package) → PackageFrom m p' new → Contains (m.graph.package_names ++ map placed brought) (new.name, p')
      listed p' new (of_graph old is same) =
          Contains-append_left m.graph.package_names (map placed brought) (new.name, p')
          (subst (λ (n : PackageName). Contains m.graph.package_names (n, p')) (sym (ap (λ (x : Package). x.name) (sym same) ∙ (package_keeps m (p', old)).name)) (valid.well_formed.package_names.listed p' old is))
      listed p' new (of_other p old is moves place same) =
          let has = Contains-map placed brought (old.name, p) (Contains-filtered (λ (x : PackageName × ℕ). moves_package m x.1) m.other.package_names (old.name, p) (valid_other.well_formed.package_names.listed p old is) moves) in
          Contains-append_right m.graph.package_names (map placed brought) (new.name, p')
          (subst (λ (k : ℕ). Contains (map placed brought) (new.name, k)) (sym place) (subst (λ (n : PackageName). Contains (map placed brought) (n, merged_package m p)) (ap (λ (x : Package). x.name) same) has))
