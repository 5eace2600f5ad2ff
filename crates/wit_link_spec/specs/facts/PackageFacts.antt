-- Which package depends on which, when a package is added: what was there depends on what it did, and the new
-- package on old ones alone, so none depends on itself.
use Rattle.std.proofs.Common.{◌≡◌, ◌∙◌, ◌⊎◌, inl, inr, ℕ, ◌<◌, ◌≤◌, ◌==◌, List, [], ◌∷◌, map, length, Option, None, Some, IsSome, IsSomeAnd, option_and_then, slice_get, sym, ap, subst, arith, Contains, if◌then◌else◌}
use Rattle.std.proofs.lemmas.List.{length-append}
use Rattle.std.proofs.lemmas.List.Elements.{Contains-append_cases}
use Rattle.std.proofs.lemmas.Option.{slice_get_within}
use Rattle.std.specs.List.{flat_map}
use Rattle.std.specs.Option.{option_map_or}
use Rattle.wit_digraph.specs.facts.MemberFacts.{Contains-flat_map_cases}
use Rattle.wit_digraph.specs.Relation.{IsAcyclic}
use Rattle.wit_data.specs.Each.{SomeAt}
use Rattle.wit_data.specs.Entries.{Entry, IsExport, IsImport}
use Rattle.wit_data.specs.Shape.{IsShaped}
use Rattle.wit_data.specs.Uses.{interface_uses, type_interface_dep}
use Rattle.wit_data.specs.declared.interface.Interface.{Interface}
use Rattle.wit_data.specs.declared.types.TypeDef.{TypeDef}
use Rattle.wit_data.specs.declared.world.World.{World}
use Rattle.wit_data.specs.declared.world.WorldItem.{WorldItem}
use Rattle.wit_data.specs.declared.world.WorldKey.{WorldKey}
use Rattle.wit_data.specs.declared.types.TypeOwner.TheVariants as owner
use Rattle.wit_data.specs.declared.world.WorldItem.TheVariants as item
use Rattle.wit_data.specs.declared.world.WorldKey.TheVariants as key
use Rattle.wit_elaboration.specs.facts.SoundFacts.{dep_is_named}
use Rattle.wit_graph_data.specs.Queries.{entry_interface, other_package, package_interfaces, package_uses, world_interfaces, entry_interfaces}
use Rattle.wit_elaboration.specs.Valid.{IsValid}
use Rattle.wit_graph_data.specs.declared.graph.Graph.{Graph}
use Rattle.wit_graph_data.specs.declared.graph.Package.{Package}
use Rattle.wit_graph_theory.specs.facts.DependencyFacts.{filter_map_from}
use Rattle.wit_graph_theory.specs.facts.Good.{HasGoodItems}
use Rattle.wit_graph_theory.specs.facts.GoodIsValid.{good_things}
use Rattle.wit_graph_theory.specs.facts.GraphSource.{good_items}
use Rattle.wit_graph_theory.specs.facts.Growth.{PackagesGrow}
use Rattle.wit_values.specs.facts.Lists.{slice_get-append}
use Rattle.wit_remap_spec.specs.Image.{interface_image}
use Rattle.wit_graph_theory.specs.facts.ListFacts.{at_below, found_at, from_map, get_at, old_or_new, place_of}
use Rattle.wit_graph_theory.specs.facts.PackageCycleFacts.{other_from}
use Rattle.wit_graph_theory.specs.facts.PackagesAcyclic.{packages_acyclic, there_is}
use Rattle.wit_link_spec.specs.Addition.{Addition, addition_maps, own_interfaces}
use Rattle.wit_link_spec.specs.Added.{new_package, with_parts}
use Rattle.wit_link_spec.specs.Reasons.{IsResolved}
use Rattle.wit_link_spec.specs.facts.Grown.{IsGrown, interfaces_behind, more_interfaces, more_types, types_behind}
use Rattle.wit_link_spec.specs.facts.CanonicalStays.{interface_stays, type_stays}
use Rattle.wit_graph_data.specs.steps.Parts.{package_needs}

-- ---- what a graph's packages name is there

module _ (g : Graph) (valid : IsValid g) where
  -- what a type needs is there
  dep_there : (t i : ℕ) → type_interface_dep g.types t ≡ Some i → i < length g.interfaces
  dep_there t i is =
      let found = found_at (λ (interface : Interface). IsSome interface.name) g.interfaces i (dep_is_named g.types g.interfaces t i valid.well_formed.references.aliases is) in
      slice_get_within g.interfaces i found.0 found.1

  export_there : (k : WorldKey) (held : WorldItem) (i : ℕ) → IsExport g.interfaces k held → entry_interface g.types held ≡ Some i → i < length g.interfaces
  export_there (key.Interface f) (item.Interface id stability docs span external_id) i is names =
      let found = found_at (λ (interface : Interface). IsSome interface.name) g.interfaces f is.1 in
      let within = slice_get_within g.interfaces f found.0 found.1 in
      let here = is.0 in
      let same : id ≡ i = cc in
      omega arith
  export_there (key.Interface f) (item.Function fn) i is names = cc
  export_there (key.Interface f) (item.Type_ t span) i is names = absurd is
  export_there (key.Name name) (item.Interface id stability docs span external_id) i is names = let same : id ≡ i = cc in subst (λ (x : ℕ). x < length g.interfaces) same is
  export_there (key.Name name) (item.Function fn) i is names = cc
  export_there (key.Name name) (item.Type_ t span) i is names = absurd is

  import_there : (w : ℕ) (k : WorldKey) (held : WorldItem) (i : ℕ) → IsImport g.interfaces g.types w k held → entry_interface g.types held ≡ Some i → i < length g.interfaces
  import_there w (key.Name name) (item.Type_ t span) i is names = dep_there t i names
  import_there w (key.Interface f) (item.Type_ t span) i is names = absurd is
  import_there w (key.Name name) (item.Interface id stability docs span external_id) i is names = export_there (key.Name name) (item.Interface id stability docs span external_id) i is names
  import_there w (key.Interface f) (item.Interface id stability docs span external_id) i is names = export_there (key.Interface f) (item.Interface id stability docs span external_id) i is names
  import_there w (key.Name name) (item.Function fn) i is names = cc
  import_there w (key.Interface f) (item.Function fn) i is names = cc

  world_names_there : (w : ℕ) (world : World) (i : ℕ) → slice_get g.worlds w ≡ Some world → Contains (world_interfaces g.types world) i → i < length g.interfaces
  world_names_there w world i at has =
      elim (Contains-append_cases (entry_interfaces g.types world.imports) (entry_interfaces g.types world.exports) i has) [
        | inl among ↦
            let from = filter_map_from (λ (e : Entry). entry_interface g.types e.1) world.imports i among in
            let place = place_of world.imports from.0 from.1 in
            import_there w from.0.0 from.0.1 i (valid.well_formed.worlds.imports w world at place.0 from.0 place.1) from.2
        | inr among ↦
            let from = filter_map_from (λ (e : Entry). entry_interface g.types e.1) world.exports i among in
            let place = place_of world.exports from.0 from.1 in
            export_there from.0.0 from.0.1 i (valid.well_formed.worlds.exports w world at place.0 from.0 place.1) from.2
      ]

  -- so is what a package names
  package_names_there : (home : Package) (i : ℕ) → Contains (package_interfaces g.types g.interfaces g.worlds home) i → i < length g.interfaces
  package_names_there home i has =
      let by_interfaces = λ (e : List ℕ × ℕ). option_map_or (interface_uses g.types) (slice_get g.interfaces e.1) [] in
      let by_worlds = λ (e : List ℕ × ℕ). option_map_or (world_interfaces g.types) (slice_get g.worlds e.1) [] in
      elim (Contains-append_cases (flat_map by_interfaces home.interfaces) (flat_map by_worlds home.worlds) i has) [
        | inl among ↦
            let e = Contains-flat_map_cases by_interfaces home.interfaces i among in
            let used = there_is (interface_uses g.types) (slice_get g.interfaces e.0.1) i e.1.1 in
            let from = filter_map_from (λ (e : List ℕ × ℕ). type_interface_dep g.types e.1) used.0.types i used.2 in
            dep_there from.0.1 i from.2
        | inr among ↦
            let e = Contains-flat_map_cases by_worlds home.worlds i among in
            let held = there_is (world_interfaces g.types) (slice_get g.worlds e.0.1) i e.1.1 in
            world_names_there e.0.1 held.0 i held.1 held.2
      ]

-- ---- growth

-- a package that is there is in range
some_package : (packages : List Package) (o : Option ℕ) (q : ℕ) (P : ℕ → Package → Type 0) → IsSomeAnd o (λ p. SomeAt packages p (P p)) → o ≡ Some q → q < length packages
some_package packages None q P holds is = absurd holds
some_package packages (Some p) q P holds is =
    let same : p ≡ q = cc in
    let found = found_at (P p) packages p holds in
    subst (λ (x : ℕ). x < length packages) same (slice_get_within packages p found.0 found.1)

module _ (a : Addition) (valid : IsValid a.graph) (shaped : IsShaped a.unresolved) (image : IsResolved a) (count : ℕ) (new : Graph) (are : IsGrown a count new) where
  old_items : HasGoodItems a.graph
  old_items = good_items a.graph (good_things a.graph valid)

  old_interface_at : (f : ℕ) (interface : Interface) → slice_get a.graph.interfaces f ≡ Some interface → slice_get new.interfaces f ≡ Some interface
  old_interface_at f interface at = subst (λ (l : List Interface). slice_get l f ≡ Some interface) (sym (interfaces_behind a count new are)) (slice_get-append a.graph.interfaces (more_interfaces a count new are) f interface at)

  -- what an old type needs, it needed
  dep_stays : (t i : ℕ) → t < length a.graph.types → type_interface_dep new.types t ≡ Some i → type_interface_dep a.graph.types t ≡ Some i
  dep_stays t i within is =
      let def = get_at a.graph.types t within in
      sym (type_stays a.graph old_items (more_types a count new are) t def.0 def.1) ∙ ap (λ (types : List TypeDef). type_interface_dep types t) (sym (types_behind a count new are)) ∙ is

  -- and so for an old interface
  uses_stay : (f : ℕ) (interface : Interface) (j : ℕ) → slice_get a.graph.interfaces f ≡ Some interface → Contains (interface_uses new.types interface) j → Contains (interface_uses a.graph.types interface) j
  uses_stay f interface j at has =
      subst (λ (uses : List ℕ). Contains uses j) (interface_stays a.graph old_items (more_types a count new are) f interface at)
      (subst (λ (types : List TypeDef). Contains (interface_uses types interface) j) (types_behind a count new are) has)

  imported_type : (w : ℕ) (k : WorldKey) (held : WorldItem) (t : ℕ) (span : _) → IsImport a.graph.interfaces a.graph.types w k held → held ≡ item.Type_ t span → t < length a.graph.types
  imported_type w (key.Name name) (item.Type_ u s) t span is same =
      let here : u ≡ t = cc in
      let found = found_at (λ (def : TypeDef). (def.name ≡ Some name) × (def.owner ≡ owner.World w)) a.graph.types u is in
      subst (λ (x : ℕ). x < length a.graph.types) here (slice_get_within a.graph.types u found.0 found.1)
  imported_type w (key.Interface f) (item.Type_ u s) t span is same = absurd is
  imported_type w k (item.Interface id stability docs s external_id) t span is same = cc
  imported_type w k (item.Function fn) t span is same = cc

  exported_type : (k : WorldKey) (held : WorldItem) (t : ℕ) (span : _) → IsExport a.graph.interfaces k held → held ≡ item.Type_ t span → ⊥
  exported_type (key.Name name) (item.Type_ u s) t span is same = is
  exported_type (key.Interface f) (item.Type_ u s) t span is same = is
  exported_type k (item.Interface id stability docs s external_id) t span is same = cc
  exported_type k (item.Function fn) t span is same = cc

  -- an interface is of a package that was there, or of the new one
  package_of : (i q : ℕ) (interface : Interface) → slice_get new.interfaces i ≡ Some interface → interface.package ≡ Some q → (q < length a.graph.packages) ⊎ (q ≡ length a.graph.packages)
  package_of i q interface on is =
      elim (old_or_new (with_parts a).interfaces are.interfaces i interface (subst (λ (l : List Interface). slice_get l i ≡ Some interface) are.interfaces_are on)) [
        | inl part ↦ elim (old_or_new a.graph.interfaces (map (interface_image (addition_maps a)) (own_interfaces a)) i interface part) [
          | inl old ↦ inl (some_package a.graph.packages interface.package q _ (valid.well_formed.tables.interfaces_listed i interface old) is)
          | inr later ↦
              let from = from_map (interface_image (addition_maps a)) (own_interfaces a) later.0 interface later.2 in
              let same : Some (length a.graph.packages) ≡ Some q = ap (λ (x : Interface). x.package) from.2 ∙ is in
              inr (inside (length a.graph.packages) q same)
        ]
        | inr copy ↦ let same : Some (length a.graph.packages) ≡ Some q = sym (are.copies copy.0 interface copy.2).1 ∙ is in inr (inside (length a.graph.packages) q same)
      ]
    where
      inside : (x y : ℕ) → Some x ≡ Some y → y ≡ x
      inside x y h = cc

  packages_grow : PackagesGrow a.graph new
  packages_grow = record {
    longer = longer;
    kept = λ p home before at. at_below a.graph.packages (new_package a ∷ []) p home before (subst (λ (l : List Package). slice_get l p ≡ Some home) are.packages_are at);
    interfaces = λ p home e interface at has there.
        let place = place_of home.interfaces e has in
        let found = found_at (λ (x : Interface). (x.name ≡ Some e.0) × (x.package ≡ Some p)) a.graph.interfaces e.1 (valid.well_formed.tables.interface_tables p home at place.0 e place.1) in
        at_below a.graph.interfaces (more_interfaces a count new are) e.1 interface (slice_get_within a.graph.interfaces e.1 found.0 found.1) (subst (λ (l : List Interface). slice_get l e.1 ≡ Some interface) (interfaces_behind a count new are) there);
    worlds = λ p home e world at has there.
        let place = place_of home.worlds e has in
        let found = found_at (λ (x : World). (x.name ≡ e.0) × (x.package ≡ Some p)) a.graph.worlds e.1 (valid.well_formed.tables.world_tables p home at place.0 e place.1) in
        at_below a.graph.worlds are.done e.1 world (slice_get_within a.graph.worlds e.1 found.0 found.1) (subst (λ (l : List World). slice_get l e.1 ≡ Some world) are.worlds_are there);
    uses = uses_stay;
    imports = λ w world i at e has t span is needs.
        let place = place_of world.imports e has in
        dep_stays t i (imported_type w e.0 e.1 t span (valid.well_formed.worlds.imports w world at place.0 e place.1) is) needs;
    exports = λ w world i at e has t span is needs.
        let place = place_of world.exports e has in
        absurd (exported_type e.0 e.1 t span (valid.well_formed.worlds.exports w world at place.0 e place.1) is);
    others = λ p q home i at has is.
        let there = get_at a.graph.interfaces i (package_names_there a.graph valid home i has) in
        let here = old_interface_at i there.0 there.1 in
        ap (λ (o : Option Interface). option_and_then (λ (interface : Interface). option_and_then (λ q. if q == p then None else Some q) interface.package) o) (there.1 ∙ sym here) ∙ is;
    new = λ p q home past at has. newest p q home past at has;
  }
    where
      longer : length a.graph.packages ≤ length new.packages
      longer = let long = ap length are.packages_are in omega (arith, long, length-append a.graph.packages (new_package a ∷ []))

      newest : (p q : ℕ) (home : Package) → length a.graph.packages ≤ p → slice_get new.packages p ≡ Some home → Contains (package_needs new.types new.interfaces new.worlds p home) q → q < length a.graph.packages
      newest p q home past at has =
          let from = filter_map_from (other_package new.interfaces p) (package_interfaces new.types new.interfaces new.worlds home) q has in
          let other = other_from new.interfaces p from.0 q from.2 in
          let long = ap length are.packages_are in
          let within = slice_get_within new.packages p home at in
          elim (package_of from.0 q other.0 other.1 other.2) [
            | inl old ↦ old
            | inr newer ↦ absurd (other.3 (omega (arith, newer, long, within, past, length-append a.graph.packages (new_package a ∷ []))))
          ]

  -- no package depends on itself
  pub added_packages_acyclic : IsAcyclic (package_uses new.types new.interfaces new.worlds new.packages)
  added_packages_acyclic = packages_acyclic a.graph new packages_grow valid.no_cycles.packages
