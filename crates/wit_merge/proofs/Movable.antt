-- The things of a valid graph can move and be joined in a merge.
use Rattle.std.proofs.Common.{◌≡◌, ◌∙◌, ℕ, ◌<◌, List, Option, None, Some, IsSome, is_some, length, not, option_and_then, slice_get, true, refl, sym, ap, subst, Contains}
use Rattle.std.proofs.lemmas.Bool.{lt-ltb, ltb-true, true≢false}
use Rattle.std.proofs.lemmas.Option.{slice_get_within}
use Rattle.std.specs.Map.{lookup}
use Rattle.std.specs.Option.{IsSomeAnd, option_map_or}
use Rattle.std.specs.Str.{bytes_eq}
use Rattle.wit_values.specs.Table.{HasDistinctKeys}
use Rattle.wit_data.specs.Each.{SomeAt}
use Rattle.wit_data.specs.Entries.{Entry, IsExport, IsImport, ItemUsesOwn}
use Rattle.wit_data.specs.Ownership.{IsNamed, IsTypeOf}
use Rattle.wit_data.specs.Kind.{function_references}
use Rattle.wit_data.specs.declared.interface.Interface.{Interface}
use Rattle.wit_data.specs.declared.types.TypeDef.{TypeDef}
use Rattle.wit_data.specs.declared.types.TypeOwner.{TypeOwner}
use Rattle.wit_data.specs.declared.world.World.{World}
use Rattle.wit_data.specs.declared.world.WorldItem.{WorldItem}
use Rattle.wit_data.specs.declared.world.WorldKey.{WorldKey}
use Rattle.wit_data.specs.declared.types.TypeOwner.TheVariants as owner
use Rattle.wit_data.specs.declared.world.WorldItem.TheVariants as item
use Rattle.wit_data.specs.declared.world.WorldKey.TheVariants as key
use Rattle.wit_elaboration.specs.Valid.{IsValid}
use Rattle.wit_graph_data.specs.declared.graph.Graph.{Graph}
use Rattle.wit_graph_data.specs.declared.graph.Package.{Package}
use Rattle.wit_graph_theory.specs.Cut.{mapped_source}
use Rattle.wit_graph_theory.specs.facts.Good.{IsGoodInterface, IsGoodPackage}
use Rattle.wit_graph_theory.specs.facts.GoodIsValid.{good_things}
use Rattle.wit_graph_theory.specs.facts.GraphSource.{mapped_is_good}
use Rattle.wit_graph_theory.specs.facts.ListFacts.{found_at, place_of}
use Rattle.wit_graph_theory.specs.steps.Sources.{IsGoodSource, OwnerIsActive, Source}
use Rattle.wit_merge_spec.specs.Merged.{joined_graph, merged, with_interface, with_package}
use Rattle.wit_merge_spec.specs.Matches.{GraphMerge, counterpart_interface, counterpart_interface_by, counterpart_package, counterpart_world, named_in_counterpart}
use Rattle.wit_merge_laws.specs.facts.InterfacesStand.{counterpart_is, old_interface_at, with_counterpart}
use Rattle.wit_merge_laws.specs.facts.JoinedGood.{joined_good}
use Rattle.wit_merge_laws.specs.facts.ListedStand.{moved_comes}
use Rattle.wit_merge_laws.specs.facts.MatchedOnce.{package_once}
use Rattle.wit_merge_laws.specs.facts.PackagesStand.{old_package_at, packages_good}
use Rattle.wit_merge.specs.steps.MergeSteps.{EntryWithin, FunctionsMove, InterfaceJoins, InterfaceMoves, OwnerWithin, PackageJoins, PackageMoves, TypeMoves, Within, WorldJoins, WorldMoves, CanMerge, merging_of}
use Rattle.wit_merge.specs.declared.merge_plan.MergePlan.{MergePlan}
use Rattle.wit_merge.proofs.Agrees.{of_any}
use Rattle.wit_remap_spec.specs.steps.Parts.{identity}
use Rattle.wit_merge_spec.specs.steps.Parts.{joined_package, moves_package}

-- what is said of a package is said of one that is there
home_there : {X : Type 0} (packages : List X) (home : Option ℕ) (P : ℕ → X → Type 0) → IsSomeAnd home (λ p. SomeAt packages p (P p)) → (p : ℕ) × (home ≡ Some p) × (p < length packages)
home_there packages None P is = absurd is
home_there packages (Some p) P is = let there = found_at (P p) packages p is in (p, refl, slice_get_within packages p there.0 there.1)

module _ (u : MergePlan) (ready : CanMerge u) where
  abbrev m : GraphMerge
  m = merging_of u

  abbrev other : Graph
  other = u.other.now

  abbrev s : Source
  s = mapped_source other identity

  good : IsGoodSource s
  good = mapped_is_good other (good_things other ready.valid_other) ready.valid_other.no_cycles.types identity

  type_takes : (t : ℕ) → t < length other.types → s.types t ≡ true
  type_takes t below = lt-ltb t (length other.types) below

  within : (ids : List ℕ) → ((x : ℕ) → Contains ids x → s.types x ≡ true) → Within (length other.types) ids
  within ids take x has = good.closed.in_range x (take x has)

  -- ---- types

  pub types_move : (t : ℕ) (def : TypeDef) → slice_get other.types t ≡ Some def → TypeMoves m def
  types_move t def at =
      let takes = type_takes t (slice_get_within other.types t def at) in
      record {
        parts = within _ (good.closed.references t def at takes);
        owned = by def.owner (good.closed.owners t def at takes);
        fits = ready.fits.of_types t def at;
      }
    where
      by : (of : TypeOwner) → OwnerIsActive s of → OwnerWithin (length other.interfaces) (length other.worlds) of
      by (owner.World w) takes = ltb-true w (length other.worlds) takes
      by (owner.Interface i) takes = ltb-true i (length other.interfaces) takes
      by owner.None takes = tt

  -- ---- interfaces

  module _ (i : ℕ) (interface : Interface) (at : slice_get other.interfaces i ≡ Some interface) where
    listed : (e : List ℕ × ℕ) → Contains interface.types e → e.1 < length other.types
    listed e has =
        let place = place_of interface.types e has in
        let is : IsTypeOf other.types (owner.Interface i) e.0 e.1 = ready.valid_other.well_formed.owners.own_types i interface at place.0 e place.1 in
        let there = found_at (λ (def : TypeDef). (def.name ≡ Some e.0) × (def.owner ≡ owner.Interface i)) other.types e.1 is in
        slice_get_within other.types e.1 there.0 there.1

    pub functions_move : FunctionsMove m interface.functions
    functions_move e has =
        let place = place_of interface.functions e has in
        record {
          parts = λ x names.
              let on = place_of (function_references e.1) x names in
              (ready.valid_other.well_formed.references.own_functions i interface at place.0 e place.1 on.0 x on.1).there;
          fits = (ready.fits.of_interfaces i interface at).functions place.0 e place.1;
        }

    pub interfaces_move : InterfaceMoves m interface
    interfaces_move =
        let home = home_there other.packages interface.package _ (ready.valid_other.well_formed.tables.interfaces_listed i interface at) in
        record {
          home = home.0;
          home_is = home.1;
          there = home.2;
          types = listed;
          functions = functions_move;
          fits = ready.fits.of_interfaces i interface at;
        }

  pub interfaces_join : (i i' : ℕ) (from into : Interface) → slice_get other.interfaces i ≡ Some from → counterpart_interface m i ≡ Some i' → slice_get u.graph.now.interfaces i' ≡ Some into → InterfaceJoins m from into
  interfaces_join i i' from into from_at found into_at =
      let at : slice_get (joined_graph m).interfaces i' ≡ Some (with_interface m from into) = old_interface_at m i' into into_at ∙ ap (λ (x : Interface). Some x) (with_counterpart m ready.valid ready.valid_other i i' from into from_at found) in
      let is : IsGoodInterface (joined_graph m).types i' (with_interface m from into) = (joined_good m ready.valid ready.valid_other ready.one).interfaces_are i' (with_interface m from into) at refl in
      record {
        types_apart = is.distinct_types;
        functions_apart = is.distinct_functions;
        types = listed i from from_at;
        functions = functions_move i from from_at;
      }

  -- ---- packages

  -- where a package moves, so does what its tables hold
  moves_with : (table : Package → List (List ℕ × ℕ)) (p : ℕ) (name : List ℕ) → moves_package m p ≡ true → named_in_counterpart table m (Some p) name ≡ None
  moves_with table p name moves = by (counterpart_package m p) refl
    where
      by : (o : Option ℕ) → counterpart_package m p ≡ o → named_in_counterpart table m (Some p) name ≡ None
      by None is = ap (λ (o : Option ℕ). option_and_then (λ p'. option_and_then (λ (there : Package). lookup (bytes_eq name) (table there)) (slice_get m.graph.packages p')) o) is
      by (Some p') is = absurd (true≢false (sym moves ∙ ap (λ (o : Option ℕ). not (is_some o)) is))

  module _ (p : ℕ) (home : Package) (at : slice_get other.packages p ≡ Some home) where
    interface_there : (e : List ℕ × ℕ) → Contains home.interfaces e → (interface : Interface) × (slice_get other.interfaces e.1 ≡ Some interface) × (interface.name ≡ Some e.0) × (interface.package ≡ Some p)
    interface_there e has =
        let place = place_of home.interfaces e has in
        let there = found_at (λ (interface : Interface). (interface.name ≡ Some e.0) × (interface.package ≡ Some p)) other.interfaces e.1 (ready.valid_other.well_formed.tables.interface_tables p home at place.0 e place.1) in
        (there.0, there.1, there.2.0, there.2.1)

    world_there : (e : List ℕ × ℕ) → Contains home.worlds e → (world : World) × (slice_get other.worlds e.1 ≡ Some world) × (world.name ≡ e.0) × (world.package ≡ Some p)
    world_there e has =
        let place = place_of home.worlds e has in
        let there = found_at (λ (world : World). (world.name ≡ e.0) × (world.package ≡ Some p)) other.worlds e.1 (ready.valid_other.well_formed.tables.world_tables p home at place.0 e place.1) in
        (there.0, there.1, there.2.0, there.2.1)

    interfaces_there : (e : List ℕ × ℕ) → Contains home.interfaces e → e.1 < length other.interfaces
    interfaces_there e has = let there = interface_there e has in slice_get_within other.interfaces e.1 there.0 there.1

    worlds_there : (e : List ℕ × ℕ) → Contains home.worlds e → e.1 < length other.worlds
    worlds_there e has = let there = world_there e has in slice_get_within other.worlds e.1 there.0 there.1

    pub packages_move : moves_package m p ≡ true → PackageMoves m home
    packages_move moves = record {
      interfaces_apart = ready.valid_other.well_formed.tables.distinct_interfaces p home at;
      worlds_apart = ready.valid_other.well_formed.tables.distinct_worlds p home at;
      interfaces = λ e has.
          let there = interface_there e has in
          let none : counterpart_interface m e.1 ≡ None =
          ap (option_and_then (λ (interface : Interface). counterpart_interface_by m e.1 interface.package interface.name)) there.1 ∙ (λ j. counterpart_interface_by m e.1 (there.3 j) (there.2 j)) ∙ moves_with (λ (there : Package). there.interfaces) p e.0 moves in
          (interfaces_there e has, ap (λ (o : Option ℕ). not (is_some o)) none);
      worlds = λ e has.
          let there = world_there e has in
          let none : counterpart_world m e.1 ≡ None =
          ap (option_and_then (λ (world : World). named_in_counterpart (λ (there : Package). there.worlds) m world.package world.name)) there.1
          ∙ (λ j. named_in_counterpart (λ (there : Package). there.worlds) m (there.3 j) (there.2 j)) ∙ moves_with (λ (there : Package). there.worlds) p e.0 moves in
          (worlds_there e has, ap (λ (o : Option ℕ). not (is_some o)) none);
    }

  pub packages_join : (p p' : ℕ) (from into : Package) → slice_get other.packages p ≡ Some from → counterpart_package m p ≡ Some p' → slice_get u.graph.now.packages p' ≡ Some into → PackageJoins m from into
  packages_join p p' from into from_at found into_at =
      let joined : joined_package m (p', into) ≡ with_package m from into =
      ap (λ (o : Option (ℕ × Package)). option_map_or (λ (e : ℕ × Package). with_package m e.1 into) o into)
      (counterpart_is (counterpart_package m) other.packages p' (λ i j. package_once m ready.valid ready.valid_other i j p') p from from_at found) in
      let at : slice_get (merged m).packages p' ≡ Some (with_package m from into) = old_package_at m p' into into_at ∙ ap (λ (x : Package). Some x) joined in
      let is : IsGoodPackage (merged m).interfaces (merged m).worlds p' (with_package m from into) = packages_good m ready.valid ready.valid_other p' (with_package m from into) at in
      record {
        interfaces_apart = is.distinct_interfaces;
        worlds_apart = is.distinct_worlds;
        interfaces = interfaces_there p from from_at;
        worlds = worlds_there p from from_at;
      }

  -- ---- worlds

  module _ (g : Graph) (valid : IsValid g) (w : ℕ) where
    named_there : (f : ℕ) → IsNamed g.interfaces f → f < length g.interfaces
    named_there f named = let found = found_at (λ (interface : Interface). IsSome interface.name) g.interfaces f named in slice_get_within g.interfaces f found.0 found.1

    entry_within : (k : WorldKey) (held : WorldItem) → IsImport g.interfaces g.types w k held → ItemUsesOwn g.types w held → EntryWithin (length g.types) (length g.interfaces) (k, held)
    entry_within (key.Interface f) (item.Interface i stability docs span external_id) is own = record { key = named_there f is.1; held = subst (λ (x : ℕ). x < length g.interfaces) (sym is.0) (named_there f is.1) }
    entry_within (key.Interface f) (item.Function fn) is own = absurd is
    entry_within (key.Interface f) (item.Type_ t span) is own = absurd is
    entry_within (key.Name name) (item.Interface i stability docs span external_id) is own = record { key = tt; held = is }
    entry_within (key.Name name) (item.Function fn) is own = record {
      key = tt;
      held = λ x has. let on = place_of (function_references fn) x has in (own on.0 x on.1).there;
    }
    entry_within (key.Name name) (item.Type_ t span) is own =
        let found = found_at (λ (def : TypeDef). (def.name ≡ Some name) × (def.owner ≡ owner.World w)) g.types t is in
        record { key = tt; held = slice_get_within g.types t found.0 found.1 }

    as_import : (k : WorldKey) (held : WorldItem) → IsExport g.interfaces k held → IsImport g.interfaces g.types w k held
    as_import (key.Name name) (item.Type_ t span) is = absurd is
    as_import (key.Name name) (item.Interface i stability docs span external_id) is = is
    as_import (key.Name name) (item.Function fn) is = is
    as_import (key.Interface f) held is = is

    module _ (world : World) (at : slice_get g.worlds w ≡ Some world) where
      imports_within : (e : Entry) → Contains world.imports e → EntryWithin (length g.types) (length g.interfaces) e
      imports_within e has =
          let on = place_of world.imports e has in
          entry_within e.0 e.1 (valid.well_formed.worlds.imports w world at on.0 e on.1) (valid.well_formed.worlds.imported_functions w world at on.0 e on.1)

      exports_within : (e : Entry) → Contains world.exports e → EntryWithin (length g.types) (length g.interfaces) e
      exports_within e has =
          let on = place_of world.exports e has in
          entry_within e.0 e.1 (as_import e.0 e.1 (valid.well_formed.worlds.exports w world at on.0 e on.1)) (valid.well_formed.worlds.exported_functions w world at on.0 e on.1)

  pub worlds_move : (w : ℕ) (world : World) → slice_get other.worlds w ≡ Some world → WorldMoves m world
  worlds_move w world at =
      let home = home_there other.packages world.package (λ p (home : Package). Contains home.worlds (world.name, w)) (ready.valid_other.well_formed.tables.worlds_listed w world at) in
      let comes = moved_comes m ready.valid ready.valid_other w world at in
      record {
        home = home.0;
        home_is = home.1;
        there = home.2;
        imports = imports_within other ready.valid_other w world at;
        exports = exports_within other ready.valid_other w world at;
        imports_apart = subst (λ (l : List Entry). HasDistinctKeys l) (of_any u ready w 0 world.imports) comes.distinct_imports;
        exports_apart = subst (λ (l : List Entry). HasDistinctKeys l) (of_any u ready w 0 world.exports) comes.distinct_exports;
        includes = ready.valid_other.well_formed.worlds.no_includes w world at;
        fits = (ready.fits.of_worlds w world at).entries;
      }

  pub worlds_join : (w' : ℕ) (into : World) → slice_get u.graph.now.worlds w' ≡ Some into → WorldJoins m into
  worlds_join w' into at = record {
    imports_apart = ready.valid.well_formed.worlds.distinct_imports w' into at;
    exports_apart = ready.valid.well_formed.worlds.distinct_exports w' into at;
    imports = λ e has. (imports_within u.graph.now ready.valid w' into at e has).key;
    exports = λ e has. (exports_within u.graph.now ready.valid w' into at e has).key;
  }
