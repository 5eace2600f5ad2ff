-- A cut of good things that is closed is a good source.
use Rattle.std.proofs.Common.{◌≡◌, ◌∙◌, ◌⊎◌, inl, inr, ℕ, zero, suc, Bool, true, false, List, [], ◌∷◌, Option, None, Some, cond, filter, map, slice_get, refl, sym, ap, subst, arith, Contains, IsSome}
use Rattle.std.proofs.lemmas.List.{length-map}
use Rattle.wit_digraph.specs.facts.MemberFacts.{Contains-cons_cases, Contains-flat_map, Contains-flat_map_cases, Contains-nil}
use Rattle.wit_data.specs.Each.{Each}
use Rattle.wit_data.specs.Entries.{Entry, IsExport, IsImport}
use Rattle.wit_data.specs.Ownership.{IsListed, IsNamed, IsNamedInterface, entry_type, world_types}
use Rattle.wit_data.specs.Kind.{function_references, referred}
use Rattle.wit_data.specs.Uses.{alias_target}
use Rattle.wit_data.specs.declared.function.Function.{Function}
use Rattle.wit_data.specs.declared.interface.Interface.{Interface}
use Rattle.wit_data.specs.declared.types.TypeDef.{TypeDef}
use Rattle.wit_data.specs.declared.types.TypeOwner.{TypeOwner}
use Rattle.wit_data.specs.declared.world.World.{World}
use Rattle.wit_data.specs.declared.world.WorldItem.{WorldItem}
use Rattle.wit_data.specs.declared.world.WorldKey.{WorldKey}
use Rattle.wit_data.specs.declared.types.TypeOwner.TheVariants as owner
use Rattle.wit_data.specs.declared.world.WorldItem.TheVariants as item
use Rattle.wit_data.specs.declared.world.WorldKey.TheVariants as key
use Rattle.wit_elaboration.specs.facts.Filters.{Contains-filter, Contains-filtered}
use Rattle.wit_values.specs.Table.{HasDistinctKeys}
use Rattle.wit_elaboration.specs.Valid.{IsOfPackage}
use Rattle.wit_graph_theory.specs.Cut.{IsClosedCut, IsGoodWhere, ItemIsKept, OwnerIsKept, cut_source}
use Rattle.wit_remap_spec.specs.Kept.{KeptIds, cut_interface, cut_world}
use Rattle.wit_graph_theory.specs.facts.Good.{IsGoodExport, IsGoodImport, IsGoodInterface, IsGoodType}
use Rattle.wit_remap_spec.specs.Image.{Maps}
use Rattle.wit_graph_theory.specs.steps.Sources.{IsClosed, IsGoodSource, ItemIsActive, OwnerIsActive, Source, TakePart}
use Rattle.wit_graph_theory.specs.facts.GoodTypes.{IsAliased, from_if, if_some}
use Rattle.wit_graph_theory.specs.facts.ListFacts.{at_map, contained_at, found_at, from_map, place_of, some_at}

-- ---- lists

-- what holds of each element holds of each that is kept
each_kept : {X : Type 0} (P : X → Type 0) (p : X → Bool) (xs : List X) → Each P xs → Each P (filter p xs)
each_kept P p xs each i x at = let old = place_of xs x (Contains-filter p xs x (contained_at (filter p xs) i x at)).0 in each old.0 x old.1

-- keys that differ, differ among those kept
pub distinct_kept : {K V : Type 0} (p : (K × V) → Bool) (es : List (K × V)) → HasDistinctKeys es → HasDistinctKeys (filter p es)
distinct_kept p [] distinct = λ i j e f first second same. cc
distinct_kept {K} {V} p (x ∷ es) distinct = by (p x) (distinct_kept p es (λ i j e f first second same. let eq = distinct (suc i) (suc j) e f first second same in omega arith))
    (λ j f second same. let old = place_of es f (Contains-filter p es f (contained_at (filter p es) j f second)).0 in let eq = distinct 0 (suc old.0) x f refl old.1 same in omega arith)
  where
    by : (b : Bool) → HasDistinctKeys (filter p es) → ((j : ℕ) (f : K × V) → slice_get (filter p es) j ≡ Some f → x.0 ≡ f.0 → ⊥) → HasDistinctKeys (cond b (x ∷ filter p es) (filter p es))
    by false rest apart i j e f first second same = rest i j e f first second same
    by true rest apart zero zero e f first second same = refl
    by true rest apart zero (suc j) e f first second same = let is : x ≡ e = cc in absurd (apart j f second (ap (λ (z : K × V). z.0) is ∙ same))
    by true rest apart (suc i) zero e f first second same = let is : x ≡ f = cc in absurd (apart i e first (ap (λ (z : K × V). z.0) is ∙ sym same))
    by true rest apart (suc i) (suc j) e f first second same = let eq = rest i j e f first second same in omega arith

-- ---- the cut

module _ (kept : KeptIds) (types : List TypeDef) (interfaces : List Interface) (worlds : List World) (m : Maps) (closed : IsClosedCut kept types interfaces worlds)
    (good : IsGoodWhere kept types interfaces worlds) where
  abbrev cut_interfaces : List Interface
  cut_interfaces = map (cut_interface kept) interfaces

  abbrev cut_worlds : List World
  cut_worlds = map (cut_world kept) worlds

  abbrev source : Source
  source = cut_source kept types interfaces worlds m

  take_part : (ids : List ℕ) → Each (λ t. kept.types t ≡ true) ids → TakePart source ids
  take_part ids each t has = let place = place_of ids t has in each place.0 t place.1

  owner_is_active : (by : TypeOwner) → OwnerIsKept kept by → OwnerIsActive source by
  owner_is_active (owner.Interface f) h = h
  owner_is_active (owner.World w) h = h
  owner_is_active owner.None h = h

  item_is_active_there : (held : WorldItem) → ItemIsKept kept held → ItemIsActive source held
  item_is_active_there (item.Interface f stability docs span external_id) h = h
  item_is_active_there (item.Function f) h = take_part (function_references f) h
  item_is_active_there (item.Type_ t span) h = h

  entries_take_part : (es : List Entry) (e : Entry) → Each (λ (e : Entry). kept.items e.1 ≡ true → ItemIsKept kept e.1) es → Contains (filter (λ (e : Entry). kept.items e.1) es) e → ItemIsActive source e.1
  entries_take_part es e each has =
      let old = Contains-filter (λ (e : Entry). kept.items e.1) es e has in
      let place = place_of es e old.0 in
      item_is_active_there e.1 (each place.0 e place.1 old.1)

  is_closed : IsClosed source
  is_closed = record {
    in_range = closed.in_range;
    interfaces_in_range = λ f takes. let within = closed.interfaces_in_range f takes in omega (arith, length-map interfaces (cut_interface kept));
    references = λ t def at takes. take_part (referred def.kind) (closed.references t def at takes);
    owners = λ t def at takes. owner_is_active def.owner (closed.owners t def at takes);
    functions = λ f interface e at takes has.
        let from = from_map (cut_interface kept) interfaces f interface at in
        let among : Contains (filter (λ (e : List ℕ × Function). kept.functions e.1) from.0.functions) e = subst (λ (x : Interface). Contains x.functions e) (sym from.2) has in
        let old = Contains-filter (λ (e : List ℕ × Function). kept.functions e.1) from.0.functions e among in
        let place = place_of from.0.functions e old.0 in
        take_part (function_references e.1) (closed.functions f from.0 from.1 takes place.0 e place.1 old.1);
    imports = λ w world e at takes has.
        let from = from_map (cut_world kept) worlds w world at in
        entries_take_part from.0.imports e (closed.imports w from.0 from.1 takes) (subst (λ (x : World). Contains x.imports e) (sym from.2) has);
    exports = λ w world e at takes has.
        let from = from_map (cut_world kept) worlds w world at in
        entries_take_part from.0.exports e (closed.exports w from.0 from.1 takes) (subst (λ (x : World). Contains x.exports e) (sym from.2) has);
  }

  -- ---- types

  named_kept : (f : ℕ) → IsNamed interfaces f → IsNamed cut_interfaces f
  named_kept f named =
      let found = found_at (λ (interface : Interface). IsSome interface.name) interfaces f named in
      some_at (λ (interface : Interface). IsSome interface.name) cut_interfaces f (cut_interface kept found.0) (at_map (cut_interface kept) interfaces f found.0 found.1) found.2

  named_owner_kept : (by : TypeOwner) → IsNamedInterface interfaces by → IsNamedInterface cut_interfaces by
  named_owner_kept (owner.Interface f) named = named_kept f named
  named_owner_kept (owner.World w) named = named
  named_owner_kept owner.None named = named

  type_entry_kept : (k : WorldKey) (held : WorldItem) (name : List ℕ) (t : ℕ) → Contains (entry_type k held) (name, t) → kept.types t ≡ true → kept.items held ≡ true
  type_entry_kept (key.Name label) (item.Type_ u span) name t has takes =
      elim (Contains-cons_cases (label, u) (name, t) [] has) [
        | inl same ↦ closed.type_items u span ∙ ap kept.types (ap (λ (p : List ℕ × ℕ). p.1) same) ∙ takes
        | inr none ↦ absurd (Contains-nil none)
      ]
  type_entry_kept (key.Name label) (item.Interface i stability docs span external_id) name t has takes = absurd (Contains-nil has)
  type_entry_kept (key.Name label) (item.Function f) name t has takes = absurd (Contains-nil has)
  type_entry_kept (key.Interface f) held name t has takes = absurd (Contains-nil has)

  listed_kept : (t : ℕ) (name : Option (List ℕ)) (by : TypeOwner) → kept.types t ≡ true → IsListed interfaces worlds t name by → IsListed cut_interfaces cut_worlds t name by
  listed_kept t name owner.None takes h = h
  listed_kept t None (owner.Interface f) takes h = h
  listed_kept t None (owner.World w) takes h = h
  listed_kept t (Some name) (owner.Interface f) takes h =
      let found = found_at (λ (interface : Interface). Contains interface.types (name, t)) interfaces f h in
      some_at (λ (interface : Interface). Contains interface.types (name, t)) cut_interfaces f (cut_interface kept found.0) (at_map (cut_interface kept) interfaces f found.0 found.1)
      (Contains-filtered (λ (e : List ℕ × ℕ). kept.types e.1) found.0.types (name, t) found.2 takes)
  listed_kept t (Some name) (owner.World w) takes h =
      let found = found_at (λ (world : World). Contains (world_types world) (name, t)) worlds w h in
      let entry = Contains-flat_map_cases (λ (e : Entry). entry_type e.0 e.1) found.0.imports (name, t) found.2 in
      let stays = Contains-filtered (λ (e : Entry). kept.items e.1) found.0.imports entry.0 entry.1.0 (type_entry_kept entry.0.0 entry.0.1 name t entry.1.1 takes) in
      some_at (λ (world : World). Contains (world_types world) (name, t)) cut_worlds w (cut_world kept found.0) (at_map (cut_world kept) worlds w found.0 found.1)
      (Contains-flat_map (λ (e : Entry). entry_type e.0 e.1) (cut_world kept found.0).imports entry.0 (name, t) stays entry.1.1)

  aliased_kept : (by : TypeOwner) (t : ℕ) → IsAliased types interfaces by t → IsAliased types cut_interfaces by t
  aliased_kept by t target =
      let found = found_at (λ (named : TypeDef). IsSome named.name × ((named.owner ≡ by) ⊎ IsNamedInterface interfaces named.owner)) types t target in
      some_at (λ (named : TypeDef). IsSome named.name × ((named.owner ≡ by) ⊎ IsNamedInterface cut_interfaces named.owner)) types t found.0 found.1
      (found.2.0, elim found.2.1 [ inl own ↦ inl own | inr other ↦ inr (named_owner_kept found.0.owner other) ])

  type_kept : (t : ℕ) (def : TypeDef) → kept.types t ≡ true → IsGoodType types interfaces worlds t def → IsGoodType types cut_interfaces cut_worlds t def
  type_kept t def takes is = record {
    listed = listed_kept t def.name def.owner takes is.listed;
    alias = if_some (IsAliased types cut_interfaces def.owner) (alias_target def.kind) (λ u names. aliased_kept def.owner u (from_if (IsAliased types interfaces def.owner) (alias_target def.kind) u is.alias names));
    unnamed = is.unnamed;
    own = is.own;
  }

  -- ---- interfaces and entries

  interface_kept : (f : ℕ) (interface : Interface) → IsGoodInterface types f interface → IsGoodInterface types f (cut_interface kept interface)
  interface_kept f interface is = record {
    name = is.name;
    own_types = each_kept _ (λ (e : List ℕ × ℕ). kept.types e.1) interface.types is.own_types;
    functions = each_kept _ (λ (e : List ℕ × Function). kept.functions e.1) interface.functions is.functions;
    own_functions = each_kept _ (λ (e : List ℕ × Function). kept.functions e.1) interface.functions is.own_functions;
    distinct_types = distinct_kept (λ (e : List ℕ × ℕ). kept.types e.1) interface.types is.distinct_types;
    distinct_functions = distinct_kept (λ (e : List ℕ × Function). kept.functions e.1) interface.functions is.distinct_functions;
  }

  is_export_kept : (k : WorldKey) (held : WorldItem) → IsExport interfaces k held → IsExport cut_interfaces k held
  is_export_kept (key.Interface f) (item.Interface i stability docs span external_id) is = (is.0, named_kept f is.1)
  is_export_kept (key.Interface f) (item.Function fn) is = is
  is_export_kept (key.Interface f) (item.Type_ t span) is = is
  is_export_kept (key.Name name) (item.Interface i stability docs span external_id) is = omega (arith, is, length-map interfaces (cut_interface kept))
  is_export_kept (key.Name name) (item.Function fn) is = is
  is_export_kept (key.Name name) (item.Type_ t span) is = is

  is_import_kept : (w : ℕ) (k : WorldKey) (held : WorldItem) → IsImport interfaces types w k held → IsImport cut_interfaces types w k held
  is_import_kept w (key.Name name) (item.Type_ t span) is = is
  is_import_kept w (key.Name name) (item.Interface i stability docs span external_id) is = is_export_kept (key.Name name) (item.Interface i stability docs span external_id) is
  is_import_kept w (key.Name name) (item.Function fn) is = is
  is_import_kept w (key.Interface f) held is = is_export_kept (key.Interface f) held is

  home_kept : (home : Option ℕ) (held : WorldItem) → IsOfPackage interfaces home held → IsOfPackage cut_interfaces home held
  home_kept home (item.Interface i stability docs span external_id) of =
      let found = found_at (λ (interface : Interface). (interface.name ≡ None) → interface.package ≡ home) interfaces i of in
      some_at (λ (interface : Interface). (interface.name ≡ None) → interface.package ≡ home) cut_interfaces i (cut_interface kept found.0) (at_map (cut_interface kept) interfaces i found.0 found.1) found.2
  home_kept home (item.Function fn) of = of
  home_kept home (item.Type_ t span) of = of

  -- a closed cut of good things is a good source
  pub cut_is_good : IsGoodSource source
  cut_is_good = record {
    closed = is_closed;
    types = λ t def at takes. type_kept t def takes (good.types_are t def at takes);
    interfaces = λ f interface at takes.
        let from = from_map (cut_interface kept) interfaces f interface at in
        subst (IsGoodInterface types f) from.2 (interface_kept f from.0 (good.interfaces_are f from.0 from.1 takes));
    imports = λ w world at takes.
        let from = from_map (cut_world kept) worlds w world at in
        subst (λ (x : World). Each (IsGoodImport types cut_interfaces w x) x.imports) from.2
        (each_kept (IsGoodImport types cut_interfaces w (cut_world kept from.0)) (λ (e : Entry). kept.items e.1) from.0.imports
        (λ i e on. let is = good.imports_are w from.0 from.1 takes i e on in record { is = is_import_kept w e.0 e.1 is.is; own = is.own; home = home_kept from.0.package e.1 is.home }));
    exports = λ w world at takes.
        let from = from_map (cut_world kept) worlds w world at in
        subst (λ (x : World). Each (IsGoodExport types cut_interfaces w x) x.exports) from.2
        (each_kept (IsGoodExport types cut_interfaces w (cut_world kept from.0)) (λ (e : Entry). kept.items e.1) from.0.exports
        (λ i e on. let is = good.exports_are w from.0 from.1 takes i e on in record { is = is_export_kept e.0 e.1 is.is; own = is.own; home = home_kept from.0.package e.1 is.home }));
  }
