-- An entry that comes from a good one, or that elaboration adds, is good; so is a world of such entries.
use Rattle.std.proofs.Common.{◌≡◌, ◌∙◌, inl, inr, ℕ, true, List, [], ◌∷◌, Option, None, Some, slice_get, sym, ap, subst, arith, IsSome}
use Rattle.std.proofs.lemmas.List.Elements.{Contains-append_cases}
use Rattle.std.proofs.lemmas.Option.{slice_get_within}
use Rattle.wit_data.specs.Each.{SomeAt}
use Rattle.wit_data.specs.Entries.{Entry, IsExport, IsImport, ItemUsesOwn, item_interface}
use Rattle.wit_data.specs.Ownership.{IsNamed}
use Rattle.wit_data.specs.declared.interface.Interface.{Interface}
use Rattle.wit_data.specs.declared.types.TypeDef.{TypeDef}
use Rattle.wit_data.specs.declared.world.World.{World}
use Rattle.wit_data.specs.declared.world.WorldItem.{WorldItem}
use Rattle.wit_data.specs.declared.world.WorldKey.{WorldKey}
use Rattle.wit_data.specs.declared.types.TypeOwner.TheVariants as owner
use Rattle.wit_data.specs.declared.world.WorldItem.TheVariants as item
use Rattle.wit_data.specs.declared.world.WorldKey.TheVariants as key
use Rattle.wit_elaboration.specs.Elaborated.{without_span}
use Rattle.wit_elaboration.specs.laws.KeptByElaboration.{listed_without_span}
use Rattle.wit_elaboration.specs.Valid.{IsOfPackage}
use Rattle.wit_graph_data.specs.declared.graph.Graph.{Graph}
use Rattle.wit_graph_theory.specs.facts.Covered.{EntryComes, IsDependency, IsNoType, ItemComes, WorldComes}
use Rattle.wit_graph_theory.specs.facts.Good.{IsGoodExport, IsGoodImport, IsGoodWorld}
use Rattle.wit_remap_spec.specs.Image.{key_image}
use Rattle.wit_graph_theory.specs.steps.Sources.{Carries, InterfaceStands, IsClosed, IsGoodSource, ItemIsActive, Source, WorldStands}
use Rattle.wit_graph_theory.specs.facts.GoodInterfaces.{function_stands, type_stands}
use Rattle.wit_graph_theory.specs.facts.GoodTypes.{named_stands}
use Rattle.wit_graph_theory.specs.facts.ListFacts.{found_at, get_at, place_of, some_at}
use Rattle.wit_graph_theory.specs.facts.OptionFacts.{none_or_some}

-- ---- imports and exports

pub import_from_export : (interfaces : List Interface) (types : List TypeDef) (w : ℕ) (k : WorldKey) (held : WorldItem) → IsExport interfaces k held → IsImport interfaces types w k held
import_from_export interfaces types w (key.Name name) (item.Type_ id span) is = absurd is
import_from_export interfaces types w (key.Name name) (item.Interface id stability docs span external_id) is = is
import_from_export interfaces types w (key.Name name) (item.Function f) is = is
import_from_export interfaces types w (key.Interface f) held is = is

pub export_from_import : (interfaces : List Interface) (types : List TypeDef) (w : ℕ) (k : WorldKey) (held : WorldItem) → IsImport interfaces types w k held → IsNoType held → IsExport interfaces k held
export_from_import interfaces types w (key.Name name) (item.Type_ id span) is no_type = absurd no_type
export_from_import interfaces types w (key.Name name) (item.Interface id stability docs span external_id) is no_type = is
export_from_import interfaces types w (key.Name name) (item.Function f) is no_type = is
export_from_import interfaces types w (key.Interface f) held is no_type = is

pub same_one : (i j : ℕ) → i ∷ [] ≡ j ∷ [] → i ≡ j
same_one i j same = cc

-- ---- an interface without its span is as good

import_without_span : (interfaces : List Interface) (types : List TypeDef) (w : ℕ) (k : WorldKey) (held : WorldItem) → IsImport interfaces types w k held → IsImport interfaces types w k (without_span held)
import_without_span interfaces types w (key.Interface f) (item.Interface i stability docs span external_id) is = is
import_without_span interfaces types w (key.Interface f) (item.Function fn) is = is
import_without_span interfaces types w (key.Interface f) (item.Type_ t span) is = is
import_without_span interfaces types w (key.Name name) (item.Interface i stability docs span external_id) is = is
import_without_span interfaces types w (key.Name name) (item.Function fn) is = is
import_without_span interfaces types w (key.Name name) (item.Type_ t span) is = is

without_span_own : (types : List TypeDef) (w : ℕ) (held : WorldItem) → ItemUsesOwn types w held → ItemUsesOwn types w (without_span held)
without_span_own types w (item.Interface i stability docs span external_id) own = own
without_span_own types w (item.Function fn) own = own
without_span_own types w (item.Type_ t span) own = own

without_span_home : (interfaces : List Interface) (home : Option ℕ) (held : WorldItem) → IsOfPackage interfaces home held → IsOfPackage interfaces home (without_span held)
without_span_home interfaces home (item.Interface i stability docs span external_id) of = of
without_span_home interfaces home (item.Function fn) of = of
without_span_home interfaces home (item.Type_ t span) of = of

pub without_span_is_good : (types : List TypeDef) (interfaces : List Interface) (w : ℕ) (world : World) (e : Entry) → IsGoodImport types interfaces w world e → IsGoodImport types interfaces w world (listed_without_span e)
without_span_is_good types interfaces w world e good = record {
  is = import_without_span interfaces types w e.0 e.1 good.is;
  own = without_span_own types w e.1 good.own;
  home = without_span_home interfaces world.package e.1 good.home;
}

-- ---- from a source

module _ (s : Source) (g : Graph) (closed : IsClosed s) (carries : Carries s g) (w : ℕ) where
  import_comes : (k : WorldKey) (held new : WorldItem) → ItemIsActive s held → IsImport s.graph.interfaces s.graph.types w k held → ItemComes s w held new
      → IsImport g.interfaces g.types (s.maps.worlds w) (key_image s.maps w k) new
  import_comes (key.Interface f) (item.Interface i stability docs span external_id) (item.Interface i' stability' docs' span' external_id') takes is comes = (
    same_one i' (s.maps.interfaces i) comes ∙ ap s.maps.interfaces is.0,
    named_stands s g closed carries f (subst (λ (x : ℕ). s.interfaces x ≡ true) is.0 takes) is.1,
  )
  import_comes (key.Interface f) (item.Interface i stability docs span external_id) (item.Function f') takes is comes = cc
  import_comes (key.Interface f) (item.Interface i stability docs span external_id) (item.Type_ t' span') takes is comes = cc
  import_comes (key.Interface f) (item.Function fn) new takes is comes = absurd is
  import_comes (key.Interface f) (item.Type_ t span) new takes is comes = absurd is
  import_comes (key.Name name) (item.Interface i stability docs span external_id) (item.Interface i' stability' docs' span' external_id') takes is comes =
      let old = get_at s.graph.interfaces i is in
      let new = found_at (InterfaceStands s old.0) g.interfaces (s.maps.interfaces i) (carries.interfaces i old.0 old.1 takes) in
      let within = slice_get_within g.interfaces (s.maps.interfaces i) new.0 new.1 in
      let place = same_one i' (s.maps.interfaces i) comes in
      omega arith
  import_comes (key.Name name) (item.Interface i stability docs span external_id) (item.Function f') takes is comes = cc
  import_comes (key.Name name) (item.Interface i stability docs span external_id) (item.Type_ t' span') takes is comes = cc
  import_comes (key.Name name) (item.Function fn) new takes is comes =
      subst (IsImport g.interfaces g.types (s.maps.worlds w) (key.Name (s.maps.labels w name))) (sym comes.1) (comes.2 ∙ ap (s.maps.labels w) is)
  import_comes (key.Name name) (item.Type_ t span) new takes is comes =
      subst (IsImport g.interfaces g.types (s.maps.worlds w) (key.Name (s.maps.labels w name))) (sym comes.1) (type_stands s g carries (owner.World w) name t takes is)

  own_comes : (held new : WorldItem) → ItemIsActive s held → ItemUsesOwn s.graph.types w held → ItemComes s w held new → ItemUsesOwn g.types (s.maps.worlds w) new
  own_comes (item.Interface i stability docs span external_id) (item.Interface i' stability' docs' span' external_id') takes own comes = tt
  own_comes (item.Interface i stability docs span external_id) (item.Function f') takes own comes = cc
  own_comes (item.Interface i stability docs span external_id) (item.Type_ t' span') takes own comes = tt
  own_comes (item.Function f) new takes own comes =
      subst (ItemUsesOwn g.types (s.maps.worlds w)) (sym comes.1) (function_stands s g closed carries (owner.World w) f comes.0 takes own comes.3)
  own_comes (item.Type_ t span) new takes own comes = subst (ItemUsesOwn g.types (s.maps.worlds w)) (sym comes.1) tt

  home_comes : (home : Option ℕ) (k : WorldKey) (held new : WorldItem) → ItemIsActive s held → IsOfPackage s.graph.interfaces home held → ItemComes s w held new
      → IsOfPackage g.interfaces (s.maps.home home) new
  home_comes home k (item.Interface i stability docs span external_id) (item.Interface i' stability' docs' span' external_id') takes of comes =
      let old = found_at (λ (interface : Interface). (interface.name ≡ None) → interface.package ≡ home) s.graph.interfaces i of in
      let new = found_at (InterfaceStands s old.0) g.interfaces (s.maps.interfaces i) (carries.interfaces i old.0 old.1 takes) in
      subst (λ (j : ℕ). SomeAt g.interfaces j (λ (interface : Interface). (interface.name ≡ None) → interface.package ≡ s.maps.home home)) (sym (same_one i' (s.maps.interfaces i) comes))
      (some_at (λ (interface : Interface). (interface.name ≡ None) → interface.package ≡ s.maps.home home) g.interfaces (s.maps.interfaces i) new.0 new.1
      (λ none. let nameless_old = sym new.2.name ∙ none in new.2.home nameless_old ∙ ap s.maps.home (old.2 nameless_old)))
  home_comes home k (item.Interface i stability docs span external_id) (item.Function f') takes of comes = tt
  home_comes home k (item.Interface i stability docs span external_id) (item.Type_ t' span') takes of comes = tt
  home_comes home k (item.Function f) new takes of comes = subst (IsOfPackage g.interfaces (s.maps.home home)) (sym comes.1) tt
  home_comes home k (item.Type_ t span) new takes of comes = subst (IsOfPackage g.interfaces (s.maps.home home)) (sym comes.1) tt

-- ---- added by elaboration

module _ (g : Graph) (w : ℕ) (world : World) where
  depends : (k : WorldKey) (held : WorldItem) (f : ℕ) → k ≡ key.Interface f → item_interface held ≡ f ∷ [] → IsNamed g.interfaces f
      → IsExport g.interfaces k held × ItemUsesOwn g.types w held × IsOfPackage g.interfaces world.package held × IsNoType held
  depends k (item.Interface i stability docs span external_id) f is held named =
      let same = same_one i f held in
      let there = found_at (λ (interface : Interface). IsSome interface.name) g.interfaces f named in (
        subst (λ (x : WorldKey). IsExport g.interfaces x (item.Interface i stability docs span external_id)) (sym is) (same, named),
        tt,
        subst (λ (j : ℕ). SomeAt g.interfaces j (λ (interface : Interface). (interface.name ≡ None) → interface.package ≡ world.package)) (sym same)
            (some_at (λ (interface : Interface). (interface.name ≡ None) → interface.package ≡ world.package) g.interfaces f there.0 there.1 (λ none. absurd (none_or_some there.0.name none there.2))),
        tt,
      )
  depends k (item.Function fn) f is held named = cc
  depends k (item.Type_ t span) f is held named = cc

  pub dependency_import : (e : Entry) → IsDependency g.interfaces e → IsGoodImport g.types g.interfaces w world e
  dependency_import e added =
      let all = depends e.0 e.1 added.f added.key added.held added.named in
      record { is = import_from_export g.interfaces g.types w e.0 e.1 all.0; own = all.1; home = all.2 }

  pub dependency_export : (e : Entry) → IsDependency g.interfaces e → IsGoodExport g.types g.interfaces w world e
  dependency_export e added =
      let all = depends e.0 e.1 added.f added.key added.held added.named in
      record { is = all.0; own = all.1; home = all.2 }

-- ---- worlds

module _ {K : Type 0} (at : K → Source) (g : Graph) (good : (k : K) → IsGoodSource (at k)) (carries : (k : K) → Carries (at k) g) (w' : ℕ) (new : World)
    (there : slice_get g.worlds w' ≡ Some new) where
  good_entry : (e : Entry) → EntryComes at w' e → IsGoodImport g.types g.interfaces w' new e
  good_entry e comes =
      let s = at comes.source in
      let from = comes.from in
      let closed = (good comes.source).closed in
      let stands = found_at (WorldStands s from.w from.old) g.worlds (s.maps.worlds from.w) ((carries comes.source).worlds from.w from.old from.there from.takes) in
      let same : stands.0 ≡ new = let first = stands.1 in let second = there in let place = from.place in cc in
      let home : new.package ≡ s.maps.home from.old.package = ap (λ (v : World). v.package) (sym same) ∙ stands.2.home in
      let old : IsGoodImport s.graph.types s.graph.interfaces from.w from.old comes.old =
      elim (Contains-append_cases from.old.imports from.old.exports comes.old comes.listed) [
        | inl among ↦ let place = place_of from.old.imports comes.old among in (good comes.source).imports from.w from.old from.there from.takes place.0 comes.old place.1
        | inr among ↦
            let place = place_of from.old.exports comes.old among in
            let export = (good comes.source).exports from.w from.old from.there from.takes place.0 comes.old place.1 in
            record { is = import_from_export s.graph.interfaces s.graph.types from.w comes.old.0 comes.old.1 export.is; own = export.own; home = export.home }
      ] in
      let takes : ItemIsActive s comes.old.1 =
      elim (Contains-append_cases from.old.imports from.old.exports comes.old comes.listed) [
        | inl among ↦ closed.imports from.w from.old comes.old from.there from.takes among
        | inr among ↦ closed.exports from.w from.old comes.old from.there from.takes among
      ] in
      record {
        is =
            subst (λ (k : WorldKey). IsImport g.interfaces g.types w' k e.1) (sym comes.key)
            (subst (λ (w : ℕ). IsImport g.interfaces g.types w (key_image s.maps from.w comes.old.0) e.1) (sym from.place)
            (import_comes s g closed (carries comes.source) from.w comes.old.0 comes.old.1 e.1 takes old.is comes.held));
        own =
            subst (λ (w : ℕ). ItemUsesOwn g.types w e.1) (sym from.place)
            (own_comes s g closed (carries comes.source) from.w comes.old.1 e.1 takes old.own comes.held);
        home =
            subst (λ (home : Option ℕ). IsOfPackage g.interfaces home e.1) (sym home)
            (home_comes s g closed (carries comes.source) from.w from.old.package comes.old.0 comes.old.1 e.1 takes old.home comes.held);
      }

  pub good_world : WorldComes at g w' new → IsGoodWorld g.types g.interfaces w' new
  good_world comes = record {
    imports = λ i e on. elim (comes.imports i e on) [ inl from ↦ good_entry e from | inr added ↦ dependency_import g w' new e added ];
    exports = λ i e on. elim (comes.exports i e on) [
      | inl from ↦
          let import = good_entry e from.0 in
          record { is = export_from_import g.interfaces g.types w' e.0 e.1 import.is from.1; own = import.own; home = import.home }
      | inr added ↦ dependency_export g w' new e added
    ];
    distinct_imports = comes.distinct_imports;
    distinct_exports = comes.distinct_exports;
    no_includes = comes.no_includes;
  }
