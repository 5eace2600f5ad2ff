-- Where no cause holds against an addition, what is active of the package stands in the graph that comes of it.
use Rattle.std.proofs.Common.{◌≡◌, ◌∙◌, ℕ, ◌+◌, ◌<◌, ◌&&◌, Bool, true, false, not, List, [], length, Option, None, Some, option_and_then, unwrap_or, nat_eq, IsSome, slice_get, refl, sym, ap, subst, arith, if◌then◌else◌}
use Rattle.std.specs.List.{list_any}
use Rattle.std.specs.Map.{lookup}
use Rattle.std.specs.Str.{bytes_eq}
use Rattle.std.proofs.lemmas.Bool.{lt-ltb, ltb-true}
use Rattle.std.proofs.lemmas.Map.Views.{Contains-from_lookup}
use Rattle.std.proofs.lemmas.Slice.Eq.{bytes_eq-Decides}
use Rattle.wit_data.specs.Each.{SomeAt}
use Rattle.wit_data.specs.Foreign.{ForeignItem, IsForeignType, IsNameOnly, foreign_interfaces, interface_id}
use Rattle.wit_data.specs.Ownership.{IsTypeOf}
use Rattle.wit_data.specs.Shape.{IsShaped}
use Rattle.wit_data.specs.declared.interface.Interface.{Interface}
use Rattle.wit_names.specs.declared.package_name.PackageName.{PackageName}
use Rattle.wit_data.specs.declared.types.TypeDef.{TypeDef}
use Rattle.wit_data.specs.declared.types.TypeOwner.{TypeOwner}
use Rattle.wit_data.specs.declared.world.World.{World}
use Rattle.wit_data.specs.declared.types.TypeOwner.TheVariants as owner
use Rattle.std.proofs.lemmas.Option.{slice_get_within}
use Rattle.wit_data.specs.declared.unresolved.AstItem.TheVariants as named
use Rattle.wit_sources.specs.Span.{moved_by}
use Rattle.wit_elaboration.specs.Valid.{IsValid}
use Rattle.wit_graph_data.specs.declared.graph.Graph.{Graph}
use Rattle.wit_graph_data.specs.declared.graph.Package.{Package}
use Rattle.wit_graph_theory.specs.facts.ListFacts.{found_at, get_at, place_of, same_at, some_at}
use Rattle.wit_link_spec.specs.Addition.{Addition, own_interface, own_type, own_world, remapped_interface, remapped_type, remapped_world}
use Rattle.wit_remap_spec.specs.Selected.{rank}
use Rattle.wit_link_spec.specs.facts.ClosedCut.{kept_interface}
use Rattle.wit_link_spec.specs.facts.ForeignFound.{find-passes, interface_found, interface_of, named_at, world_found}
use Rattle.wit_link_spec.specs.Gates.{OptionalSpan, interface_is_active, is_foreign_interface, is_foreign_world, type_is_active, world_is_active}
use Rattle.wit_link_spec.specs.Lookup.{find_interface, find_package, find_world, foreign_interface_id, foreign_type_id, foreign_world_id, is_foreign_type, named_items, naming_item, owning_interface}
use Rattle.wit_graph_data.specs.Named.{interface_type}
use Rattle.wit_link_spec.specs.Reasons.{IsResolved, of_foreign_type}
use Rattle.wit_data.specs.steps.Parts.{IsNameOnlyInterface}

-- ---- what ids are remapped to

-- what is its own and is active goes to the next id
own_goes : (active foreign : Bool) (found : Option ℕ) (next id : ℕ) → not foreign && active ≡ true → unwrap_or (if active then (if foreign then found else Some next) else None) id ≡ next
own_goes true true found next id h = cc
own_goes true false found next id h = refl
own_goes false true found next id h = cc
own_goes false false found next id h = cc

-- what is foreign and is active goes where it is found
foreign_goes : (active foreign : Bool) (found : Option ℕ) (next id there : ℕ) → active ≡ true → foreign ≡ true → found ≡ Some there
    → unwrap_or (if active then (if foreign then found else Some next) else None) id ≡ there
foreign_goes true true found next id there h k at = ap (λ (o : Option ℕ). unwrap_or o id) at
foreign_goes true false found next id there h k at = cc
foreign_goes false foreign found next id there h k at = cc

module _ (a : Addition) where
  pub own_type_remapped : (t : ℕ) → own_type a t ≡ true → remapped_type a t ≡ length a.graph.types + rank (own_type a) t
  own_type_remapped t own = own_goes (type_is_active a.features a.unresolved.types t) (is_foreign_type a.unresolved t) (foreign_type_id a.graph a.unresolved t) (length a.graph.types + rank (own_type a) t) t own

  pub own_interface_remapped : (i : ℕ) → own_interface a i ≡ true → remapped_interface a i ≡ length a.graph.interfaces + rank (own_interface a) i
  own_interface_remapped i own =
      own_goes (interface_is_active a.features a.unresolved i) (is_foreign_interface a.unresolved i) (foreign_interface_id a.graph a.unresolved i) (length a.graph.interfaces + rank (own_interface a) i) i own

  pub own_world_remapped : (w : ℕ) → own_world a w ≡ true → remapped_world a w ≡ length a.graph.worlds + rank (own_world a) w
  own_world_remapped w own = own_goes (world_is_active a.features a.unresolved w) (is_foreign_world a.unresolved w) _ (length a.graph.worlds + rank (own_world a) w) w own

-- ---- what is found in the graph

-- an interface that is found has the name under which it is sought
pub find_is : (g : Graph) → IsValid g → (own home : PackageName) (name : List ℕ) (i : ℕ) → find_interface g own home name ≡ Some i → SomeAt g.interfaces i (λ (interface : Interface). interface.name ≡ Some name)
find_is g valid own home name i found = in_package (find_package g own home) found
  where
    in_table : (p : ℕ) (o : Option Package) → slice_get g.packages p ≡ o → option_and_then (λ (there : Package). lookup (bytes_eq name) there.interfaces) o ≡ Some i
        → SomeAt g.interfaces i (λ (interface : Interface). interface.name ≡ Some name)
    in_table p None at h = cc
    in_table p (Some there) at h =
        let has = Contains-from_lookup (λ x y. (bytes_eq-Decides x y).0) name i there.interfaces h in
        let place = place_of there.interfaces (name, i) has in
        let is = found_at (λ (interface : Interface). (interface.name ≡ Some name) × (interface.package ≡ Some p)) g.interfaces i (valid.well_formed.tables.interface_tables p there at place.0 (name, i) place.1) in
        some_at (λ (interface : Interface). interface.name ≡ Some name) g.interfaces i is.0 is.1 is.2.0

    in_package : (o : Option ℕ) → option_and_then (λ p. option_and_then (λ (there : Package). lookup (bytes_eq name) there.interfaces) (slice_get g.packages p)) o ≡ Some i
        → SomeAt g.interfaces i (λ (interface : Interface). interface.name ≡ Some name)
    in_package None h = cc
    in_package (Some p) h = in_table p (slice_get g.packages p) refl h

-- a world that is found is there
pub find_world_within : (g : Graph) → IsValid g → (own home : PackageName) (name : List ℕ) (w : ℕ) → find_world g own home name ≡ Some w → w < length g.worlds
find_world_within g valid own home name w found = in_package (find_package g own home) found
  where
    in_table : (p : ℕ) (o : Option Package) → slice_get g.packages p ≡ o → option_and_then (λ (there : Package). lookup (bytes_eq name) there.worlds) o ≡ Some w → w < length g.worlds
    in_table p None at h = cc
    in_table p (Some there) at h =
        let has = Contains-from_lookup (λ x y. (bytes_eq-Decides x y).0) name w there.worlds h in
        let place = place_of there.worlds (name, w) has in
        let is = found_at (λ (world : World). (world.name ≡ name) × (world.package ≡ Some p)) g.worlds w (valid.well_formed.tables.world_tables p there at place.0 (name, w) place.1) in
        slice_get_within g.worlds w is.0 is.1

    in_package : (o : Option ℕ) → option_and_then (λ p. option_and_then (λ (there : Package). lookup (bytes_eq name) there.worlds) (slice_get g.packages p)) o ≡ Some w → w < length g.worlds
    in_package None h = cc
    in_package (Some p) h = in_table p (slice_get g.packages p) refl h

-- a type that an interface lists is its own, under that name
pub listed_is : (g : Graph) → IsValid g → (name : List ℕ) (i t : ℕ) → interface_type g name i ≡ Some t → IsTypeOf g.types (owner.Interface i) name t
listed_is g valid name i t found = by (slice_get g.interfaces i) refl found
  where
    by : (o : Option Interface) → slice_get g.interfaces i ≡ o → option_and_then (λ (interface : Interface). lookup (bytes_eq name) interface.types) o ≡ Some t → IsTypeOf g.types (owner.Interface i) name t
    by None at h = cc
    by (Some interface) at h =
        let has = Contains-from_lookup (λ x y. (bytes_eq-Decides x y).0) name t interface.types h in
        let place = place_of interface.types (name, t) has in
        valid.well_formed.owners.own_types i interface at place.0 (name, t) place.1

-- ---- what is foreign is found

module _ (a : Addition) (valid : IsValid a.graph) (shaped : IsShaped a.unresolved) (image : IsResolved a) where
  -- a world of another package that is active goes to one of the graph
  pub foreign_world_within : (w : ℕ) → is_foreign_world a.unresolved w ≡ true → world_is_active a.features a.unresolved w ≡ true → remapped_world a w < length a.graph.worlds
  foreign_world_within w foreign active =
      let is = world_found a shaped image w foreign active in
      let e = is.0 in
      let there : foreign_world_id a.graph a.unresolved w ≡ Some is.1 = ap (λ (o : Option (ℕ × PackageName × ForeignItem)). option_and_then (λ (e : ℕ × PackageName × ForeignItem). find_world a.graph a.unresolved.name e.1 e.2.0) o) is.2 ∙ is.3 in
      let goes : remapped_world a w ≡ is.1 =
      foreign_goes (world_is_active a.features a.unresolved w) (is_foreign_world a.unresolved w) (foreign_world_id a.graph a.unresolved w) (length a.graph.worlds + rank (own_world a) w) w is.1 active foreign there in
      subst (λ (v : ℕ). v < length a.graph.worlds) (sym goes) (find_world_within a.graph valid a.unresolved.name e.1 e.2.0 is.1 is.3)

  -- an interface of another package that is active goes to one of the graph, under its name
  pub foreign_interface_remapped : (i : ℕ) (interface : Interface) → slice_get a.unresolved.interfaces i ≡ Some interface → is_foreign_interface a.unresolved i ≡ true → interface_is_active a.features a.unresolved i ≡ true
      → (foreign_interface_id a.graph a.unresolved i ≡ Some (remapped_interface a i)) × SomeAt a.graph.interfaces (remapped_interface a i) (λ (there : Interface). IsSome there.name × (there.name ≡ interface.name))
  foreign_interface_remapped i interface at foreign active =
      let is = interface_found a shaped image i foreign active in
      let e = is.0 in
      let there : foreign_interface_id a.graph a.unresolved i ≡ Some is.1 = ap (λ (o : Option (ℕ × PackageName × ForeignItem)). option_and_then (λ (e : ℕ × PackageName × ForeignItem). find_interface a.graph a.unresolved.name e.1 e.2.0) o) is.2 ∙ is.3 in
      let goes : remapped_interface a i ≡ is.1 =
      foreign_goes (interface_is_active a.features a.unresolved i) (is_foreign_interface a.unresolved i) (foreign_interface_id a.graph a.unresolved i) (length a.graph.interfaces + rank (own_interface a) i) i is.1 active foreign there in
      let found = found_at (λ (there : Interface). there.name ≡ Some e.2.0) a.graph.interfaces is.1 (find_is a.graph valid a.unresolved.name e.1 e.2.0 is.1 is.3) in
      let named : interface.name ≡ Some e.2.0 = bare_name i interface e at is.2 in (
        there ∙ ap (λ (k : ℕ). Some k) (sym goes),
        subst (λ (k : ℕ). SomeAt a.graph.interfaces k (λ (there : Interface). IsSome there.name × (there.name ≡ interface.name))) (sym goes)
            (some_at (λ (there : Interface). IsSome there.name × (there.name ≡ interface.name)) a.graph.interfaces is.1 found.0 found.1 (subst (λ (o : Option (List ℕ)). IsSome o) (sym found.2) refl, found.2 ∙ sym named)),
      )
    where
      bare_name : (i : ℕ) (interface : Interface) (e : ℕ × PackageName × ForeignItem) → slice_get a.unresolved.interfaces i ≡ Some interface → naming_item interface_id a.unresolved i ≡ Some e → interface.name ≡ Some e.2.0
      bare_name i interface e at is =
          let passes = find-passes (λ (e : ℕ × PackageName × ForeignItem). list_any (nat_eq i) (interface_id e.2.1.0)) (named_items a.unresolved.foreign_deps) e is in
          let home = named_at a.unresolved.foreign_deps e passes.0 in
          let item = place_of home.0 e.2 home.2 in
          let bare = (shaped.foreign.bare e.0 (e.1, home.0) home.1 item.0 e.2 item.1).0 in
          let own : IsNameOnly a.unresolved.interfaces a.unresolved.worlds e.2.0 (named.Interface i) = subst (IsNameOnly a.unresolved.interfaces a.unresolved.worlds e.2.0) (interface_of i e.2.1.0 passes.1) bare in
          let there = found_at (IsNameOnlyInterface e.2.0) a.unresolved.interfaces i own in
          ap (λ (x : Interface). x.name) (same_at a.unresolved.interfaces i i interface there.0 refl at there.1) ∙ there.2.0

-- what is known of a foreign type that is active: whose it is, and what it is remapped to
pub record ForeignType (a : Addition) (t : ℕ) (def : TypeDef) : Type 0 where
  pub i : ℕ
  pub name : List ℕ
  pub owner_is : def.owner ≡ owner.Interface i
  pub name_is : def.name ≡ Some name
  pub foreign : is_foreign_interface a.unresolved i ≡ true
  pub active : interface_is_active a.features a.unresolved i ≡ true
  pub listed : interface_type a.graph name (remapped_interface a i) ≡ Some (remapped_type a t)

module _ (a : Addition) (valid : IsValid a.graph) (shaped : IsShaped a.unresolved) (image : IsResolved a) where
  found_by : (t : ℕ) (def : TypeDef) (name : List ℕ) (i i' t' : ℕ) → slice_get a.unresolved.types t ≡ Some def → def.name ≡ Some name → def.owner ≡ owner.Interface i
      → foreign_interface_id a.graph a.unresolved i ≡ Some i' → interface_type a.graph name i' ≡ Some t' → foreign_type_id a.graph a.unresolved t ≡ Some t'
  found_by t def name i i' t' at called by found listed =
      ap (λ (o : Option TypeDef). option_and_then (λ (def : TypeDef). option_and_then (λ (name : List ℕ). option_and_then (λ (i : ℕ). option_and_then (interface_type a.graph name) (foreign_interface_id a.graph a.unresolved i)) (owning_interface def.owner)) def.name) o) at
      ∙ (ap (λ (o : Option (List ℕ)). option_and_then (λ (name : List ℕ). option_and_then (λ (i : ℕ). option_and_then (interface_type a.graph name) (foreign_interface_id a.graph a.unresolved i)) (owning_interface def.owner)) o) called
      ∙ (ap (λ (o : TypeOwner). option_and_then (λ (i : ℕ). option_and_then (interface_type a.graph name) (foreign_interface_id a.graph a.unresolved i)) (owning_interface o)) by
      ∙ (ap (λ (o : Option ℕ). option_and_then (interface_type a.graph name) o) found ∙ listed)))

  pub foreign_type : (t : ℕ) (def : TypeDef) → slice_get a.unresolved.types t ≡ Some def → is_foreign_type a.unresolved t ≡ true → type_is_active a.features a.unresolved.types t ≡ true → ForeignType a t def
  foreign_type t def at foreign active =
      let below : t < length a.unresolved.unknown_type_spans = ltb-true t (length a.unresolved.unknown_type_spans) foreign in
      let is = shaped.unknown.foreign t def at below in
      owned def.owner refl (refl, is.1) def.name refl is.0
    where
      finds : (i : ℕ) (name : List ℕ) → def.owner ≡ owner.Interface i → def.name ≡ Some name → is_foreign_interface a.unresolved i ≡ true → interface_is_active a.features a.unresolved i ≡ true
          → foreign_interface_id a.graph a.unresolved i ≡ Some (remapped_interface a i) → (o : Option ℕ) → interface_type a.graph name (remapped_interface a i) ≡ o → ForeignType a t def
      finds i name by called first on found None none =
          let span = get_at a.unresolved.unknown_type_spans t (ltb-true t (length a.unresolved.unknown_type_spans) foreign) in
          absurd (image.types _ _ (record {
            t = t;
            def = def;
            name = name;
            i = i;
            i' = remapped_interface a i;
            is = at;
            foreign = foreign;
            active = active;
            called = called;
            owner = by;
            owner_active = on;
            found = found;
            absent = none;
            span_is = some_at (λ (s : OptionalSpan). moved_by a.offset span.0 ≡ moved_by a.offset s) a.unresolved.unknown_type_spans t span.0 span.1 refl;
            message_is = refl;
          }))
      finds i name by called first on found (Some t') listed =
          let goes : remapped_type a t ≡ t' =
          foreign_goes (type_is_active a.features a.unresolved.types t) (is_foreign_type a.unresolved t) (foreign_type_id a.graph a.unresolved t) (length a.graph.types + rank (own_type a) t) t t' active foreign
          (found_by t def name i (remapped_interface a i) t' at called by found listed) in
          record {
            i = i;
            name = name;
            owner_is = by;
            name_is = called;
            foreign = first;
            active = on;
            listed = listed ∙ ap (λ (k : ℕ). Some k) (sym goes);
          }

      owned : (by : TypeOwner) → def.owner ≡ by → (IsForeignType (length (foreign_interfaces a.unresolved.foreign_deps)) (record def { name = Some []; owner = by })) → (name : Option (List ℕ)) → def.name ≡ name → IsSome name → ForeignType a t def
      owned (owner.Interface i) by under None called some = cc
      owned (owner.Interface i) by under (Some name) called some =
          let is_first : is_foreign_interface a.unresolved i ≡ true = lt-ltb i (length (foreign_interfaces a.unresolved.foreign_deps)) under.1 in
          let unknown = (shaped.unknown.first.1 t def at).1 (ltb-true t (length a.unresolved.unknown_type_spans) foreign) in
          let on = kept_interface a shaped image i None (of_foreign_type t def i at unknown active by) in
          let there = get_at a.unresolved.interfaces i (let inside = shaped.foreign.interfaces.there in let low = under.1 in omega arith) in
          let goes = foreign_interface_remapped a valid shaped image i there.0 there.1 is_first on in
          finds i name by called is_first on goes.0 (interface_type a.graph name (remapped_interface a i)) refl
      owned (owner.World w) by under name called some = absurd under.1
      owned owner.None by under name called some = absurd under.1
