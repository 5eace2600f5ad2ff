-- What is active of a package stands among the types and interfaces of the graph behind which it is put: types,
-- values and interfaces.
use Rattle.std.proofs.Common.{◌≡◌, ◌∙◌, ℕ, ◌+◌, ◌<◌, true, List, ◌++◌, ◌⊎◌, inl, inr, map, length, Option, None, Some, option_and_then, option_map, IsSome, slice_get, refl, sym, ap, subst, Contains, if◌then◌else◌}
use Rattle.std.specs.Map.{lookup}
use Rattle.std.proofs.lemmas.Option.{slice_get_within}
use Rattle.std.specs.Str.{bytes_eq}
use Rattle.std.proofs.lemmas.Bool.{cases_Bool, lt-ltb, ltb-true}
use Rattle.std.proofs.lemmas.Map.Views.{Contains-from_lookup}
use Rattle.std.proofs.lemmas.Slice.Eq.{bytes_eq-Decides}
use Rattle.wit_values.specs.facts.Lists.{slice_get-append}
use Rattle.wit_data.specs.Each.{SomeAt}
use Rattle.wit_data.specs.Shape.{IsShaped}
use Rattle.wit_data.specs.declared.interface.Interface.{Interface}
use Rattle.wit_data.specs.declared.types.TypeDef.{TypeDef}
use Rattle.wit_data.specs.declared.types.TypeOwner.{TypeOwner}
use Rattle.wit_data.specs.declared.types.TypeOwner.TheVariants as owner
use Rattle.wit_elaboration.specs.Valid.{IsValid}
use Rattle.wit_graph_theory.specs.facts.CarriedImages.{image_stands}
use Rattle.wit_elaboration.specs.facts.Filters.{Contains-filter}
use Rattle.wit_remap_spec.specs.Kept.{cut_interface}
use Rattle.wit_graph_theory.specs.facts.ImagesCome.{interface_image_stands}
use Rattle.wit_remap_spec.specs.Image.{interface_image, name_image, owner_image, type_image}
use Rattle.wit_graph_theory.specs.facts.ListFacts.{at_map, at_new, found_at, place_of, some_at}
use Rattle.wit_graph_theory.specs.steps.Sources.{InterfaceStands, IsOwnOf, Stands}
use Rattle.wit_link_spec.specs.Addition.{Addition, addition_maps, maps_without_owns, own_interface, own_interfaces, own_type, remapped_interface, remapped_type, remap_of_addition}
use Rattle.wit_remap_spec.specs.Selected.{rank, selected}
use Rattle.wit_link_spec.specs.facts.ActivePart.{part}
use Rattle.wit_link_spec.specs.Gates.{interface_is_active, is_foreign_interface, type_is_active}
use Rattle.wit_link_spec.specs.Lookup.{is_foreign_type}
use Rattle.wit_graph_data.specs.Named.{interface_type}
use Rattle.wit_link_spec.specs.facts.OwnThingFacts.{own_of_both}
use Rattle.wit_link_spec.specs.facts.RankFacts.{selected-at}
use Rattle.wit_link_spec.specs.Reasons.{IsResolved}
use Rattle.wit_remap_spec.specs.Resources.{leads_to_resource, own_of}
use Rattle.wit_link_spec.specs.facts.Standing.{ForeignType, foreign_interface_remapped, foreign_type, listed_is, own_interface_remapped, own_type_remapped}
use Rattle.wit_link_spec.specs.facts.Parts.{HasParts}
use Rattle.wit_link_spec.specs.facts.SourcesGood.{package_source}
use Rattle.wit_link_spec.specs.facts.ValueRemapFacts.{leads_named, new_stands, own_stands, value_stands}
use Rattle.wit_remap_spec.specs.steps.Parts.{types_without_owns, value_id, owns}
use Rattle.wit_link_spec.specs.steps.Parts.{own_types}

module _ (a : Addition) (valid : IsValid a.graph) (shaped : IsShaped a.unresolved) (image : IsResolved a) (types : List TypeDef) (interfaces : List Interface) (are : HasParts a types interfaces) where
  -- an own type stands as its image at its place
  pub own_type_at : (t : ℕ) (def : TypeDef) → slice_get a.unresolved.types t ≡ Some def → own_type a t ≡ true → slice_get types (remapped_type a t) ≡ Some (type_image (addition_maps a) def)
  own_type_at t def at own =
      subst (λ (types : List TypeDef). slice_get types (remapped_type a t) ≡ Some (type_image (addition_maps a) def)) (sym are.types_are)
      (new_stands (remap_of_addition a) a.graph.types refl (rank (own_type a) t) (remapped_type a t) def (selected-at (own_type a) a.unresolved.types t def at own) (own_type_remapped a t own))

  -- a type of the graph stays
  pub old_type_at : (t : ℕ) (def : TypeDef) → slice_get a.graph.types t ≡ Some def → slice_get types t ≡ Some def
  old_type_at t def at =
      subst (λ (types : List TypeDef). slice_get types t ≡ Some def) (sym are.types_are) (slice_get-append a.graph.types (map (type_image (addition_maps a)) (own_types a) ++ owns (remap_of_addition a)) t def at)

  pub old_interface_at : (i : ℕ) (interface : Interface) → slice_get a.graph.interfaces i ≡ Some interface → slice_get interfaces i ≡ Some interface
  old_interface_at i interface at =
      subst (λ (interfaces : List Interface). slice_get interfaces i ≡ Some interface) (sym are.interfaces_are) (slice_get-append a.graph.interfaces (map (interface_image (addition_maps a)) (own_interfaces a)) i interface at)

  foreign_stands : (t : ℕ) (def : TypeDef) → ForeignType a t def → SomeAt types (remapped_type a t) (Stands (addition_maps a) def)
  foreign_stands t def is =
      let found = found_at (λ (there : TypeDef). (there.name ≡ Some is.name) × (there.owner ≡ owner.Interface (remapped_interface a is.i))) a.graph.types (remapped_type a t)
      (listed_is a.graph valid is.name (remapped_interface a is.i) (remapped_type a t) is.listed) in
      some_at (Stands (addition_maps a) def) types (remapped_type a t) found.0 (old_type_at (remapped_type a t) found.0 found.1) (record {
        name = found.2.0 ∙ sym (ap (λ (o : TypeOwner). option_map (name_image (addition_maps a) o) def.name) is.owner_is ∙ ap (λ (n : Option (List ℕ)). option_map (name_image (addition_maps a) (owner.Interface is.i)) n) is.name_is);
        owner = found.2.1 ∙ sym (ap (owner_image (addition_maps a)) is.owner_is);
        through = λ none. let named = is.name_is in cc;
      })

  -- what is active stands
  pub type_stands : (t : ℕ) (def : TypeDef) → slice_get a.unresolved.types t ≡ Some def → type_is_active a.features a.unresolved.types t ≡ true → SomeAt types (remapped_type a t) (Stands (addition_maps a) def)
  type_stands t def at active = elim (cases_Bool (is_foreign_type a.unresolved t)) [
    | inl foreign ↦ foreign_stands t def (foreign_type a valid shaped image t def at foreign active)
    | inr own ↦
        some_at (Stands (addition_maps a) def) types (remapped_type a t) (type_image (addition_maps a) def)
        (own_type_at t def at (own_of_both (is_foreign_type a.unresolved t) (type_is_active a.features a.unresolved.types t) own active)) (image_stands (addition_maps a) def)
  ]

  pub own_interface_at : (f : ℕ) (interface : Interface) → slice_get a.unresolved.interfaces f ≡ Some interface → own_interface a f ≡ true
      → slice_get interfaces (remapped_interface a f) ≡ Some (interface_image (addition_maps a) (cut_interface (part a) interface))
  own_interface_at f interface at own =
      subst (λ (interfaces : List Interface). slice_get interfaces (remapped_interface a f) ≡ Some (interface_image (addition_maps a) (cut_interface (part a) interface))) (sym are.interfaces_are)
      (at_new a.graph.interfaces (map (interface_image (addition_maps a)) (own_interfaces a)) (rank (own_interface a) f) (remapped_interface a f) (interface_image (addition_maps a) (cut_interface (part a) interface)) (own_interface_remapped a f own)
      (at_map (interface_image (addition_maps a)) (own_interfaces a) (rank (own_interface a) f) (cut_interface (part a) interface)
      (at_map (cut_interface (part a)) (selected (own_interface a) a.unresolved.interfaces) (rank (own_interface a) f) interface (selected-at (own_interface a) a.unresolved.interfaces f interface at own))))

-- ---- interfaces

module _ (a : Addition) (valid : IsValid a.graph) (shaped : IsShaped a.unresolved) (image : IsResolved a) (types : List TypeDef) (interfaces : List Interface) (are : HasParts a types interfaces) where
  -- what a foreign interface lists of what is active is listed by the one that it goes to
  foreign_lists : (f : ℕ) (old there : Interface) → slice_get a.unresolved.interfaces f ≡ Some old → is_foreign_interface a.unresolved f ≡ true
      → slice_get a.graph.interfaces (remapped_interface a f) ≡ Some there → (name : List ℕ) (t : ℕ) → Contains old.types (name, t) → type_is_active a.features a.unresolved.types t ≡ true
      → Contains there.types (name, remapped_type a t)
  foreign_lists f old there at foreign goes name t has active =
      let place = place_of old.types (name, t) has in
      let is = found_at (λ (def : TypeDef). (def.name ≡ Some name) × (def.owner ≡ owner.Interface f)) a.unresolved.types t (shaped.owners.own_types f old at place.0 (name, t) place.1) in
      let below : t < length a.unresolved.unknown_type_spans = shaped.unknown.alone f old at (ltb-true f _ foreign) place.0 (name, t) place.1 in
      let known = foreign_type a valid shaped image t is.0 is.1 (lt-ltb t (length a.unresolved.unknown_type_spans) below) active in
      let same : known.i ≡ f = owner_same known.i f (sym known.owner_is ∙ is.2.1) in
      let called : known.name ≡ name = name_same known.name name (sym known.name_is ∙ is.2.0) in
      let listed : interface_type a.graph name (remapped_interface a f) ≡ Some (remapped_type a t) =
      subst (λ (n : List ℕ). interface_type a.graph n (remapped_interface a f) ≡ Some (remapped_type a t)) called (subst (λ (i : ℕ). interface_type a.graph known.name (remapped_interface a i) ≡ Some (remapped_type a t)) same known.listed) in
      Contains-from_lookup (λ x y. (bytes_eq-Decides x y).0) name (remapped_type a t) there.types
      (sym (ap (λ (o : Option Interface). option_and_then (λ (interface : Interface). lookup (bytes_eq name) interface.types) o) goes) ∙ listed)
    where
      owner_same : (i j : ℕ) → owner.Interface i ≡ owner.Interface j → i ≡ j
      owner_same i j h = cc

      name_same : (m n : List ℕ) → Some m ≡ Some n → m ≡ n
      name_same m n h = cc

  foreign_interface_stands : (f : ℕ) (old : Interface) → slice_get a.unresolved.interfaces f ≡ Some old → is_foreign_interface a.unresolved f ≡ true → interface_is_active a.features a.unresolved f ≡ true
      → SomeAt interfaces (remapped_interface a f) (InterfaceStands (package_source a) (cut_interface (part a) old))
  foreign_interface_stands f old at foreign active =
      let goes = (foreign_interface_remapped a valid shaped image f old at foreign active).1 in
      let there = found_at (λ (there : Interface). IsSome there.name × (there.name ≡ old.name)) a.graph.interfaces (remapped_interface a f) goes in
      some_at (InterfaceStands (package_source a) (cut_interface (part a) old)) interfaces (remapped_interface a f) there.0 (old_interface_at a valid shaped image types interfaces are (remapped_interface a f) there.0 there.1) (record {
        name = there.2.1;
        types = λ name t has takes. foreign_lists f old there.0 at foreign there.1 name t (Contains-filter (λ (e : List ℕ × ℕ). (part a).types e.1) old.types (name, t) has).0 takes;
        home = λ none. let some = there.2.0 in let same = there.2.1 in absurd (none_named there.0.name some (same ∙ none));
      })
    where
      none_named : (o : Option (List ℕ)) → IsSome o → o ≡ None → ⊥
      none_named None some none = cc
      none_named (Some n) some none = cc

  pub interface_stands : (f : ℕ) (old : Interface) → slice_get a.unresolved.interfaces f ≡ Some old → interface_is_active a.features a.unresolved f ≡ true
      → SomeAt interfaces (remapped_interface a f) (InterfaceStands (package_source a) (cut_interface (part a) old))
  interface_stands f old at active = elim (cases_Bool (is_foreign_interface a.unresolved f)) [
    | inl foreign ↦ foreign_interface_stands f old at foreign active
    | inr own ↦
        some_at (InterfaceStands (package_source a) (cut_interface (part a) old)) interfaces (remapped_interface a f) (interface_image (addition_maps a) (cut_interface (part a) old))
        (own_interface_at a valid shaped image types interfaces are f old at (own_of_both (is_foreign_interface a.unresolved f) (interface_is_active a.features a.unresolved f) own active))
        (interface_image_stands (package_source a) (cut_interface (part a) old))
  ]

-- ---- values

module _ (a : Addition) (valid : IsValid a.graph) (shaped : IsShaped a.unresolved) (image : IsResolved a) (types : List TypeDef) (interfaces : List Interface) (are : HasParts a types interfaces) where
  -- a type that leads to a resource has a name
  type_named : (t : ℕ) (def : TypeDef) → slice_get a.unresolved.types t ≡ Some def → type_is_active a.features a.unresolved.types t ≡ true → leads_to_resource (types_without_owns (remap_of_addition a)) (remapped_type a t) ≡ true → IsSome def.name
  type_named t def at active leads = elim (cases_Bool (is_foreign_type a.unresolved t)) [
    | inl foreign ↦ let is = foreign_type a valid shaped image t def at foreign active in subst (λ (o : Option (List ℕ)). IsSome o) (sym is.name_is) refl
    | inr mine ↦
        let own = own_of_both (is_foreign_type a.unresolved t) (type_is_active a.features a.unresolved.types t) mine active in
        leads_named (remap_of_addition a) t def (λ none. (
          shaped.references.unnamed t def at none,
          at_new a.graph.types (map (type_image (maps_without_owns a)) (own_types a)) (rank (own_type a) t) (remapped_type a t) (type_image (maps_without_owns a) def) (own_type_remapped a t own)
              (at_map (type_image (maps_without_owns a)) (own_types a) (rank (own_type a) t) def (selected-at (own_type a) a.unresolved.types t def at own)),
        )) leads
  ]

  pub values_stand_there : (t : ℕ) (def : TypeDef) → slice_get a.unresolved.types t ≡ Some def → type_is_active a.features a.unresolved.types t ≡ true
      → (value_id (remap_of_addition a) t ≡ remapped_type a t) ⊎ (IsSome def.name × IsOwnOf types (value_id (remap_of_addition a) t) (remapped_type a t))
  values_stand_there t def at active =
      value_stands (remap_of_addition a) types t def
      (λ needs. subst (λ (types : List TypeDef). slice_get types (value_id (remap_of_addition a) t) ≡ Some (own_of (remapped_type a t))) (sym are.types_are)
      (own_stands (remap_of_addition a) a.graph.types refl t (slice_get_within a.unresolved.types t def at) needs)) (type_named t def at active)
