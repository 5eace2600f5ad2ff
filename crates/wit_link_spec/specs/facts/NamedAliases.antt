-- What aliases behind a graph name, when a package is put there: what they may.
use Rattle.std.proofs.Common.{◌≡◌, ◌∙◌, ℕ, ◌<◌, true, List, ◌++◌, ◌⊎◌, inl, inr, map, filter, length, Option, None, Some, option_map, IsSome, slice_get, refl, sym, ap, subst}
use Rattle.std.specs.List.{range_with_len}
use Rattle.std.proofs.lemmas.Option.{slice_get_within}
use Rattle.wit_data.specs.Each.{Each}
use Rattle.wit_data.specs.Ownership.{AliasesNamed, IsNamed, IsNamedInterface}
use Rattle.wit_data.specs.Kind.{referred}
use Rattle.wit_data.specs.Shape.{IsShaped}
use Rattle.wit_data.specs.Uses.{alias_target}
use Rattle.wit_data.specs.declared.interface.Interface.{Interface}
use Rattle.wit_data.specs.declared.types.TypeDef.{TypeDef}
use Rattle.wit_data.specs.declared.types.TypeOwner.{TypeOwner}
use Rattle.wit_data.specs.declared.types.TypeOwner.TheVariants as owner
use Rattle.wit_elaboration.specs.Valid.{IsValid}
use Rattle.wit_graph_theory.specs.Cut.{OwnerIsKept}
use Rattle.wit_remap_spec.specs.Kept.{cut_interface}
use Rattle.wit_graph_theory.specs.facts.GoodTypes.{IsAliased, alias_referred, from_if, if_some}
use Rattle.wit_remap_spec.specs.Image.{name_image, owner_image, type_image}
use Rattle.wit_graph_theory.specs.facts.ListFacts.{found_at, from_map, old_or_new, place_of, some_at}
use Rattle.wit_graph_theory.specs.facts.ReferredFacts.{alias_image}
use Rattle.wit_graph_theory.specs.steps.Sources.{InterfaceStands, Stands}
use Rattle.wit_link_spec.specs.Addition.{Addition, addition_maps, remapped_interface, remapped_type, remap_of_addition}
use Rattle.wit_link_spec.specs.facts.ActivePart.{part}
use Rattle.wit_link_spec.specs.facts.ApartFacts.{active_there}
use Rattle.wit_link_spec.specs.facts.ClosedCut.{closed_part, references_kept}
use Rattle.wit_link_spec.specs.Gates.{interface_is_active, type_is_active}
use Rattle.wit_link_spec.specs.facts.OwnThingFacts.{own_type_from}
use Rattle.wit_link_spec.specs.Reasons.{IsResolved}
use Rattle.wit_remap_spec.specs.Resources.{own_of}
use Rattle.wit_remap_spec.specs.ValueRemap.{needs_own}
use Rattle.wit_link_spec.specs.facts.Parts.{HasParts}
use Rattle.wit_link_spec.specs.facts.PartsStand.{interface_stands, old_interface_at, old_type_at, type_stands}
use Rattle.wit_link_spec.specs.facts.SourcesGood.{package_source}
use Rattle.wit_remap_spec.specs.steps.Parts.{owns}
use Rattle.wit_link_spec.specs.steps.Parts.{own_types}

module _ (a : Addition) (valid : IsValid a.graph) (shaped : IsShaped a.unresolved) (image : IsResolved a) (types : List TypeDef) (interfaces : List Interface) (are : HasParts a types interfaces) where
  -- ---- interfaces

  -- an interface of the package that is active goes to one that is there
  pub interface_within : (f : ℕ) → interface_is_active a.features a.unresolved f ≡ true → remapped_interface a f < length interfaces
  interface_within f active =
      let old = active_there a valid shaped image f active in
      let new = found_at (InterfaceStands (package_source a) (cut_interface (part a) old.0)) interfaces (remapped_interface a f) (interface_stands a valid shaped image types interfaces are f old.0 old.1 active) in
      slice_get_within interfaces (remapped_interface a f) new.0 new.1

  -- and one with a name to one with a name
  pub named_goes : (f : ℕ) → interface_is_active a.features a.unresolved f ≡ true → IsNamed a.unresolved.interfaces f → IsNamed interfaces (remapped_interface a f)
  named_goes f active named =
      let old = found_at (λ (interface : Interface). IsSome interface.name) a.unresolved.interfaces f named in
      let new = found_at (InterfaceStands (package_source a) (cut_interface (part a) old.0)) interfaces (remapped_interface a f) (interface_stands a valid shaped image types interfaces are f old.0 old.1 active) in
      some_at (λ (interface : Interface). IsSome interface.name) interfaces (remapped_interface a f) new.0 new.1 (subst (λ (o : Option (List ℕ)). IsSome o) (sym new.2.name) old.2)

  -- one of the graph with a name has it still
  pub named_stays : (f : ℕ) → IsNamed a.graph.interfaces f → IsNamed interfaces f
  named_stays f named =
      let old = found_at (λ (interface : Interface). IsSome interface.name) a.graph.interfaces f named in
      some_at (λ (interface : Interface). IsSome interface.name) interfaces f old.0 (old_interface_at a valid shaped image types interfaces are f old.0 old.1) old.2

  -- ---- aliases

  owner_stays : (by : TypeOwner) → IsNamedInterface a.graph.interfaces by → IsNamedInterface interfaces by
  owner_stays (owner.Interface f) named = named_stays f named
  owner_stays (owner.World w) named = named
  owner_stays owner.None named = named

  owner_goes : (by : TypeOwner) → OwnerIsKept (part a) by → IsNamedInterface a.unresolved.interfaces by → IsNamedInterface interfaces (owner_image (addition_maps a) by)
  owner_goes (owner.Interface f) takes named = named_goes f takes named
  owner_goes (owner.World w) takes named = named
  owner_goes owner.None takes named = named

  old_aliased : (by : TypeOwner) (t : ℕ) → IsAliased a.graph.types a.graph.interfaces by t → IsAliased types interfaces by t
  old_aliased by t target =
      let old = found_at (λ (named : TypeDef). IsSome named.name × ((named.owner ≡ by) ⊎ IsNamedInterface a.graph.interfaces named.owner)) a.graph.types t target in
      some_at (λ (named : TypeDef). IsSome named.name × ((named.owner ≡ by) ⊎ IsNamedInterface interfaces named.owner)) types t old.0 (old_type_at a valid shaped image types interfaces are t old.0 old.1)
      (old.2.0, elim old.2.1 [ inl own ↦ inl own | inr other ↦ inr (owner_stays old.0.owner other) ])

  own_aliased : (by : TypeOwner) (t : ℕ) → type_is_active a.features a.unresolved.types t ≡ true → IsAliased a.unresolved.types a.unresolved.interfaces by t
      → IsAliased types interfaces (owner_image (addition_maps a) by) (remapped_type a t)
  own_aliased by t active target =
      let old = found_at (λ (named : TypeDef). IsSome named.name × ((named.owner ≡ by) ⊎ IsNamedInterface a.unresolved.interfaces named.owner)) a.unresolved.types t target in
      let new = found_at (Stands (addition_maps a) old.0) types (remapped_type a t) (type_stands a valid shaped image types interfaces are t old.0 old.1 active) in
      some_at (λ (named : TypeDef). IsSome named.name × ((named.owner ≡ owner_image (addition_maps a) by) ⊎ IsNamedInterface interfaces named.owner)) types (remapped_type a t) new.0 new.1 (
        has_name (name_image (addition_maps a) old.0.owner) old.0.name new.0.name new.2.name old.2.0,
        elim old.2.1 [
          | inl own ↦ inl (new.2.owner ∙ ap (owner_image (addition_maps a)) own)
          | inr other ↦
              inr (subst (IsNamedInterface interfaces) (sym new.2.owner) (owner_goes old.0.owner ((closed_part a shaped image).owners t old.0 old.1 active) other))
        ],
      )
    where
      has_name : (f : List ℕ → List ℕ) (old new : Option (List ℕ)) → new ≡ option_map f old → IsSome old → IsSome new
      has_name f None new is some = cc
      has_name f (Some name) new is some = subst (λ (o : Option (List ℕ)). IsSome o) (sym is) refl

  image_aliases : (t : ℕ) (def : TypeDef) → slice_get a.unresolved.types t ≡ Some def → type_is_active a.features a.unresolved.types t ≡ true → AliasesNamed types interfaces (type_image (addition_maps a) def)
  image_aliases t def at active =
      if_some (IsAliased types interfaces (owner_image (addition_maps a) def.owner)) (alias_target (type_image (addition_maps a) def).kind) (λ t' is.
      let from = mapped (alias_target def.kind) t' (sym (alias_image (addition_maps a) def.kind) ∙ is) in
      let place = place_of (referred def.kind) from.0 (alias_referred def.kind from.0 from.1) in
      let active' = references_kept a shaped image t def at active place.0 from.0 place.1 in
      subst (IsAliased types interfaces (owner_image (addition_maps a) def.owner)) (sym from.2)
      (own_aliased def.owner from.0 active' (from_if (IsAliased a.unresolved.types a.unresolved.interfaces def.owner) (alias_target def.kind) from.0 (shaped.references.aliases t def at) from.1)))
    where
      mapped : (o : Option ℕ) (t' : ℕ) → option_map (remapped_type a) o ≡ Some t' → (u : ℕ) × (o ≡ Some u) × (t' ≡ remapped_type a u)
      mapped None t' h = cc
      mapped (Some u) t' h = (u, refl, cc)

  aliases_joined : Each (AliasesNamed types interfaces) (a.graph.types ++ (map (type_image (addition_maps a)) (own_types a) ++ owns (remap_of_addition a)))
  aliases_joined i def at =
      elim (old_or_new a.graph.types (map (type_image (addition_maps a)) (own_types a) ++ owns (remap_of_addition a)) i def at) [
        | inl old ↦
            if_some (IsAliased types interfaces def.owner) (alias_target def.kind)
            (λ u names. old_aliased def.owner u (from_if (IsAliased a.graph.types a.graph.interfaces def.owner) (alias_target def.kind) u (valid.well_formed.references.aliases i def old) names))
        | inr new ↦ elim (old_or_new (map (type_image (addition_maps a)) (own_types a)) (owns (remap_of_addition a)) new.0 def new.2) [
          | inl mine ↦
              let from = from_map (type_image (addition_maps a)) (own_types a) new.0 def mine in
              let is = own_type_from a new.0 from.0 from.1 in
              subst (AliasesNamed types interfaces) from.2 (image_aliases is.t from.0 is.there is.active)
          | inr made ↦
              let from = from_map (λ (t : ℕ). own_of (remapped_type a t)) (filter (needs_own (remap_of_addition a)) (range_with_len 0 (length a.unresolved.types))) made.0 def made.2 in
              subst (AliasesNamed types interfaces) from.2 tt
        ]
      ]

  -- an alias of a type names a named type of its own owner or of an interface with a name
  pub aliases_named : Each (AliasesNamed types interfaces) types
  aliases_named = subst (Each (AliasesNamed types interfaces)) (sym are.types_are) aliases_joined
