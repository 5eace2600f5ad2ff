-- The new ids and values of an addition stand for its maps, and its activity for what is active.
use Rattle.std.proofs.Common.{◌≡◌, ◌∙◌, ℕ, ◌+◌, ◌≤◌, Bool, true, false, length, Option, None, Some, unwrap_or, slice_get, refl, sym, ap, if◌then◌else◌}
use Rattle.std.proofs.lemmas.Bool.{false_from_ne_true, false≢true}
use Rattle.wit_data.specs.Shape.{IsShaped}
use Rattle.wit_data.specs.declared.world.WorldItem.{WorldItem}
use Rattle.wit_data.specs.declared.world.WorldItem.TheVariants as item
use Rattle.wit_link_spec.specs.steps.AdditionRefs.{activity_of, new_ids_of, values_of}
use Rattle.wit_link_spec.specs.Addition.{Addition, active, addition_maps, remapped_interface, remapped_type, remapped_world, remap_of_addition}
use Rattle.wit_remap_spec.specs.Selected.{rank}
use Rattle.wit_link_spec.specs.Gates.{interface_is_active, item_is_active, type_is_active, world_is_active}
use Rattle.wit_link_spec.specs.facts.PositionFacts.{needs_active}
use Rattle.wit_link_spec.specs.Reasons.{IsResolved}
use Rattle.wit_remap_spec.specs.ValueRemap.{needs_own}
use Rattle.wit_link_spec.specs.facts.NewFacts.{interface_past, type_past, world_past}
use Rattle.wit_remap.specs.steps.Movers.{goes, maps_with}
use Rattle.wit_remap.specs.steps.Parts.{flag, has_item, kept_with}
use Rattle.wit_remap.proofs.Places.{flag-is, goes-is, values-are}
use Rattle.wit_remap_spec.specs.steps.Parts.{value_id}
use Rattle.wit_link_spec.specs.steps.Parts.{function_is_active, own_types, active_type_id, active_interface_id, active_world_id}

off : {X : Type 0} (b : Bool) (x y : X) → b ≡ false → (if b then x else y) ≡ y
off true x y h = cc
off false x y h = refl

module _ (a : Addition) (shaped : IsShaped a.unresolved) (image : IsResolved a) where
  goes_nowhere : (t : ℕ) → length a.unresolved.types ≤ t → active_type_id a t ≡ None
  goes_nowhere t past = off (type_is_active a.features a.unresolved.types t) _ None (type_past a shaped image t past)

  types_go : goes (new_ids_of a).types ≡ remapped_type a
  types_go = goes-is (active_type_id a) (length a.unresolved.types) (λ t past. off (type_is_active a.features a.unresolved.types t) _ None (type_past a shaped image t past))

  interfaces_go : goes (new_ids_of a).interfaces ≡ remapped_interface a
  interfaces_go = goes-is (active_interface_id a) (length a.unresolved.interfaces) (λ i past. off (interface_is_active a.features a.unresolved i) _ None (interface_past a shaped image i past))

  worlds_go : goes (new_ids_of a).worlds ≡ remapped_world a
  worlds_go = goes-is (active_world_id a) (length a.unresolved.worlds) (λ w past. off (world_is_active a.features a.unresolved w) _ None (world_past a shaped image w past))

  -- past the end a type stays, also at a value position
  value_past : (t : ℕ) → length a.unresolved.types ≤ t → value_id (remap_of_addition a) t ≡ t
  value_past t past =
      let left = type_past a shaped image t past in
      let none : needs_own (remap_of_addition a) t ≡ false = false_from_ne_true (needs_own (remap_of_addition a) t) (λ needs. false≢true (sym left ∙ needs_active a shaped image t needs)) in
      let stays : remapped_type a t ≡ t = ap (λ (o : Option ℕ). unwrap_or o t) (goes_nowhere t past) in
      ap (λ (b : Bool). if b then length a.graph.types + length (own_types a) + rank (needs_own (remap_of_addition a)) t else remapped_type a t) none ∙ stays

  values_go : value_id (remap_of_addition a) ≡ (λ t. unwrap_or (slice_get (values_of a).new_ids t) t)
  values_go = values-are (value_id (remap_of_addition a)) (length a.unresolved.types) value_past

  -- the maps of the new ids are those of the addition
  pub maps_are : maps_with (new_ids_of a) (values_of a).new_ids (length a.graph.packages) a.offset ≡ addition_maps a
  maps_are = λ j. record {
    types = types_go j;
    values = sym values_go j;
    interfaces = interfaces_go j;
    worlds = worlds_go j;
    home = λ p. Some (length a.graph.packages);
    labels = λ w name. name;
    offset = a.offset;
  }

  types_are : flag (activity_of a).types ≡ type_is_active a.features a.unresolved.types
  types_are = flag-is (type_is_active a.features a.unresolved.types) (length a.unresolved.types) (type_past a shaped image)

  items_are : (held : WorldItem) → has_item a.features (type_is_active a.features a.unresolved.types) held ≡ item_is_active a.features a.unresolved.types held
  items_are (item.Interface i stability docs span external_id) = refl
  items_are (item.Function f) = refl
  items_are (item.Type_ t span) = refl

  items_same : has_item a.features (type_is_active a.features a.unresolved.types) ≡ item_is_active a.features a.unresolved.types
  items_same = λ j held. items_are held j

  items_go : has_item a.features (flag (activity_of a).types) ≡ item_is_active a.features a.unresolved.types
  items_go = ap (has_item a.features) types_are ∙ items_same

  interfaces_are : flag (activity_of a).interfaces ≡ interface_is_active a.features a.unresolved
  interfaces_are = flag-is (interface_is_active a.features a.unresolved) (length a.unresolved.interfaces) (interface_past a shaped image)

  worlds_are : flag (activity_of a).worlds ≡ world_is_active a.features a.unresolved
  worlds_are = flag-is (world_is_active a.features a.unresolved) (length a.unresolved.worlds) (world_past a shaped image)

  -- what is kept is what is active
  pub kept_is : kept_with a.features (activity_of a) ≡ active a
  kept_is = λ j. record {
    types = types_are j;
    interfaces = interfaces_are j;
    worlds = worlds_are j;
    functions = function_is_active a.features;
    items = items_go j;
  }
