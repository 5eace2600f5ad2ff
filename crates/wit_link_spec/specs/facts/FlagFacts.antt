-- What stands at a place of the lists that the steps of an addition hand on.
use Rattle.std.proofs.Common.{◌≡◌, ◌<◌, ℕ, Bool, Option, Some, length, slice_get, ap}
use Rattle.wit_link_spec.specs.steps.AdditionRefs.{activity_of, new_ids_of}
use Rattle.wit_link_spec.specs.Addition.{Addition}
use Rattle.wit_link_spec.specs.Gates.{interface_is_active, type_is_active, world_is_active}
use Rattle.wit_link_spec.specs.facts.RangeFacts.{range-inside, range-read}
use Rattle.wit_link_spec.specs.declared.addition.Activity.{Activity}
use Rattle.wit_link_spec.specs.declared.addition.NewIds.{NewIds}
use Rattle.wit_link_spec.specs.steps.Parts.{active_type_id}

-- a thing of the package has a flag, which tells whether it is active
module _ (a : Addition) (activity : Activity) (is : activity ≡ activity_of a) where
  pub type-inside : (t : ℕ) → t < length a.unresolved.types → t < length activity.types
  type-inside t below = range-inside (type_is_active a.features a.unresolved.types) (length a.unresolved.types) t activity.types (ap (λ (x : Activity). x.types) is) below

  pub type-flag : (t : ℕ) (b : Bool) → slice_get activity.types t ≡ Some b → b ≡ type_is_active a.features a.unresolved.types t
  type-flag t b at = range-read (type_is_active a.features a.unresolved.types) (length a.unresolved.types) t activity.types b (ap (λ (x : Activity). x.types) is) at

  pub interface-inside : (i : ℕ) → i < length a.unresolved.interfaces → i < length activity.interfaces
  interface-inside i below = range-inside (interface_is_active a.features a.unresolved) (length a.unresolved.interfaces) i activity.interfaces (ap (λ (x : Activity). x.interfaces) is) below

  pub interface-flag : (i : ℕ) (b : Bool) → slice_get activity.interfaces i ≡ Some b → b ≡ interface_is_active a.features a.unresolved i
  interface-flag i b at = range-read (interface_is_active a.features a.unresolved) (length a.unresolved.interfaces) i activity.interfaces b (ap (λ (x : Activity). x.interfaces) is) at

  pub world-inside : (w : ℕ) → w < length a.unresolved.worlds → w < length activity.worlds
  world-inside w below = range-inside (world_is_active a.features a.unresolved) (length a.unresolved.worlds) w activity.worlds (ap (λ (x : Activity). x.worlds) is) below

  pub world-flag : (w : ℕ) (b : Bool) → slice_get activity.worlds w ≡ Some b → b ≡ world_is_active a.features a.unresolved w
  world-flag w b at = range-read (world_is_active a.features a.unresolved) (length a.unresolved.worlds) w activity.worlds b (ap (λ (x : Activity). x.worlds) is) at

-- a type of the package has a place, which tells where it goes
module _ (a : Addition) (places : NewIds) (are : places ≡ new_ids_of a) where
  pub place-inside : (t : ℕ) → t < length a.unresolved.types → t < length places.types
  place-inside t below = range-inside (active_type_id a) (length a.unresolved.types) t places.types (ap (λ (x : NewIds). x.types) are) below

  pub place-is : (t : ℕ) (o : Option ℕ) → slice_get places.types t ≡ Some o → o ≡ active_type_id a t
  place-is t o at = range-read (active_type_id a) (length a.unresolved.types) t places.types o (ap (λ (x : NewIds). x.types) are) at
