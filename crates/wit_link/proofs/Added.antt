-- An addition that passes each of its steps is accepted.
use Rattle.std.proofs.Common.{◌≡◌, ◌∙◌, ◌⊎◌, inl, inr, ℕ, ◌<◌, ◌^◌, suc, true, false, List, [], ◌∷◌, Option, None, Some, unwrap_or, length, map, slice_get, refl, sym, ap, subst, is_some, arith, Contains}
use Rattle.std.proofs.lemmas.List.FromFn.{get_or-map-range_with_len, length-map-range_with_len}
use Rattle.std.proofs.lemmas.Option.{slice_get-get_or, slice_get_within}
use Rattle.std.specs.Map.{lookup}
use Rattle.wit_sources.specs.Span.{moved_by}
use Rattle.wit_names.specs.PackageName.{same_package}
use Rattle.wit_data.specs.Shape.{IsShaped}
use Rattle.wit_data.specs.declared.world.World.{World}
use Rattle.wit_data.specs.declared.world.WorldInclude.{WorldInclude}
use Rattle.wit_graph_data.specs.declared.graph.Graph.{Graph}
use Rattle.wit_graph_data.specs.declared.error_kind.ResolveErrorKind.{ResolveErrorKind}
use Rattle.wit_graph_data.specs.declared.error_kind.ResolveErrorKind.TheVariants.{OffsetOverflow, OutOfMemory}
use Rattle.wit_remap_spec.specs.Image.{world_image}
use Rattle.wit_graph_theory.specs.facts.ListFacts.{contained_at, place_of}
use Rattle.wit_elaboration.specs.facts.Filters.{Contains-filter}
use Rattle.wit_link_spec.specs.Addition.{Addition, addition_maps, own_worlds, remapped_world, updated_includes}
use Rattle.wit_link_spec.specs.steps.AdditionRefs.{new_ids_of}
use Rattle.wit_link_spec.specs.Cause.{IsAdditionCause, borrow_in_result_15, duplicate_5, excluded_11, excluded_owner_12, gate_unreleased_10, gate_without_version_9, interface_not_found_3, not_a_resource_14, of_world, offset_overflow_27, package_not_found_1, type_not_defined_13, world_not_found_2}
use Rattle.wit_link_spec.specs.Added.{added}
use Rattle.wit_link_spec.specs.facts.PassedFacts.{has_image}
use Rattle.wit_link_spec.specs.Reasons.{HasPackage, IsResolved}
use Rattle.wit_link_spec.specs.facts.OwnThingFacts.{own_world_from}
use Rattle.wit_remap.specs.steps.Fits.{added_world}
use Rattle.wit_remap.specs.steps.Movers.{goes, id_or}
use Rattle.wit_remap.specs.declared.worlds.UpdatedWorld.{UpdatedWorld}
use Rattle.wit_link.specs.Appending.{IsAdded}
use Rattle.wit_link.specs.steps.Checked.{IsChecked, IsNameTaken, IsNew, PackageFits}
use Rattle.wit_link.specs.steps.Including.{include_at, ready_world, ready_worlds, world_with}
use Rattle.wit_link.proofs.FitsIsExact.{fitting_passes_not, passes-of_not_fitting}
use Rattle.wit_link_spec.specs.steps.Parts.{active_includes, include_is_active, updated_include, WorldIsAccepted, AdditionIsAccepted, active_world_id}

module _ (a : Addition) (is_new : IsNew a) (checked : IsChecked a) (each_world : (k : ℕ) → WorldIsAccepted a k) where
  pub is_accepted : AdditionIsAccepted a
  is_accepted _ (package_not_found_1 span requested known is) = checked.found.packages span requested known is
  is_accepted _ (world_not_found_2 span requested home is) = checked.found.worlds span requested home is
  is_accepted _ (interface_not_found_3 span requested home is) = checked.found.interfaces span requested home is
  is_accepted _ (duplicate_5 name span1 span2 is) = is_new.absent is.there
  is_accepted _ (gate_without_version_9 span message is) = checked.met.version span message is
  is_accepted _ (gate_unreleased_10 span message is) = checked.met.released span message is
  is_accepted _ (excluded_11 span message is) = checked.needs.references span message is
  is_accepted _ (excluded_owner_12 span message is) = checked.needs.owners span message is
  is_accepted _ (type_not_defined_13 span message is) = checked.found.types span message is
  is_accepted _ (not_a_resource_14 span message is) = checked.resources span message is
  is_accepted _ (borrow_in_result_15 span message is) = checked.no_borrow span message is
  is_accepted _ (offset_overflow_27 from to known past) = is_new.fits (record { from = from; to = to; known = known; past = past })
  is_accepted _ (of_world k error reached is) = each_world k error is

  -- and it is added
  pub is_added : (new : Graph) → new ≡ added a → IsAdded a new (length a.graph.packages)
  is_added new is = record { accepted = is_accepted; graph_is = is; id_is = refl }

-- ---- refusals before anything else is looked at

-- that the name is there
pub taken : (a : Addition) → a.offset < 2 ^ 32 → HasPackage a.graph a.unresolved.name → (error : ResolveErrorKind) → IsNameTaken a.offset a.unresolved error → (error ≡ OutOfMemory) ⊎ IsAdditionCause a error
taken a small there error (inl is) =
    inr (subst (IsAdditionCause a) (sym is) (duplicate_5 a.unresolved.name _ None (record { there = there; name_is = refl; span1_is = refl; span2_is = refl })))
taken a small there error (inr far) =
    let past = passes-of_not_fitting a small (λ fits. far.1 fits.name) in
    inr (subst (IsAdditionCause a) (sym far.0) (offset_overflow_27 past.from past.to past.known past.past))

-- that a span is too far
pub too_far : (a : Addition) → a.offset < 2 ^ 32 → (PackageFits a.offset a.unresolved → ⊥) → IsAdditionCause a OffsetOverflow
too_far a small fits_not = let past = passes-of_not_fitting a small fits_not in offset_overflow_27 past.from past.to past.known past.past

not_there : (o : Option ℕ) → is_some o ≡ false → is_some o ≡ true → ⊥
not_there None none some = cc
not_there (Some p) none some = cc

-- a package that isn't there and fits is new
pub is_new : (a : Addition) → is_some (lookup (same_package a.unresolved.name) a.graph.package_names) ≡ false → PackageFits a.offset a.unresolved → IsNew a
is_new a none fits = record { absent = not_there (lookup (same_package a.unresolved.name) a.graph.package_names) none; fits = fitting_passes_not a fits }

pub checked_image : (a : Addition) → IsChecked a → IsResolved a
checked_image a checked = has_image a checked.met checked.needs checked.found

-- ---- the worlds with their new ids

map_twice : {X Y Z : Type 0} (f : Y → Z) (g : X → Y) (h : X → Z) (xs : List X) → ((i : ℕ) (x : X) → slice_get xs i ≡ Some x → f (g x) ≡ h x) → map f (map g xs) ≡ map h xs
map_twice f g h [] each = refl
map_twice f g h (x ∷ xs) each = rw (each 0 x refl, map_twice f g h xs (λ i. each (suc i))) refl

-- a world that the package has goes where it goes
place_is : (a : Addition) (w : ℕ) → w < length a.unresolved.worlds → goes (new_ids_of a).worlds w ≡ remapped_world a w
place_is a w within =
    let n = length a.unresolved.worlds in
    let long : length (new_ids_of a).worlds ≡ length a.unresolved.worlds = length-map-range_with_len (active_world_id a) 0 (length a.unresolved.worlds) in
    let inside : w < length (new_ids_of a).worlds = omega (arith, long, within) in
    let at : slice_get (new_ids_of a).worlds w ≡ Some (active_world_id a w) =
    slice_get-get_or (new_ids_of a).worlds w None inside ∙ ap Some (get_or-map-range_with_len (active_world_id a) 0 (length a.unresolved.worlds) w w None within (omega arith)) in
    ap (id_or w) at ∙ by (active_world_id a w)
  where
    by : (o : Option ℕ) → id_or w (Some o) ≡ unwrap_or o w
    by None = refl
    by (Some p) = refl

module _ (a : Addition) (shaped : IsShaped a.unresolved) where
  includes_go : (k : ℕ) (e : ℕ × World) → slice_get (own_worlds a) k ≡ Some e → map (include_at (new_ids_of a) a.offset) (active_includes a e.1) ≡ updated_includes a e.1
  includes_go k e at =
      let own = own_world_from a k e at in
      agree (active_includes a e.1) (λ i include on.
      let parts = Contains-filter (include_is_active a.features) e.1.includes include (contained_at (active_includes a e.1) i include on) in
      let listed : Contains own.world.includes include = subst (λ (world : World). Contains world.includes include) (sym own.is) parts.0 in
      let place = place_of own.world.includes include listed in
      let earlier : include.id < e.0 = shaped.worlds.includes e.0 own.world own.there place.0 include place.1 in
      let within : e.0 < length a.unresolved.worlds = slice_get_within a.unresolved.worlds e.0 own.world own.there in
      place_is a include.id (omega (arith, earlier, within)))
    where
      agree : (xs : List WorldInclude) → ((i : ℕ) (include : WorldInclude) → slice_get xs i ≡ Some include → goes (new_ids_of a).worlds include.id ≡ remapped_world a include.id)
          → map (include_at (new_ids_of a) a.offset) xs ≡ map (updated_include a) xs
      agree [] each = refl
      agree (x ∷ xs) each =
          ap (λ (id : ℕ). (record x { id = id; span = moved_by a.offset x.span }) ∷ map (include_at (new_ids_of a) a.offset) xs) (each 0 x refl)
          ∙ ap (λ (l : List WorldInclude). updated_include a x ∷ l) (agree xs (λ i. each (suc i)))

  -- the worlds are as they are added
  pub worlds_ready : map (world_with (new_ids_of a) a.offset) (map (added_world a) (own_worlds a)) ≡ ready_worlds a
  worlds_ready =
      map_twice (world_with (new_ids_of a) a.offset) (added_world a) (ready_world a) (own_worlds a)
      (λ k e at. ap (λ (l : List WorldInclude). let p : UpdatedWorld = record { id = e.0; world = world_image (addition_maps a) e.0 e.1; includes = l } in p) (includes_go k e at))
