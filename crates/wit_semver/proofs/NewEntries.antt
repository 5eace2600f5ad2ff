-- What the steps of semver merging make of a graph is the graph with its new entries.
use Rattle.std.proofs.Common.{◌≡◌, ◌∙◌, ◌++◌, ℕ, List, [], ◌∷◌, Option, Some, map, nat_eq, slice_get, slice_set, refl, sym, ap}
use Rattle.std.proofs.lemmas.List.Concat.{flat_map-append}
use Rattle.std.specs.List.{enumerate_from, flat_map}
use Rattle.std.specs.Map.{lookup}
use Rattle.std.specs.Option.{option_map_or}
use Rattle.wit_data.specs.declared.types.TypeDef.{TypeDef}
use Rattle.wit_data.specs.declared.world.World.{World}
use Rattle.wit_semver.specs.SemverMerged.{SemverMerge, entry_types, kept_imports, newest_type, types_of_new_entries, types_with_new_targets, with_new_entries_at}
use Rattle.wit_semver.specs.steps.Replacing.{IsFilled, with_lists, with_targets}
use Rattle.wit_semver.specs.steps.Parts.{retargeted, new_target}

-- ---- the types that follow

pub following_is : (u : SemverMerge) (ids : List ℕ) → ids ≡ flat_map (entry_types u.graph.interfaces) (kept_imports u) ++ flat_map (entry_types u.graph.interfaces) u.world.exports → ids ≡ types_of_new_entries u
following_is u ids is = is ∙ sym (flat_map-append (entry_types u.graph.interfaces) (kept_imports u) u.world.exports)

-- ---- the graph

map_same : {X Y : Type 0} (f h : X → Y) (xs : List X) → ((x : X) → f x ≡ h x) → map f xs ≡ map h xs
map_same f h [] same = refl
map_same f h (x ∷ xs) same = ap (λ (y : _). y ∷ map f xs) (same x) ∙ ap (λ (ys : List _). h x ∷ ys) (map_same f h xs same)

module _ (u : SemverMerge) (targets : List (ℕ × ℕ)) (filled : IsFilled (newest_type u) (types_of_new_entries u) targets) where
  pub target_is : (t : ℕ) → lookup (nat_eq t) targets ≡ new_target u t
  target_is = filled

  types_are : with_targets u.graph.types targets ≡ types_with_new_targets u
  types_are =
      map_same (λ (e : ℕ × TypeDef). retargeted e.1 (lookup (nat_eq e.0) targets)) (λ (e : ℕ × TypeDef). retargeted e.1 (new_target u e.0)) (enumerate_from 0 u.graph.types) (λ e. ap (retargeted e.1) (target_is e.0))

  pub relisted_is : (w : ℕ) → slice_get u.graph.worlds w ≡ Some u.world → with_lists u.graph w (kept_imports u) targets ≡ with_new_entries_at u w
  relisted_is w there =
      ap (λ (ts : List TypeDef). record u.graph { types = ts; worlds = option_map_or (λ (world : World). slice_set u.graph.worlds w (record world { imports = kept_imports u })) (slice_get u.graph.worlds w) u.graph.worlds }) types_are
      ∙ ap (λ (o : Option World). record u.graph { types = types_with_new_targets u; worlds = option_map_or (λ (world : World). slice_set u.graph.worlds w (record world { imports = kept_imports u })) o u.graph.worlds }) there
