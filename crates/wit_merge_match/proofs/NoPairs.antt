-- Where no interface and no world is matched there are no types to compare.
use Rattle.std.proofs.Common.{◌≡◌, ◌∙◌, ◌<◌, ◌≤◌, ℕ, Bool, true, false, inl, inr, is_some, List, [], ◌∷◌, ◌++◌, length, get_or, Option, None, Some, option_and_then, slice_get, codes, flat_map, refl, sym, ap, arith}
use Rattle.std.proofs.lemmas.Bool.{cases_lt}
use Rattle.std.proofs.lemmas.List.{get_or_past}
use Rattle.std.specs.Option.{option_map_or}
use Rattle.wit_data.specs.declared.interface.Interface.{Interface}
use Rattle.wit_data.specs.declared.world.World.{World}
use Rattle.wit_graph_data.specs.declared.graph.Package.{Package}
use Rattle.wit_merge_spec.specs.Matches.{GraphMerge, common_entries, common_types, counterpart_interface, counterpart_world, in_package_order, interface_pairs, type_pairs, world_pairs}
use Rattle.wit_merge_spec.specs.MismatchText.{part_links}
use Rattle.wit_merge_match.specs.steps.Structures.{interface_part, world_part}

-- where a test for something says no there is nothing
pub none_where : {X : Type 0} (o : Option X) (b : Bool) → b ≡ is_some o → b ≡ false → o ≡ None
none_where None b is off = refl
none_where (Some x) b is off = let apart : false ≡ true = sym off ∙ is in cc

-- what the first ones lack, and there are no others, all lack
pub none_past : {X : Type 0} (found : List (Option X)) (n : ℕ) → length found ≤ n → ((k : ℕ) → k < n → get_or found k None ≡ None) → (i : ℕ) → get_or found i None ≡ None
none_past found n reached below i = elim (cases_lt i n) [ inl before ↦ below i before | inr past ↦ get_or_past found i None (omega (arith, reached, past)) ]

none_of_all : {X Y : Type 0} (f : X → List Y) (xs : List X) → ((x : X) → f x ≡ []) → flat_map f xs ≡ []
none_of_all f [] none = refl
none_of_all f (x ∷ xs) none = λ j. none x j ++ none_of_all f xs none j

module _ (m : GraphMerge) (interfaces : (i : ℕ) → counterpart_interface m i ≡ None) (worlds : (w : ℕ) → counterpart_world m w ≡ None) where
  interface_none : (links : List (List ℕ)) (i : ℕ) → interface_pairs m links i ≡ []
  interface_none links i = by (slice_get m.other.interfaces i)
    where
      by : (o : Option Interface) → option_map_or (λ (from : Interface). option_map_or (common_types links from) (option_and_then (slice_get m.graph.interfaces) (counterpart_interface m i)) []) o [] ≡ []
      by None = refl
      by (Some from) = ap (λ (o : Option ℕ). option_map_or (common_types links from) (option_and_then (slice_get m.graph.interfaces) o) []) (interfaces i)

  world_none : (links : List (List ℕ)) (w : ℕ) → world_pairs m links w ≡ []
  world_none links w = by (slice_get m.other.worlds w)
    where
      by : (o : Option World) → option_map_or (λ (from : World). option_map_or (common_entries m links from) (option_and_then (slice_get m.graph.worlds) (counterpart_world m w)) []) o [] ≡ []
      by None = refl
      by (Some from) = ap (λ (o : Option ℕ). option_map_or (common_entries m links from) (option_and_then (slice_get m.graph.worlds) o) []) (worlds w)

  pub no_pairs : type_pairs m ≡ []
  no_pairs = λ j.
      none_of_all (λ (home : Package). flat_map (interface_part m home.name) home.interfaces) (in_package_order m.other) (λ home. none_of_all (interface_part m home.name) home.interfaces (λ e. interface_none (part_links home.name (codes "interface") e.0) e.1)) j
      ++ none_of_all (λ (home : Package). flat_map (world_part m home.name) home.worlds) (in_package_order m.other) (λ home. none_of_all (world_part m home.name) home.worlds (λ e. world_none (part_links home.name (codes "world") e.0) e.1)) j
