-- What the functions that move refer to is there.
use Rattle.std.proofs.Common.{◌≡◌, inl, inr, ℕ, ◌<◌, List, [], ◌++◌, length, map, not, is_some, Option, None, Some, slice_get, subst, Contains}
use Rattle.std.specs.List.{enumerate_from, flat_map}
use Rattle.std.specs.Map.{lookup}
use Rattle.std.specs.Option.{option_map_or}
use Rattle.std.specs.Str.{bytes_eq}
use Rattle.std.proofs.lemmas.List.Elements.{Contains-append_cases}
use Rattle.wit_digraph.specs.facts.MemberFacts.{Contains-cons_cases, Contains-flat_map_cases, Contains-nil}
use Rattle.wit_data.specs.Entries.{Entry, ItemUsesOwn}
use Rattle.wit_data.specs.Kind.{function_references}
use Rattle.wit_data.specs.declared.function.Function.{Function}
use Rattle.wit_data.specs.declared.interface.Interface.{Interface}
use Rattle.wit_data.specs.declared.world.World.{World}
use Rattle.wit_data.specs.declared.world.WorldItem.{WorldItem}
use Rattle.wit_data.specs.declared.world.WorldItem.TheVariants as item
use Rattle.wit_elaboration.specs.facts.Filters.{Contains-filter}
use Rattle.wit_elaboration.specs.Valid.{IsValid}
use Rattle.wit_graph_theory.specs.facts.GoodIsValid.{good_things}
use Rattle.wit_graph_theory.specs.facts.ListFacts.{Contains-map_cases, place_of}
use Rattle.wit_graph_theory.specs.facts.PackagesAcyclic.{numbered_from}
use Rattle.wit_link_spec.specs.facts.RankFacts.{selected_with_index-from}
use Rattle.wit_remap_spec.specs.ValueRemap.{item_function, world_functions}
use Rattle.wit_merge_spec.specs.Matches.{GraphMerge, matched_interface}
use Rattle.wit_merge_spec.specs.Merged.{brought_functions, moved_functions, moved_worlds}
use Rattle.wit_merge_spec.specs.steps.Parts.{interface_functions, moves_world}

module _ (m : GraphMerge) (valid : IsValid m.other) where
  abbrev RefersThere : Function → Type 0
  RefersThere f = (t : ℕ) → Contains (function_references f) t → t < length m.other.types

  -- ---- functions

  listed_there : (i : ℕ) (from : Interface) → slice_get m.other.interfaces i ≡ Some from → (e : List ℕ × Function) → Contains from.functions e → RefersThere e.1
  listed_there i from at e has t refers =
      let place = place_of from.functions e has in
      let world_label = place_of (function_references e.1) t refers in
      (((good_things m.other valid).interfaces i from at).own_functions place.0 e place.1 world_label.0 t world_label.1).there

  held_there : (w : ℕ) (held : WorldItem) → ItemUsesOwn m.other.types w held → (f : Function) → Contains (item_function held) f → RefersThere f
  held_there w (item.Interface i stability docs span external_id) own f has = absurd (Contains-nil has)
  held_there w (item.Type_ t span) own f has = absurd (Contains-nil has)
  held_there w (item.Function g) own f has = elim (Contains-cons_cases g f [] has) [
    | inl same ↦ subst RefersThere same (λ t refers. let world_label = place_of (function_references g) t refers in (own world_label.0 t world_label.1).there)
    | inr none ↦ absurd (Contains-nil none)
  ]

  brought_there : (i : ℕ) (from : Interface) → slice_get m.other.interfaces i ≡ Some from → (o : Option Interface) (f : Function)
      → Contains (map (λ (e : List ℕ × Function). e.1) (option_map_or (brought_functions from) o from.functions)) f → RefersThere f
  brought_there i from at None f has =
      let e = Contains-map_cases (λ (e : List ℕ × Function). e.1) from.functions f has in
      subst RefersThere e.2 (listed_there i from at e.0 e.1)
  brought_there i from at (Some into) f has =
      let e = Contains-map_cases (λ (e : List ℕ × Function). e.1) (brought_functions from into) f has in
      subst RefersThere e.2 (listed_there i from at e.0 (Contains-filter (λ (e : List ℕ × Function). not (is_some (lookup (bytes_eq e.0) into.functions))) from.functions e.0 e.1).0)

  interface_there : (f : Function) → Contains (flat_map (λ (e : ℕ × Interface). interface_functions m e.0 e.1) (enumerate_from 0 m.other.interfaces)) f → RefersThere f
  interface_there f has =
      let from = Contains-flat_map_cases (λ (e : ℕ × Interface). interface_functions m e.0 e.1) (enumerate_from 0 m.other.interfaces) f has in
      let place = place_of (enumerate_from 0 m.other.interfaces) from.0 from.1.0 in
      let is = numbered_from 0 m.other.interfaces place.0 from.0 place.1 in
      brought_there place.0 from.0.1 is.1 (matched_interface m from.0.0) f from.1.1

  world_there : (f : Function) → Contains (flat_map (λ (e : ℕ × World). world_functions e.1) (moved_worlds m)) f → RefersThere f
  world_there f has =
      let from = Contains-flat_map_cases (λ (e : ℕ × World). world_functions e.1) (moved_worlds m) f has in
      let place = place_of (moved_worlds m) from.0 from.1.0 in
      let is = selected_with_index-from (moves_world m) m.other.worlds place.0 from.0 place.1 in
      let world : World = from.0.1 in
      let good = (good_things m.other valid).worlds from.0.0 world is.0 in
      let entry = Contains-flat_map_cases (λ (e : Entry). item_function e.1) (world.imports ++ world.exports) f from.1.1 in
      elim (Contains-append_cases world.imports world.exports entry.0 entry.1.0) [
        | inl imported ↦ let world_label = place_of world.imports entry.0 imported in held_there from.0.0 entry.0.1 (good.imports world_label.0 entry.0 world_label.1).own f entry.1.1
        | inr exported ↦ let world_label = place_of world.exports entry.0 exported in held_there from.0.0 entry.0.1 (good.exports world_label.0 entry.0 world_label.1).own f entry.1.1
      ]

  -- what a function that moves refers to is there
  pub moved_refers : (f : Function) → Contains (moved_functions m) f → RefersThere f
  moved_refers f has =
      elim (Contains-append_cases (flat_map (λ (e : ℕ × Interface). interface_functions m e.0 e.1) (enumerate_from 0 m.other.interfaces)) (flat_map (λ (e : ℕ × World). world_functions e.1) (moved_worlds m)) f has) [
        | inl of_interface ↦ interface_there f of_interface
        | inr of_world ↦ world_there f of_world
      ]
