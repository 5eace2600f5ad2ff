-- That a merge leaves what the graph has as it is, told by what is matched: a step for each thing of the other graph, and
-- none for those of the graph with which nothing is matched.
use Rattle.std.proofs.Common.{◌≡◌, ◌∙◌, ℕ, true, false, List, [], map, filter, Option, None, Some, slice_get, refl, sym, ap, Contains}
use Rattle.std.specs.List.{enumerate_from}
use Rattle.std.specs.Map.{lookup}
use Rattle.std.specs.Option.{option_map_or}
use Rattle.std.proofs.lemmas.Map.Views.{Contains-from_lookup}
use Rattle.wit_data.specs.Entries.{Entry}
use Rattle.wit_data.specs.declared.function.Function.{Function}
use Rattle.wit_data.specs.declared.interface.Interface.{Interface}
use Rattle.wit_data.specs.declared.world.World.{World}
use Rattle.wit_data.specs.declared.world.WorldItem.{WorldItem}
use Rattle.wit_elaboration.specs.Entries.{same_key}
use Rattle.wit_elaboration.specs.facts.Filters.{Contains-filter}
use Rattle.wit_elaboration.specs.facts.FreshEntries.{same_key-true}
use Rattle.wit_graph_data.specs.declared.graph.Package.{Package}
use Rattle.wit_graph_theory.specs.facts.ListFacts.{Contains-map_cases, contained_at}
use Rattle.wit_remap_spec.specs.Image.{entry_image, function_image, item_image, key_image}
use Rattle.wit_remap_spec.specs.Joined.{joined_entry, joined_item, joined_stability}
use Rattle.wit_merge_spec.specs.Matches.{GraphMerge, Pair, counterpart_interface, counterpart_of, counterpart_package, counterpart_type, counterpart_world}
use Rattle.wit_merge_spec.specs.Merged.{brought_functions, is_under_id, merge_maps, merged_interface, merged_type, merged_world, with_entries, with_interface, with_package, with_world}
use Rattle.wit_merge_laws.specs.facts.InterfacesStand.{counterpart_from}
use Rattle.wit_merge_laws.specs.facts.NothingFacts.{map_same}
use Rattle.wit_merge_laws.specs.facts.SelfFacts.{all_same, nothing_behind}
use Rattle.wit_merge_laws.specs.facts.WorldsStand.{entry}
use Rattle.wit_merge_laws.specs.laws.GrowingLaws.{LeftByMatches}
use Rattle.wit_merge_spec.specs.steps.Parts.{brought_types, with_type, moves_interface, moves_world}

-- ---- lists

-- what each pair leaves, the list is left
module _ {X : Type 0} (found : ℕ → Option ℕ) (others ours : List X) (join : ℕ × X → X → X) (left : (p : Pair found others ours) → join (p.x, p.from) p.into ≡ p.into) where
  abbrev joined : ℕ × X → X
  joined e = option_map_or (λ (p : ℕ × X). join p e.1) (counterpart_of found others e.0) e.1

  one_left : (k : ℕ) (x : X) → slice_get ours k ≡ Some x → joined (k, x) ≡ x
  one_left k x at = by (counterpart_of found others k) refl
    where
      by : (o : Option (ℕ × X)) → counterpart_of found others k ≡ o → option_map_or (λ (p : ℕ × X). join p x) o x ≡ x
      by None is = refl
      by (Some p) is = let from = counterpart_from found others k p is in left (record { x = p.0; from = p.1; x' = k; into = x; from_is = from.0; matched = from.1; into_is = at })

  all_left : map joined (enumerate_from 0 ours) ≡ ours
  all_left = all_same joined ours one_left

pub left_by_matches : LeftByMatches
left_by_matches m brings = record {
  types = all_left (counterpart_type m) m.other.types m.graph.types (λ p into. with_type p.1 into) brings.types;
  interfaces = all_left (counterpart_interface m) m.other.interfaces m.graph.interfaces (λ p into. with_interface m p.1 into) brings.interfaces;
  worlds = all_left (counterpart_world m) m.other.worlds m.graph.worlds (with_world m) brings.worlds;
  packages = all_left (counterpart_package m) m.other.packages m.graph.packages (λ p into. with_package m p.1 into) brings.packages;
}

-- ---- what brings nothing to its counterpart

-- an interface without types or functions of its own, and whose stability its counterpart has
pub interface_left : (m : GraphMerge) (from into : Interface) → brought_types m from ≡ [] → brought_functions from into ≡ [] → joined_stability from.stability into.stability ≡ into.stability → with_interface m from into ≡ into
interface_left m from into types functions stability = λ k. record into {
  types = nothing_behind (λ (e : List ℕ × ℕ). (e.0, merged_type m e.1)) into.types (brought_types m from) types k;
  functions = nothing_behind (λ (e : List ℕ × Function). (e.0, function_image (merge_maps m) e.1)) into.functions (brought_functions from into) functions k;
  stability = stability k;
}

-- a package of whose interfaces and worlds none moves
pub package_left : (m : GraphMerge) (from into : Package) → filter (λ (e : List ℕ × ℕ). moves_interface m e.1) from.interfaces ≡ [] → filter (λ (e : List ℕ × ℕ). moves_world m e.1) from.worlds ≡ [] → with_package m from into ≡ into
package_left m from into interfaces worlds = λ k. record into {
  interfaces = nothing_behind (λ (e : List ℕ × ℕ). (e.0, merged_interface m e.1)) into.interfaces (filter (λ (e : List ℕ × ℕ). moves_interface m e.1) from.interfaces) interfaces k;
  worlds = nothing_behind (λ (e : List ℕ × ℕ). (e.0, merged_world m e.1)) into.worlds (filter (λ (e : List ℕ × ℕ). moves_world m e.1) from.worlds) worlds k;
}

-- entries, each of which leaves the one under its key
module _ (m : GraphMerge) (w : ℕ) (from into : List Entry)
    (left : (d e : Entry) → Contains from d → is_under_id d.0 ≡ true → Contains into e → key_image (merge_maps m) w d.0 ≡ e.0 → joined_item false (item_image (merge_maps m) w d.1) e.1 ≡ e.1) where
  abbrev brought : List Entry
  brought = map (entry_image (merge_maps m) w) (filter (λ (e : Entry). is_under_id e.0) from)

  entry_left : (k : ℕ) (e : Entry) → slice_get into k ≡ Some e → joined_entry false brought e ≡ e
  entry_left k e at = λ i. (e.0, by (lookup (same_key e.0) brought) refl i)
    where
      by : (o : Option WorldItem) → lookup (same_key e.0) brought ≡ o → option_map_or (λ (held : WorldItem). joined_item false held e.1) o e.1 ≡ e.1
      by None is = refl
      by (Some held) is =
          let has = Contains-from_lookup same_key-true e.0 held brought is in
          let image = Contains-map_cases (entry_image (merge_maps m) w) (filter (λ (e : Entry). is_under_id e.0) from) (entry e.0 held) has in
          let kept = Contains-filter (λ (e : Entry). is_under_id e.0) from image.0 image.1 in
          ap (λ (x : Entry). joined_item false x.1 e.1) (sym image.2) ∙ left image.0 e kept.0 kept.1 (contained_at into k e at) (ap (λ (x : Entry). x.0) image.2)

  pub entries_left : with_entries m w from into ≡ into
  entries_left = map_same (joined_entry false brought) into entry_left

-- a world whose entries and whose stability its counterpart has
pub world_left : (m : GraphMerge) (p : ℕ × World) (into : World) → with_entries m p.0 p.1.imports into.imports ≡ into.imports → with_entries m p.0 p.1.exports into.exports ≡ into.exports
    → joined_stability p.1.stability into.stability ≡ into.stability → with_world m p into ≡ into
world_left m p into imports exports stability = λ k. record into { imports = imports k; exports = exports k; stability = stability k }
