-- A merge whose steps find that nothing of the graph changes leaves the graph as it is.
use Rattle.std.proofs.Common.{◌≡◌, ◌∙◌, ℕ, suc, ◌+◌, ◌<◌, ◌≤◌, Bool, false, true, List, [], ◌∷◌, ◌++◌, filter, map, length, nat_eq, Option, None, Some, option_and_then, option_map, slice_get, unwrap_or, refl, sym, ap, subst, arith, below_more, Contains}
use Rattle.std.specs.List.{enumerate_from}
use Rattle.std.specs.Map.{lookup}
use Rattle.std.specs.Option.{option_eq, option_map_or}
use Rattle.std.proofs.lemmas.Bool.{eqb-true, false≢true}
use Rattle.std.proofs.lemmas.List.{append-nil}
use Rattle.std.proofs.lemmas.Map.Views.{Contains-from_lookup, lookup-from_Contains}
use Rattle.std.proofs.lemmas.Option.{slice_get_within}
use Rattle.wit_digraph.specs.facts.MemberFacts.{Contains-here, Contains-there}
use Rattle.wit_data.specs.Entries.{Entry, IsExport, IsImport}
use Rattle.wit_data.specs.facts.WorldKeyFacts.{key_is, key_laws}
use Rattle.wit_data.specs.declared.function.Function.{Function}
use Rattle.wit_data.specs.declared.interface.Interface.{Interface}
use Rattle.wit_data.specs.declared.stability.Stability.{Stability}
use Rattle.wit_data.specs.declared.types.TypeDef.{TypeDef}
use Rattle.wit_data.specs.declared.world.World.{World}
use Rattle.wit_data.specs.declared.world.WorldItem.{WorldItem}
use Rattle.wit_data.specs.declared.world.WorldKey.{WorldKey}
use Rattle.wit_data.specs.declared.world.WorldItem.TheVariants as item
use Rattle.wit_data.specs.declared.world.WorldKey.TheVariants as key
use Rattle.wit_elaboration.specs.Entries.{same_key}
use Rattle.wit_elaboration.specs.Valid.{IsValid}
use Rattle.wit_elaboration.specs.facts.Filters.{Contains-filter}
use Rattle.wit_elaboration.specs.facts.SoundFacts.{named_within}
use Rattle.wit_graph_data.specs.declared.graph.Graph.{Graph}
use Rattle.wit_graph_data.specs.declared.graph.Package.{Package}
use Rattle.wit_graph_theory.specs.facts.ListFacts.{Contains-map_cases, place_of}
use Rattle.wit_graph_theory.specs.facts.OptionFacts.{some_parts}
use Rattle.wit_graph_theory.specs.facts.PackagesAcyclic.{numbered_from}
use Rattle.wit_remap_spec.specs.Joined.{joined_entry, joined_item, joined_stability}
use Rattle.wit_link_spec.specs.facts.ForeignFound.{find-passes}
use Rattle.wit_remap_spec.specs.Image.{entry_image, function_image, item_image}
use Rattle.wit_merge_spec.specs.Matches.{GraphMerge, counterpart_interface, counterpart_item, counterpart_of, counterpart_package, counterpart_type, counterpart_world}
use Rattle.wit_merge_spec.specs.Merged.{brought_functions, is_under_id, merge_maps, merged_interface, merged_type, merged_world, with_entries, with_interface, with_package, with_world}
use Rattle.wit_merge_spec.specs.steps.Leaving.{LeavesGraph}
use Rattle.wit_merge_match.specs.steps.Leaving.{EntriesLeave, InterfaceLeaves, LeavesAt, PackageLeaves, TypeLeaves, WorldLeaves, interface_stability}
use Rattle.wit_merge_spec.specs.steps.Parts.{brought_types, with_type, moves_interface, moves_world}

-- ---- loops

module _ {X : Type 0} (found : ℕ → Option ℕ) (others ours : List X) (Leaves : X → X → Type 0) where
  -- the first n things do
  abbrev pub LeaveBelow : ℕ → Type 0
  LeaveBelow n = (k : ℕ) → k < n → LeavesAt found others ours Leaves k

  pub leave_next : (n : ℕ) → LeaveBelow n → LeavesAt found others ours Leaves n → LeaveBelow (n + 1)
  leave_next n before here = below_more (LeavesAt found others ours Leaves) n before here

  -- all do
  pub leave_all : (n : ℕ) → length others ≤ n → LeaveBelow n → (i : ℕ) → LeavesAt found others ours Leaves i
  leave_all n reached below i from into at matched = let within : i < length others = slice_get_within others i from at in below i (omega arith) from into at matched

-- ---- things that are joined

option_is : (o : Option ℕ) (x : ℕ) → option_eq nat_eq o (Some x) ≡ true → o ≡ Some x
option_is None x same = absurd (false≢true same)
option_is (Some y) x same = ap (λ (z : ℕ). Some z) (eqb-true y x same)

module _ {X : Type 0} (found : ℕ → Option ℕ) (others ours : List X) (with_matched : ℕ × X → X → X) where
  -- what is matched with a thing goes to it
  counterpart_from : (x' : ℕ) (p : ℕ × X) → counterpart_of found others x' ≡ Some p → (slice_get others p.0 ≡ Some p.1) × (found p.0 ≡ Some x')
  counterpart_from x' p is =
      let test : ℕ × X → Bool = λ e. option_eq nat_eq (found e.0) (Some x') in
      let passes = find-passes test (enumerate_from 0 others) p is in
      let place = place_of (enumerate_from 0 others) p passes.0 in
      let numbered = numbered_from 0 others place.0 p place.1 in
      let n = numbered.0 in
      (subst (λ (k : ℕ). slice_get others k ≡ Some p.1) (omega (arith, n)) numbered.1, option_is (found p.0) x' passes.1)

  abbrev joined : ℕ × X → X
  joined e = option_map_or (λ (p : ℕ × X). with_matched p e.1) (counterpart_of found others e.0) e.1

  module _ (leave : (i : ℕ) → LeavesAt found others ours (λ (from into : X). (j : ℕ) → with_matched (j, from) into ≡ into) i) where
    one_stays : (x' : ℕ) (into : X) → slice_get ours x' ≡ Some into → joined (x', into) ≡ into
    one_stays x' into at = by (counterpart_of found others x') refl
      where
        by : (o : Option (ℕ × X)) → counterpart_of found others x' ≡ o → option_map_or (λ (p : ℕ × X). with_matched p into) o into ≡ into
        by None is = refl
        by (Some p) is = let from = counterpart_from x' p is in leave p.0 p.1 into from.0 (ap (option_and_then (slice_get ours)) from.1 ∙ at) p.0

    stay_from : (n : ℕ) (xs : List X) → ((k : ℕ) (x : X) → slice_get xs k ≡ Some x → slice_get ours (n + k) ≡ Some x) → map joined (enumerate_from n xs) ≡ xs
    stay_from n [] at = refl
    stay_from n (x ∷ xs) at =
        λ j. one_stays n x (let here : n + 0 ≡ n = omega arith in subst (λ (i : ℕ). slice_get ours i ≡ Some x) here (at 0 x refl)) j ∷ stay_from (n + 1) xs (λ k y there. let next : n + suc k ≡ n + 1 + k = omega arith in subst (λ (i : ℕ). slice_get ours i ≡ Some y) next (at (suc k) y there)) j

    pub all_stay : map joined (enumerate_from 0 ours) ≡ ours
    all_stay = stay_from 0 ours (λ k x there. let same : k ≡ 0 + k = omega arith in subst (λ (i : ℕ). slice_get ours i ≡ Some x) same there)

-- ---- types, interfaces and packages

type_stays : (from into : TypeDef) → TypeLeaves from into → with_type from into ≡ into
type_stays from into leaves = λ j. record into { stability = leaves j }

-- whatever the offset is
module _ (m : GraphMerge) (offset : ℕ) where
  abbrev moved : GraphMerge
  moved = record m { offset = offset }

  interface_stays : (from into : Interface) → InterfaceLeaves m from into → with_interface moved from into ≡ into
  interface_stays from into leaves =
      let types : into.types ++ map (λ (e : List ℕ × ℕ). (e.0, merged_type moved e.1)) (brought_types moved from) ≡ into.types =
      ap (λ (l : List (List ℕ × ℕ)). into.types ++ map (λ (e : List ℕ × ℕ). (e.0, merged_type moved e.1)) l) leaves.types ∙ append-nil into.types in
      let functions : into.functions ++ map (λ (e : List ℕ × Function). (e.0, function_image (merge_maps moved) e.1)) (brought_functions from into) ≡ into.functions =
      ap (λ (l : List (List ℕ × Function)). into.functions ++ map (λ (e : List ℕ × Function). (e.0, function_image (merge_maps moved) e.1)) l) leaves.functions ∙ append-nil into.functions in
      λ j. record into { types = types j; functions = functions j; stability = leaves.stability j }

  package_stays : (from into : Package) → PackageLeaves m from into → with_package moved from into ≡ into
  package_stays from into leaves =
      let interfaces : into.interfaces ++ map (λ (e : List ℕ × ℕ). (e.0, merged_interface moved e.1)) (filter (λ (e : List ℕ × ℕ). moves_interface moved e.1) from.interfaces) ≡ into.interfaces =
      ap (λ (l : List (List ℕ × ℕ)). into.interfaces ++ map (λ (e : List ℕ × ℕ). (e.0, merged_interface moved e.1)) l) leaves.interfaces ∙ append-nil into.interfaces in
      let worlds : into.worlds ++ map (λ (e : List ℕ × ℕ). (e.0, merged_world moved e.1)) (filter (λ (e : List ℕ × ℕ). moves_world moved e.1) from.worlds) ≡ into.worlds =
      ap (λ (l : List (List ℕ × ℕ)). into.worlds ++ map (λ (e : List ℕ × ℕ). (e.0, merged_world moved e.1)) l) leaves.worlds ∙ append-nil into.worlds in
      λ j. record into { interfaces = interfaces j; worlds = worlds j }

-- ---- worlds

-- what goes to one of the first so many is matched with it
known_place : (o : Option ℕ) (next count : ℕ) → count ≤ next → unwrap_or o next < count → o ≡ Some (unwrap_or o next)
known_place None next count past below = absurd (omega arith)
known_place (Some x) next count past below = refl

-- an item to which another is joined, whose stability it has or which has none
item_stays : (d held : WorldItem) → ((s s' : Stability) → interface_stability d ≡ Some s → interface_stability held ≡ Some s' → joined_stability s s' ≡ s') → joined_item false d held ≡ held
item_stays (item.Interface i s docs span external_id) (item.Interface i' s' docs' span' external_id') stays = ap (λ (x : Stability). item.Interface i' x docs' span' external_id') (stays s s' refl refl)
item_stays (item.Interface i s docs span external_id) (item.Function f) stays = refl
item_stays (item.Interface i s docs span external_id) (item.Type_ t span') stays = refl
item_stays (item.Function f) held stays = refl
item_stays (item.Type_ t span) held stays = refl

module _ (m : GraphMerge) (offset w : ℕ) (from into : List Entry) (leaves : EntriesLeave m from into) (within : (i : ℕ) (held : WorldItem) → Contains into (key.Interface i, held) → i < length m.graph.interfaces) where
  abbrev brought : List Entry
  brought = map (entry_image (merge_maps (record m { offset = offset })) w) (filter (λ (e : Entry). is_under_id e.0) from)

  -- what an image of an entry joins is as it was
  image_stays : (e : Entry) → Contains from e → is_under_id e.0 ≡ true → (k : WorldKey) (d held : WorldItem) → entry_image (merge_maps (record m { offset = offset })) w e ≡ (k, d) → Contains into (k, held)
      → joined_item false d held ≡ held
  image_stays (key.Name label, h) listed under k d held is has = absurd (false≢true under)
  image_stays (key.Interface j, h) listed under k d held is has =
      let key_same : key.Interface (merged_interface m j) ≡ k = ap (λ (e : Entry). e.0) is in
      let item_same : item_image (merge_maps (record m { offset = offset })) w h ≡ d = ap (λ (e : Entry). e.1) is in
      let there : Contains into (key.Interface (merged_interface m j), held) = subst (λ (x : WorldKey). Contains into (x, held)) (sym key_same) has in
      let below : merged_interface m j < length m.graph.interfaces = within (merged_interface m j) held there in
      let matched : counterpart_interface m j ≡ Some (merged_interface m j) = known_place (counterpart_interface m j) _ (length m.graph.interfaces) (omega arith) below in
      let found : lookup (same_key (key.Interface (merged_interface m j))) into ≡ Some held = lookup-from_Contains key_laws (key.Interface (merged_interface m j)) held into leaves.distinct there in
      let beside : counterpart_item m into (key.Interface j) ≡ Some held = ap (λ (o : Option ℕ). option_and_then (λ (k' : WorldKey). lookup (same_key k') into) (option_map (λ (i : ℕ). key.Interface i) o)) matched ∙ found in
      subst (λ (x : WorldItem). joined_item false x held ≡ held) item_same (by h listed beside)
    where
      by : (g : WorldItem) → Contains from (key.Interface j, g) → counterpart_item m into (key.Interface j) ≡ Some held → joined_item false (item_image (merge_maps (record m { offset = offset })) w g) held ≡ held
      by (item.Interface i s docs span external_id) listed beside =
          item_stays (item_image (merge_maps (record m { offset = offset })) w (item.Interface i s docs span external_id)) held (λ a b a_is b_is.
          leaves.each (key.Interface j, item.Interface i s docs span external_id) listed a b a_is (ap (option_and_then interface_stability) beside ∙ b_is))
      by (item.Function f) listed beside = refl
      by (item.Type_ t span) listed beside = refl

  one_entry : (k : WorldKey) (held : WorldItem) → Contains into (k, held) → joined_entry false brought (k, held) ≡ (k, held)
  one_entry k held has = by (lookup (same_key k) brought) refl
    where
      by : (o : Option WorldItem) → lookup (same_key k) brought ≡ o → (let r : Entry = (k, option_map_or (λ (d : WorldItem). joined_item false d held) o held) in r) ≡ (k, held)
      by None is = refl
      by (Some d) is =
          let place = Contains-map_cases (entry_image (merge_maps (record m { offset = offset })) w) (filter (λ (e : Entry). is_under_id e.0) from) (k, d) (Contains-from_lookup (λ a b. (key_is a b).0) k d brought is) in
          let listed = Contains-filter (λ (e : Entry). is_under_id e.0) from place.0 place.1 in
          ap (λ (h : WorldItem). let r : Entry = (k, h) in r) (image_stays place.0 listed.0 listed.1 k d held place.2 has)

  entries_stay : (es : List Entry) → ((e : Entry) → Contains es e → Contains into e) → map (joined_entry false brought) es ≡ es
  entries_stay [] are = refl
  entries_stay ((k, held) ∷ es) are = λ j. one_entry k held (are (k, held) (Contains-here (k, held) es)) j ∷ entries_stay es (λ e has. are e (Contains-there (k, held) e es has)) j

  pub lists_stay : with_entries (record m { offset = offset }) w from into ≡ into
  lists_stay = entries_stay into (λ e has. has)

-- the interfaces of keys are there
import_within : (g : Graph) (w i : ℕ) (held : WorldItem) → IsImport g.interfaces g.types w (key.Interface i) held → i < length g.interfaces
import_within g w i (item.Interface id s docs span external_id) is = named_within g.interfaces i is.1
import_within g w i (item.Function f) is = absurd is
import_within g w i (item.Type_ t span) is = absurd is

export_within : (g : Graph) (i : ℕ) (held : WorldItem) → IsExport g.interfaces (key.Interface i) held → i < length g.interfaces
export_within g i (item.Interface id s docs span external_id) is = named_within g.interfaces i is.1
export_within g i (item.Function f) is = absurd is
export_within g i (item.Type_ t span) is = absurd is

world_stays : (m : GraphMerge) (offset w w' : ℕ) (from into : World) → IsValid m.graph → slice_get m.graph.worlds w' ≡ Some into → WorldLeaves m from into → with_world (record m { offset = offset }) (w, from) into ≡ into
world_stays m offset w w' from into valid at leaves =
    let imports = lists_stay m offset w from.imports into.imports leaves.imports
    (λ i held has. let place = place_of into.imports (key.Interface i, held) has in import_within m.graph w' i held (valid.well_formed.worlds.imports w' into at place.0 (key.Interface i, held) place.1)) in
    let exports = lists_stay m offset w from.exports into.exports leaves.exports
    (λ i held has. let place = place_of into.exports (key.Interface i, held) has in export_within m.graph i held (valid.well_formed.worlds.exports w' into at place.0 (key.Interface i, held) place.1)) in
    λ j. record into { imports = imports j; exports = exports j; stability = leaves.stability j }

-- ---- the graph

module _ (m : GraphMerge) (valid : IsValid m.graph)
    (types : (t : ℕ) → LeavesAt (counterpart_type m) m.other.types m.graph.types TypeLeaves t)
    (interfaces : (i : ℕ) → LeavesAt (counterpart_interface m) m.other.interfaces m.graph.interfaces (InterfaceLeaves m) i)
    (worlds : (w : ℕ) → LeavesAt (counterpart_world m) m.other.worlds m.graph.worlds (WorldLeaves m) w)
    (packages : (p : ℕ) → LeavesAt (counterpart_package m) m.other.packages m.graph.packages (PackageLeaves m) p) where
  pub leaves : (offset : ℕ) → LeavesGraph (record m { offset = offset })
  leaves offset =
      let n : GraphMerge = record m { offset = offset } in
      record {
        types = all_stay (counterpart_type n) n.other.types n.graph.types (λ (p : ℕ × TypeDef) (into : TypeDef). with_type p.1 into) (λ t from into at matched j. type_stays from into (types t from into at matched));
        interfaces = all_stay (counterpart_interface n) n.other.interfaces n.graph.interfaces (λ (p : ℕ × Interface) (into : Interface). with_interface n p.1 into)
            (λ i from into at matched j. interface_stays m offset from into (interfaces i from into at matched));
        worlds = all_stay (counterpart_world n) n.other.worlds n.graph.worlds (with_world n)
            (λ w from into at matched j. let there = some_parts (slice_get m.graph.worlds) (counterpart_world m w) into matched in world_stays m offset j there.0 from into valid there.2 (worlds w from into at matched));
        packages = all_stay (counterpart_package n) n.other.packages n.graph.packages (λ (p : ℕ × Package) (into : Package). with_package n p.1 into)
            (λ p from into at matched j. package_stays m offset from into (packages p from into at matched));
      }
