-- A merge that leaves what the graph has as it is: no package depends on itself, since those that were there depend on what
-- they did, and those that come on those on which the ones that they come of depend, each at its place.
use Rattle.std.proofs.Common.{◌≡◌, ◌∙◌, ◌⊎◌, inl, inr, ℕ, ◌+◌, ◌<◌, ◌≤◌, ◌==◌, Bool, true, false, List, [], ◌∷◌, ◌++◌, map, length, not, is_some, Option, None, Some, get_or, option_and_then, option_map, slice_get, suc, refl, sym, ap, subst, arith, Contains, if◌then◌else◌}
use Rattle.std.specs.List.{enumerate_from, flat_map}
use Rattle.std.specs.Map.{lookup}
use Rattle.std.specs.Option.{option_map_or}
use Rattle.std.specs.Prelude.{bytes_eq}
use Rattle.std.proofs.lemmas.Bool.{cases_Bool, eqb-true}
use Rattle.std.proofs.lemmas.List.{length-map}
use Rattle.std.proofs.lemmas.List.Elements.{All-contains, Contains-append_cases, Contains-append_left, Contains-append_right, Contains-get_or}
use Rattle.std.proofs.lemmas.Option.{slice_get_within}
use Rattle.wit_digraph.specs.PostOrder.{post_order}
use Rattle.wit_digraph.specs.Relation.{IsAcyclic, direct}
use Rattle.wit_digraph.specs.facts.MemberFacts.{Contains-flat_map, Contains-flat_map_cases}
use Rattle.wit_values.specs.facts.Lists.{slice_get-append}
use Rattle.wit_data.specs.Entries.{Entry, IsExport, IsImport}
use Rattle.wit_data.specs.Ownership.{world_types}
use Rattle.wit_data.specs.Uses.{interface_uses}
use Rattle.wit_data.specs.declared.interface.Interface.{Interface}
use Rattle.wit_data.specs.declared.types.TypeDef.{TypeDef}
use Rattle.wit_data.specs.declared.types.TypeOwner.TheVariants as owner
use Rattle.wit_data.specs.declared.world.World.{World}
use Rattle.wit_data.specs.declared.world.WorldItem.{WorldItem}
use Rattle.wit_data.specs.declared.world.WorldItem.TheVariants as item
use Rattle.wit_data.specs.declared.world.WorldKey.{WorldKey}
use Rattle.wit_data.specs.declared.world.WorldKey.TheVariants as key
use Rattle.wit_elaboration.specs.Elaboration.{graph_uses}
use Rattle.wit_elaboration.specs.Valid.{IsValid}
use Rattle.wit_graph_data.specs.Queries.{entry_interface, other_package, package_interfaces, world_interfaces, entry_interfaces}
use Rattle.wit_graph_data.specs.declared.graph.Graph.{Graph}
use Rattle.wit_graph_data.specs.declared.graph.Package.{Package}
use Rattle.wit_graph_theory.specs.facts.DependencyFacts.{filter_map_from, filter_map_into, needs_from, needs_into}
use Rattle.wit_graph_theory.specs.facts.EntryFacts.{export_there, import_there}
use Rattle.wit_graph_theory.specs.facts.ListFacts.{Contains-map_cases, at_below, found_at, from_row, get_at, in_row, place_of, same_at}
use Rattle.wit_graph_theory.specs.facts.OptionFacts.{none_there, some_by, some_same}
use Rattle.wit_graph_theory.specs.facts.PackageCycleFacts.{other_from, other_into, row_from, row_into, used_package}
use Rattle.wit_graph_theory.specs.facts.PackagesAcyclic.{is_there, length-numbered, there_is}
use Rattle.wit_graph_theory.specs.facts.RowFacts.{IsAcyclic-grown, post_order_shorter}
use Rattle.wit_remap_spec.specs.Image.{entry_image, interface_image, item_image, world_image}
use Rattle.wit_link_spec.specs.facts.CanonicalStays.{filter_map_agrees, interface_stays, type_stays}
use Rattle.wit_remap_spec.specs.Selected.{rank, selected}
use Rattle.wit_link_spec.specs.facts.RankFacts.{rank-injective}
use Rattle.wit_merge_spec.specs.Cause.{HasNoMismatch}
use Rattle.wit_merge_spec.specs.Matches.{GraphMerge, counterpart_interface, counterpart_package, counterpart_type_by, counterpart_world}
use Rattle.wit_merge_spec.specs.Merged.{joined_graph, merge_maps, merged_interface, merged_package, merged_type, merged_world, package_image}
use Rattle.wit_merge_spec.specs.steps.Leaving.{LeavesGraph, new_worlds}
use Rattle.wit_merge_laws.specs.facts.GrownUses.{interfaces_are, more_interfaces, more_types, new_use, types_are, valid_items}
use Rattle.wit_merge_laws.specs.facts.InterfacesStand.{moved_interface_remapped, new_interface_at, old_interface_at, with_counterpart}
use Rattle.wit_merge_laws.specs.facts.ListedStand.{interfaces_apart, new_world_at}
use Rattle.wit_merge_laws.specs.facts.MatchFacts.{goes_to, interface_is, package_is}
use Rattle.wit_merge_laws.specs.facts.NamesGo.{home_is}
use Rattle.wit_merge_laws.specs.facts.PackagesStand.{PackageFrom, interface_moves, interfaces_in_tables, of_graph, of_other, package_at_from, world_moves}
use Rattle.wit_merge_laws.specs.facts.TypesStand.{matched_some, moved_next}
use Rattle.wit_merge_laws.specs.facts.UsesInto.{needs_back}
use Rattle.wit_graph_data.specs.steps.Parts.{package_needs}
use Rattle.wit_elaboration.specs.steps.Parts.{graph_package_uses}
use Rattle.wit_merge_spec.specs.steps.Parts.{moves_type, moves_interface, moves_world, moves_package}

-- functions that agree on the elements give the same lists
flat_map_agrees : {X Y : Type 0} (f g : X → List Y) (xs : List X) → ((i : ℕ) (x : X) → slice_get xs i ≡ Some x → f x ≡ g x) → flat_map f xs ≡ flat_map g xs
flat_map_agrees f g [] same = refl
flat_map_agrees f g (x ∷ xs) same = λ k. same 0 x refl k ++ flat_map_agrees f g xs (λ i. same (suc i)) k

-- an export may be imported
import_so : (interfaces : List Interface) (types : List TypeDef) (w : ℕ) (k : WorldKey) (held : WorldItem) → IsExport interfaces k held → IsImport interfaces types w k held
import_so interfaces types w (key.Interface f) held is = is
import_so interfaces types w (key.Name name) (item.Interface i stability docs span external_id) is = is
import_so interfaces types w (key.Name name) (item.Function f) is = is
import_so interfaces types w (key.Name name) (item.Type_ t span) is = absurd is

-- ---- what a package of a valid graph names

module _ (g : Graph) (valid : IsValid g) where
  abbrev by_interfaces : List ℕ × ℕ → List ℕ
  by_interfaces e = option_map_or (interface_uses g.types) (slice_get g.interfaces e.1) []

  abbrev by_worlds : List ℕ × ℕ → List ℕ
  by_worlds e = option_map_or (world_interfaces g.types) (slice_get g.worlds e.1) []

  entry_allowed : (w : ℕ) (world : World) (e : Entry) → slice_get g.worlds w ≡ Some world → Contains (world.imports ++ world.exports) e → IsImport g.interfaces g.types w e.0 e.1
  entry_allowed w world e at has = elim (Contains-append_cases world.imports world.exports e has) [
    | inl imported ↦ let place = place_of world.imports e imported in valid.well_formed.worlds.imports w world at place.0 e place.1
    | inr exported ↦ let place = place_of world.exports e exported in import_so g.interfaces g.types w e.0 e.1 (valid.well_formed.worlds.exports w world at place.0 e place.1)
  ]

  -- is there
  names_there : (home : Package) (i : ℕ) → Contains (package_interfaces g.types g.interfaces g.worlds home) i → i < length g.interfaces
  names_there home i has = elim (Contains-append_cases (flat_map by_interfaces home.interfaces) (flat_map by_worlds home.worlds) i has) [
    | inl among ↦
        let e = Contains-flat_map_cases by_interfaces home.interfaces i among in
        let user = there_is (interface_uses g.types) (slice_get g.interfaces e.0.1) i e.1.1 in
        let row = in_row (interface_uses g.types) g.interfaces e.0.1 user.0 i user.1 user.2 in
        let within = All-contains (λ x. x < length (graph_uses g)) (direct (graph_uses g) e.0.1) i (valid.no_cycles.uses.in_range e.0.1) row in
        omega (arith, within, length-map g.interfaces (interface_uses g.types))
    | inr among ↦
        let e = Contains-flat_map_cases by_worlds home.worlds i among in
        let world = there_is (world_interfaces g.types) (slice_get g.worlds e.0.1) i e.1.1 in
        elim (Contains-append_cases (entry_interfaces g.types world.0.imports) (entry_interfaces g.types world.0.exports) i world.2) [
          | inl imported ↦
              let d = filter_map_from (λ (d : Entry). entry_interface g.types d.1) world.0.imports i imported in
              let place = place_of world.0.imports d.0 d.1 in
              import_there g.types g.interfaces valid.well_formed.references.aliases e.0.1 d.0.0 d.0.1 i (valid.well_formed.worlds.imports e.0.1 world.0 world.1 place.0 d.0 place.1) d.2
          | inr exported ↦
              let d = filter_map_from (λ (d : Entry). entry_interface g.types d.1) world.0.exports i exported in
              let place = place_of world.0.exports d.0 d.1 in
              export_there g.interfaces g.types d.0.0 d.0.1 i (valid.well_formed.worlds.exports e.0.1 world.0 world.1 place.0 d.0 place.1) d.2
        ]
  ]

-- ---- packages that were there

module _ (m : GraphMerge) (valid : IsValid m.graph) (leaves : LeavesGraph m) where
  abbrev g : Graph
  g = m.graph

  abbrev types : List TypeDef
  types = g.types ++ more_types m

  abbrev interfaces : List Interface
  interfaces = g.interfaces ++ more_interfaces m

  abbrev worlds : List World
  worlds = g.worlds ++ new_worlds m

  entry_same : (w : ℕ) (k : WorldKey) (held : WorldItem) → IsImport g.interfaces g.types w k held → entry_interface types held ≡ entry_interface g.types held
  entry_same w k (item.Interface i stability docs span external_id) is = refl
  entry_same w k (item.Function f) is = refl
  entry_same w (key.Interface f) (item.Type_ t span) is = absurd is
  entry_same w (key.Name name) (item.Type_ t span) is =
      let def = found_at (λ (def : TypeDef). (def.name ≡ Some name) × (def.owner ≡ owner.World w)) g.types t is in
      type_stays g (valid_items g valid) (more_types m) t def.0 def.1

  -- a world names what it named
  world_same : (w : ℕ) (world : World) → slice_get g.worlds w ≡ Some world → world_interfaces types world ≡ world_interfaces g.types world
  world_same w world at =
      λ k. side world.imports (λ i e on. valid.well_formed.worlds.imports w world at i e on) k
      ++ side world.exports (λ i e on. import_so g.interfaces g.types w e.0 e.1 (valid.well_formed.worlds.exports w world at i e on)) k
    where
      side : (es : List Entry) → ((i : ℕ) (e : Entry) → slice_get es i ≡ Some e → IsImport g.interfaces g.types w e.0 e.1) → entry_interfaces types es ≡ entry_interfaces g.types es
      side es allowed = filter_map_agrees (λ (e : Entry). entry_interface types e.1) (λ (e : Entry). entry_interface g.types e.1) es (λ i e on. entry_same w e.0 e.1 (allowed i e on))

  -- and so does a package
  package_same : (p : ℕ) (home : Package) → slice_get g.packages p ≡ Some home → package_interfaces types interfaces worlds home ≡ package_interfaces g.types g.interfaces g.worlds home
  package_same p home at =
      λ k. flat_map_agrees (λ (e : List ℕ × ℕ). option_map_or (interface_uses types) (slice_get interfaces e.1) []) (by_interfaces g valid) home.interfaces used k
      ++ flat_map_agrees (λ (e : List ℕ × ℕ). option_map_or (world_interfaces types) (slice_get worlds e.1) []) (by_worlds g valid) home.worlds named k
    where
      used : (i : ℕ) (e : List ℕ × ℕ) → slice_get home.interfaces i ≡ Some e → option_map_or (interface_uses types) (slice_get interfaces e.1) [] ≡ by_interfaces g valid e
      used i e on =
          let is = found_at (λ (x : Interface). (x.name ≡ Some e.0) × (x.package ≡ Some p)) g.interfaces e.1 (valid.well_formed.tables.interface_tables p home at i e on) in
          ap (λ (o : Option Interface). option_map_or (interface_uses types) o []) (slice_get-append g.interfaces (more_interfaces m) e.1 is.0 is.1)
          ∙ (interface_stays g (valid_items g valid) (more_types m) e.1 is.0 is.1 ∙ ap (λ (o : Option Interface). option_map_or (interface_uses g.types) o []) (sym is.1))

      named : (i : ℕ) (e : List ℕ × ℕ) → slice_get home.worlds i ≡ Some e → option_map_or (world_interfaces types) (slice_get worlds e.1) [] ≡ by_worlds g valid e
      named i e on =
          let is = found_at (λ (x : World). (x.name ≡ e.0) × (x.package ≡ Some p)) g.worlds e.1 (valid.well_formed.tables.world_tables p home at i e on) in
          ap (λ (o : Option World). option_map_or (world_interfaces types) o []) (slice_get-append g.worlds (new_worlds m) e.1 is.0 is.1)
          ∙ (world_same e.1 is.0 is.1 ∙ ap (λ (o : Option World). option_map_or (world_interfaces g.types) o []) (sym is.1))

  -- so it needs what it needed
  needs_stay : (p q : ℕ) (home : Package) → slice_get g.packages p ≡ Some home → Contains (package_needs types interfaces worlds p home) q → Contains (package_needs g.types g.interfaces g.worlds p home) q
  needs_stay p q home at has =
      let from = filter_map_from (other_package interfaces p) (package_interfaces types interfaces worlds home) q has in
      let among = subst (λ (ids : List ℕ). Contains ids from.0) (package_same p home at) from.1 in
      let there = get_at g.interfaces from.0 (names_there g valid home from.0 among) in
      let same : slice_get g.interfaces from.0 ≡ slice_get interfaces from.0 = there.1 ∙ sym (slice_get-append g.interfaces (more_interfaces m) from.0 there.0 there.1) in
      filter_map_into (other_package g.interfaces p) (package_interfaces g.types g.interfaces g.worlds home) from.0 q among
      (ap (λ (o : Option Interface). option_and_then (λ (interface : Interface). option_and_then (λ r. if r == p then None else Some r) interface.package) o) same ∙ from.2)

  pub joined_needs : (p q : ℕ) (home : Package) → slice_get g.packages p ≡ Some home → Contains (package_needs (joined_graph m).types (joined_graph m).interfaces (joined_graph m).worlds p home) q
      → Contains (package_needs g.types g.interfaces g.worlds p home) q
  joined_needs p q home at has =
      needs_stay p q home at (subst (λ (ids : List ℕ). Contains ids q) (λ k. package_needs (types_are m leaves k) (interfaces_are m leaves k) (worlds_are k) p home) has)
    where
      worlds_are : (joined_graph m).worlds ≡ worlds
      worlds_are = ap (λ (l : List World). l ++ new_worlds m) leaves.worlds

-- ---- packages that come

module _ (m : GraphMerge) (valid : IsValid m.graph) (valid_other : IsValid m.other) (one : HasNoMismatch m) (leaves : LeavesGraph m) where
  abbrev joined : Graph
  joined = joined_graph m

  abbrev h : Graph
  h = m.other

  -- a type of a world that moves does
  type_moves : (w t : ℕ) (def : TypeDef) (name : List ℕ) → moves_world m w ≡ true → slice_get h.types t ≡ Some def → def.name ≡ Some name → def.owner ≡ owner.World w → moves_type m t ≡ true
  type_moves w t def name moves at called of =
      ap (λ (o : Option ℕ). not (is_some o))
      (some_by (λ (d : TypeDef). counterpart_type_by m d.name d.owner) (slice_get h.types t) def at
      ∙ ((λ k. counterpart_type_by m (called k) (of k))
      ∙ ap (λ (o : Option ℕ). option_and_then (λ (there : World). lookup (bytes_eq name) (world_types there)) (option_and_then (slice_get m.graph.worlds) o)) (none_there (counterpart_world m w) moves)))

  -- what an entry of one names at its place, it named
  entry_back : (w i' : ℕ) (k : WorldKey) (held : WorldItem) → moves_world m w ≡ true → IsImport h.interfaces h.types w k held → entry_interface joined.types (item_image (merge_maps m) w held) ≡ Some i'
      → (i : ℕ) × (i' ≡ merged_interface m i) × (entry_interface h.types held ≡ Some i)
  entry_back w i' k (item.Interface i stability docs span external_id) moves is names = (i, sym (some_same (merged_interface m i) i' names), refl)
  entry_back w i' k (item.Function f) moves is names = cc
  entry_back w i' (key.Interface f) (item.Type_ t span) moves is names = absurd is
  entry_back w i' (key.Name name) (item.Type_ t span) moves is names =
      let def = found_at (λ (def : TypeDef). (def.name ≡ Some name) × (def.owner ≡ owner.World w)) h.types t is in
      let back = needs_back m valid valid_other t i' def.0 def.1 (type_moves w t def.0 name moves def.1 def.2.0 def.2.1) (needs_from joined.types (merged_type m t) i' names) in
      (back.0, back.1, needs_into h.types t back.0 back.2)

  -- and so of a world
  world_back : (w i' : ℕ) (old : World) → moves_world m w ≡ true → slice_get h.worlds w ≡ Some old → Contains (world_interfaces joined.types (world_image (merge_maps m) w old)) i'
      → (i : ℕ) × (i' ≡ merged_interface m i) × Contains (world_interfaces h.types old) i
  world_back w i' old moves at has =
      elim (Contains-append_cases (entry_interfaces joined.types (map (entry_image (merge_maps m) w) old.imports)) (entry_interfaces joined.types (map (entry_image (merge_maps m) w) old.exports)) i' has) [
        | inl imported ↦
            let is = side old.imports (λ i e on. valid_other.well_formed.worlds.imports w old at i e on) imported in
            (is.0, is.1, Contains-append_left (entry_interfaces h.types old.imports) (entry_interfaces h.types old.exports) is.0 is.2)
        | inr exported ↦
            let is = side old.exports (λ i e on. import_so h.interfaces h.types w e.0 e.1 (valid_other.well_formed.worlds.exports w old at i e on)) exported in
            (is.0, is.1, Contains-append_right (entry_interfaces h.types old.imports) (entry_interfaces h.types old.exports) is.0 is.2)
      ]
    where
      side : (es : List Entry) → ((i : ℕ) (e : Entry) → slice_get es i ≡ Some e → IsImport h.interfaces h.types w e.0 e.1) → Contains (entry_interfaces joined.types (map (entry_image (merge_maps m) w) es)) i'
          → (i : ℕ) × (i' ≡ merged_interface m i) × Contains (entry_interfaces h.types es) i
      side es allowed among =
          let e = filter_map_from (λ (e : Entry). entry_interface joined.types e.1) (map (entry_image (merge_maps m) w) es) i' among in
          let d = Contains-map_cases (entry_image (merge_maps m) w) es e.0 e.1 in
          let place = place_of es d.0 d.1 in
          let back = entry_back w i' d.0.0 d.0.1 moves (allowed place.0 d.0 place.1) (subst (λ (x : Entry). entry_interface joined.types x.1 ≡ Some i') (sym d.2) e.2) in
          (back.0, back.1, filter_map_into (λ (e : Entry). entry_interface h.types e.1) es d.0 back.0 d.1 back.2)

  -- what an interface that moves uses at its place, it used
  interface_back : (f i' : ℕ) → moves_interface m f ≡ true → Contains (direct (graph_uses joined) (merged_interface m f)) i' → (i : ℕ) × (i' ≡ merged_interface m i) × Contains (direct (graph_uses h) f) i
  interface_back f i' moves has =
      let next = moved_interface_remapped m f moves in
      let old = new_use m valid valid_other one leaves (merged_interface m f) i' (omega (arith, next, length-map m.graph.interfaces (interface_uses m.graph.types))) has in
      let same : old.i ≡ f = interfaces_apart m valid valid_other old.i f (sym old.place) in
      (old.j, old.used_place, subst (λ (x : ℕ). Contains (direct (graph_uses h) x) old.j) same old.used)

  -- an interface stands in the package to which its own goes
  home_goes : (i : ℕ) (old new : Interface) → slice_get h.interfaces i ≡ Some old → slice_get joined.interfaces (merged_interface m i) ≡ Some new → new.package ≡ option_map (merged_package m) old.package
  home_goes i old new at there = elim (cases_Bool (moves_interface m i)) [
    | inl moves ↦ ap (λ (x : Interface). x.package) (some_same new (interface_image (merge_maps m) old) (sym there ∙ new_interface_at m i old at moves))
    | inr stays ↦
        let found = matched_some (counterpart_interface m i) stays in
        let is = interface_is m valid valid_other i found.0 found.1 in
        let same : is.from ≡ old = some_same is.from old (sym is.from_is ∙ at) in
        let here = sym there ∙ (ap (slice_get joined.interfaces) (goes_to (counterpart_interface m i) _ found.0 found.1) ∙ (old_interface_at m found.0 is.into is.into_is ∙ ap (λ (x : Interface). Some x) (with_counterpart m valid valid_other i found.0 old is.into at found.1))) in
        ap (λ (x : Interface). x.package) (some_same new _ here) ∙ (is.home ∙ ap (λ (x : Interface). option_map (merged_package m) x.package) same)
  ]

  module _ (p : ℕ) (old : Package) (at : slice_get h.packages p ≡ Some old) (moves : moves_package m p ≡ true) where
    abbrev new : Package
    new = package_image m old

    abbrev by_new_interfaces : List ℕ × ℕ → List ℕ
    by_new_interfaces e =
        option_map_or (interface_uses joined.types) (slice_get joined.interfaces e.1) []

    abbrev by_new_worlds : List ℕ × ℕ → List ℕ
    by_new_worlds e = option_map_or (world_interfaces joined.types) (slice_get joined.worlds e.1) []

    -- what one that moves names at its place, it named
    named_back : (i' : ℕ) → Contains (package_interfaces joined.types joined.interfaces joined.worlds new) i' → (i : ℕ) × (i' ≡ merged_interface m i) × Contains (package_interfaces h.types h.interfaces h.worlds old) i
    named_back i' has = elim (Contains-append_cases (flat_map by_new_interfaces new.interfaces) (flat_map by_new_worlds new.worlds) i' has) [
      | inl among ↦
          let e = Contains-flat_map_cases by_new_interfaces new.interfaces i' among in
          let d = Contains-map_cases (λ (x : List ℕ × ℕ). let r : List ℕ × ℕ = (x.0, merged_interface m x.1) in r) old.interfaces e.0 e.1.0 in
          let place = place_of old.interfaces d.0 d.1 in
          let goes = interface_moves m valid valid_other p old at moves d.0.1 d.0.0 (valid_other.well_formed.tables.interface_tables p old at place.0 d.0 place.1) in
          let user = there_is (interface_uses joined.types) (slice_get joined.interfaces e.0.1) i' e.1.1 in
          let to : e.0.1 ≡ merged_interface m d.0.1 = ap (λ (x : List ℕ × ℕ). x.1) (sym d.2) in
          let back = interface_back d.0.1 i' goes (in_row (interface_uses joined.types) joined.interfaces (merged_interface m d.0.1) user.0 i' (ap (slice_get joined.interfaces) (sym to) ∙ user.1) user.2) in
          let row = from_row (interface_uses h.types) h.interfaces d.0.1 back.0 back.2 in (
            back.0,
            back.1,
            Contains-append_left (flat_map (by_interfaces h valid_other) old.interfaces) (flat_map (by_worlds h valid_other) old.worlds) back.0
                (Contains-flat_map (by_interfaces h valid_other) old.interfaces d.0 back.0 d.1 (is_there (interface_uses h.types) (slice_get h.interfaces d.0.1) row.0 back.0 row.1 row.2)),
          )
      | inr among ↦
          let e = Contains-flat_map_cases by_new_worlds new.worlds i' among in
          let d = Contains-map_cases (λ (x : List ℕ × ℕ). let r : List ℕ × ℕ = (x.0, merged_world m x.1) in r) old.worlds e.0 e.1.0 in
          let place = place_of old.worlds d.0 d.1 in
          let is = valid_other.well_formed.tables.world_tables p old at place.0 d.0 place.1 in
          let goes = world_moves m valid valid_other p old at moves d.0.1 d.0.0 is in
          let world = found_at (λ (x : World). (x.name ≡ d.0.0) × (x.package ≡ Some p)) h.worlds d.0.1 is in
          let held = there_is (world_interfaces joined.types) (slice_get joined.worlds e.0.1) i' e.1.1 in
          let to : e.0.1 ≡ merged_world m d.0.1 = ap (λ (x : List ℕ × ℕ). x.1) (sym d.2) in
          let same = same_at joined.worlds e.0.1 (merged_world m d.0.1) held.0 (world_image (merge_maps m) d.0.1 world.0) to held.1 (new_world_at m d.0.1 world.0 world.1 goes) in
          let back = world_back d.0.1 i' world.0 goes world.1 (subst (λ (x : World). Contains (world_interfaces joined.types x) i') same held.2) in (
            back.0,
            back.1,
            Contains-append_right (flat_map (by_interfaces h valid_other) old.interfaces) (flat_map (by_worlds h valid_other) old.worlds) back.0
                (Contains-flat_map (by_worlds h valid_other) old.worlds d.0 back.0 d.1 (is_there (world_interfaces h.types) (slice_get h.worlds d.0.1) world.0 back.0 world.1 back.2)),
          )
    ]

    -- so it needs, at their places, what it needed
    needs_from_other : (p' q' : ℕ) → p' ≡ merged_package m p → Contains (package_needs joined.types joined.interfaces joined.worlds p' new) q' → (q : ℕ) × (q' ≡ merged_package m q) × Contains (package_needs h.types h.interfaces h.worlds p old) q
    needs_from_other p' q' place has =
        let from = filter_map_from (other_package joined.interfaces p') (package_interfaces joined.types joined.interfaces joined.worlds new) q' has in
        let of = other_from joined.interfaces p' from.0 q' from.2 in
        let back = named_back from.0 from.1 in
        let there = get_at h.interfaces back.0 (names_there h valid_other old back.0 back.2) in
        let home = home_is _ there.0.package (valid_other.well_formed.tables.interfaces_listed back.0 there.0 there.1) in
        let goes = home_goes back.0 there.0 of.0 there.1 (ap (slice_get joined.interfaces) (sym back.1) ∙ of.1) in
        let same : q' ≡ merged_package m home.0 = some_same q' (merged_package m home.0) (sym of.2 ∙ (goes ∙ ap (option_map (merged_package m)) home.1)) in (
          home.0,
          same,
          filter_map_into (other_package h.interfaces p) (package_interfaces h.types h.interfaces h.worlds old) back.0 home.0 back.2
              (other_into h.interfaces p back.0 home.0 there.0 there.1 home.1 (apart home.0 (home.0 == p) refl (λ one_home. of.3 (same ∙ (ap (merged_package m) one_home ∙ sym place))))),
        )
      where
        apart : (q : ℕ) (b : Bool) → (q == p) ≡ b → ((q ≡ p) → ⊥) → (q == p) ≡ false
        apart q true is differ = absurd (differ (eqb-true q p is))
        apart q false is differ = is

  -- ---- no package depends on itself

  abbrev rows : List (List ℕ)
  rows = graph_package_uses joined

  abbrev old_rows : List (List ℕ)
  old_rows = graph_package_uses m.graph

  abbrev other_rows : List (List ℕ)
  other_rows = graph_package_uses h

  long_of : (x : Graph) → length (graph_package_uses x) ≡ length x.packages
  long_of x = length-map (enumerate_from 0 x.packages) (λ (e : ℕ × Package). package_needs x.types x.interfaces x.worlds e.0 e.1) ∙ length-numbered 0 x.packages

  -- the rank of the package to which one of the other graph moves: the length of the walk of that
  record Rank (p' r : ℕ) : Type 0 where
    p : ℕ
    moves : moves_package m p ≡ true
    place : p' ≡ merged_package m p
    is : r ≡ length (post_order other_rows p)

  -- a dependency of a package that comes, in the other graph
  record OtherDependency (p' q' : ℕ) : Type 0 where
    p : ℕ
    q : ℕ
    moves : moves_package m p ≡ true
    place : p' ≡ merged_package m p
    used_place : q' ≡ merged_package m q
    within : p < length other_rows
    used : Contains (direct other_rows p) q

  row_at : (p' q' : ℕ) → Contains (direct rows p') q' → (home : Package) × (slice_get joined.packages p' ≡ Some home) × Contains (package_needs joined.types joined.interfaces joined.worlds p' home) q'
  row_at p' q' has = row_from joined.types joined.interfaces joined.packages (interfaces_in_tables m valid valid_other) joined.worlds p' q' has

  depends_by : (p' q' : ℕ) → length old_rows ≤ p' → Contains (direct rows p') q' → OtherDependency p' q'
  depends_by p' q' past has = let row = row_at p' q' has in by row.0 row.2 (package_at_from m p' row.0 row.1)
    where
      by : (home : Package) → Contains (package_needs joined.types joined.interfaces joined.worlds p' home) q' → PackageFrom m p' home → OtherDependency p' q'
      by home needs (of_graph old is same) = let within = slice_get_within m.graph.packages p' old is in let long = long_of m.graph in absurd (omega (arith, past, within, long))
      by home needs (of_other p old is moves place same) =
          let back = needs_from_other p old is moves p' q' place (subst (λ (x : Package). Contains (package_needs joined.types joined.interfaces joined.worlds p' x) q') (sym same) needs) in
          let within = slice_get_within h.packages p old is in
          let long = long_of h in
          record {
            p = p;
            q = back.0;
            moves = moves;
            place = place;
            used_place = back.1;
            within = omega (arith, within, long);
            used = row_into h.types h.interfaces h.packages valid_other.well_formed.tables.interfaces_listed h.worlds p back.0 old is back.2;
          }

  stays : (p q : ℕ) → p < length old_rows → Contains (direct rows p) q → Contains (direct old_rows p) q
  stays p q before has =
      let row = row_at p q has in
      let long = long_of m.graph in
      let there = at_below m.graph.packages (map (package_image m) (selected (moves_package m) m.other.packages)) p row.0 (omega (arith, before, long)) (subst (λ (l : List Package). slice_get l p ≡ Some row.0) packages_are row.1) in
      row_into m.graph.types m.graph.interfaces m.graph.packages valid.well_formed.tables.interfaces_listed m.graph.worlds p q row.0 there (joined_needs m valid leaves p q row.0 there row.2)
    where
      packages_are : joined.packages ≡ m.graph.packages ++ map (package_image m) (selected (moves_package m) m.other.packages)
      packages_are = ap (λ (l : List Package). l ++ map (package_image m) (selected (moves_package m) m.other.packages)) leaves.packages

  -- a package of the other graph goes to one that was there, or it moves
  goes : (q' q : ℕ) → q' ≡ merged_package m q → (q' < length old_rows) ⊎ Rank q' (length (post_order other_rows q))
  goes q' q place = elim (cases_Bool (moves_package m q)) [
    | inl moves ↦ inr (record { p = q; moves = moves; place = place; is = refl })
    | inr matched ↦
        let found = matched_some (counterpart_package m q) matched in
        let is = package_is m valid q found.0 found.1 in
        let there = found_at (λ (there : Package). there.name ≡ is.0.name) m.graph.packages found.0 is.2 in
        let to : merged_package m q ≡ found.0 = goes_to (counterpart_package m q) _ found.0 found.1 in
        let within = slice_get_within m.graph.packages found.0 there.0 there.1 in
        let long = long_of m.graph in
        inl (omega (arith, place, to, within, long))
  ]

  down : (p' r q' : ℕ) → length old_rows ≤ p' → Rank p' r → Contains (direct rows p') q' → (q' < length old_rows) ⊎ ((s : ℕ) × Rank q' s × (s < r))
  down p' r q' past ranked has =
      let come = depends_by p' q' past has in
      let a = moved_next (counterpart_package m come.p) (length m.graph.packages + rank (moves_package m) come.p) come.moves in
      let b = moved_next (counterpart_package m ranked.p) (length m.graph.packages + rank (moves_package m) ranked.p) ranked.moves in
      let one_place = come.place in
      let other_place = ranked.place in
      let same : come.p ≡ ranked.p = rank-injective (moves_package m) come.p ranked.p come.moves ranked.moves (omega (arith, a, b, one_place, other_place)) in
      let shorter = post_order_shorter other_rows valid_other.no_cycles.packages come.p come.q come.within come.used in
      let is : r ≡ length (post_order other_rows come.p) = ranked.is ∙ ap (λ (p : ℕ). length (post_order other_rows p)) (sym same) in
      elim (goes q' come.q come.used_place) [
        | inl before ↦ inl before
        | inr lower ↦ inr (length (post_order other_rows come.q), lower, omega (arith, shorter, is))
      ]

  pub grown_packages_acyclic : IsAcyclic rows
  grown_packages_acyclic = IsAcyclic-grown Rank old_rows rows valid.no_cycles.packages (record {
    in_range = λ p k d below. used_package joined.types joined.interfaces joined.packages (interfaces_in_tables m valid valid_other) joined.worlds p (get_or (direct rows p) k d) (Contains-get_or (direct rows p) k d below);
    stays = stays;
    ranked = λ p past q has. let come = depends_by p q past has in (length (post_order other_rows come.p), record { p = come.p; moves = come.moves; place = come.place; is = refl });
    down = down;
  })
