-- A graph with which a copy of it is merged: nothing differs and what it has is left as it is, so of all causes only a
-- borrow in a result (15) and a position that is too large (27) can hold.
use Rattle.std.proofs.Common.{◌≡◌, ◌∙◌, ◌⊎◌, inl, inr, ℕ, ◌<◌, Bool, true, false, List, [], ◌∷◌, ◌++◌, map, is_some, Option, None, Some, IsSome, option_map, length, slice_get, refl, sym, ap, subst, arith, Contains, if◌then◌else◌}
use Rattle.std.specs.Option.{option_map_or}
use Rattle.std.specs.Map.{lookup}
use Rattle.std.proofs.lemmas.List.Elements.{Contains-append_right}
use Rattle.std.proofs.lemmas.Option.{slice_get_within}
use Rattle.wit_digraph.specs.Relation.{IsAcyclic, direct}
use Rattle.wit_digraph.specs.facts.MemberFacts.{Contains-cons_cases, Contains-flat_map, Contains-here, Contains-nil, Contains-there, flat_map-same}
use Rattle.wit_digraph.specs.facts.PostOrderFacts.{uses_ind}
use Rattle.wit_data.specs.Entries.{Entry, IsExport, IsImport, entries_of, item_interface}
use Rattle.wit_data.specs.Kind.{KindPart, kind_parts, map_type, named_option, referred, type_references, variant_of}
use Rattle.wit_data.specs.Ownership.{IsNamed, IsNamedInterface, NamesThroughUnnamed, is_no_target, through_unnamed}
use Rattle.wit_data.specs.Uses.{alias_target}
use Rattle.wit_data.specs.declared.function.Function.{Function}
use Rattle.wit_data.specs.declared.function.Param.{Param}
use Rattle.wit_data.specs.declared.interface.Interface.{Interface}
use Rattle.wit_data.specs.declared.kind.PartRole.{PartRole}
use Rattle.wit_data.specs.declared.kind.PartRole.TheVariants.{Argument, Target, Value}
use Rattle.wit_data.specs.declared.stability.Stability.{Stability}
use Rattle.wit_data.specs.declared.types.Handle.TheVariants as handle
use Rattle.wit_data.specs.declared.types.TypeDef.{TypeDef}
use Rattle.wit_data.specs.declared.types.TypeDefKind.{TypeDefKind}
use Rattle.wit_data.specs.declared.types.TypeDefKind.TheVariants as kind
use Rattle.wit_data.specs.declared.types.TypeOwner.{TypeOwner}
use Rattle.wit_data.specs.declared.types.TypeOwner.TheVariants as owner
use Rattle.wit_data.specs.declared.types.Type_.{Type_}
use Rattle.wit_data.specs.declared.types.Type_.TheVariants as type
use Rattle.wit_data.specs.declared.world.World.{World}
use Rattle.wit_data.specs.declared.world.WorldItem.{WorldItem}
use Rattle.wit_data.specs.declared.world.WorldItem.TheVariants as item
use Rattle.wit_data.specs.declared.world.WorldKey.{WorldKey}
use Rattle.wit_data.specs.declared.world.WorldKey.TheVariants as key
use Rattle.wit_data.specs.facts.KindFacts.{roles_are, variant_role}
use Rattle.wit_data.specs.facts.ReferenceFacts.{length-references}
use Rattle.wit_elaboration.specs.Entries.{same_key}
use Rattle.wit_elaboration.specs.Valid.{IsValid}
use Rattle.wit_graph_data.specs.Error.{error_number}
use Rattle.wit_graph_data.specs.Named.{interface_type}
use Rattle.wit_graph_data.specs.declared.error_kind.ResolveErrorKind.{ResolveErrorKind}
use Rattle.wit_graph_data.specs.declared.graph.Graph.{Graph}
use Rattle.wit_graph_data.specs.declared.graph.Package.{Package}
use Rattle.wit_graph_theory.specs.facts.GoodTypes.{IsAliased, from_if}
use Rattle.wit_graph_theory.specs.facts.LawsOfElaboration.{LawsOfElaboration}
use Rattle.wit_graph_theory.specs.facts.ListFacts.{found_at, get_at, in_row, place_of, same_at, some_at}
use Rattle.wit_graph_theory.specs.facts.OptionFacts.{some_parts, some_same, some_there, some_whole}
use Rattle.wit_remap_spec.specs.FunctionMismatch.{FunctionMismatch, HaveFunctionMismatch, kinds_differ, parameter_counts_differ, parameter_names_differ, parameter_types_differ, result_counts_differ, results_differ}
use Rattle.wit_remap_spec.specs.Joined.{HasStability}
use Rattle.wit_merge_spec.specs.Cause.{AreJoined, EntriesDiffer, GraphsDiffer, HasNoMismatch, IsMergeCause, ItemsDiffer, borrow_in_result_15, conflict_4, interface_cycle_22, merge_mismatch_24, mismatch_8, offset_overflow_27, package_cycle_6, same_sort}
use Rattle.wit_merge_spec.specs.Cause as differ
use Rattle.wit_merge_spec.specs.Matches.{GraphMerge, Pair, TypePair, counterpart_interface, counterpart_item, counterpart_key, counterpart_type, counterpart_type_by, counterpart_world, named_in_counterpart, type_pairs}
use Rattle.wit_merge_spec.specs.MismatchText.{side_word}
use Rattle.wit_merge_spec.specs.Structure.{DifferInStructure, Feature, held_features, head_features, here, is_named, kind_features, named, structure, within}
use Rattle.wit_merge_spec.specs.facts.DifferenceFacts.{same_no_first}
use Rattle.wit_merge_spec.specs.facts.StructureFacts.{structure_at}
use Rattle.wit_remap_spec.specs.Image.{world_image}
use Rattle.wit_merge_spec.specs.Merged.{merge_maps}
use Rattle.wit_merge_spec.specs.steps.Leaving.{LeavesGraph, new_worlds}
use Rattle.wit_merge_spec.specs.steps.Parts.{joined_interface, joined_package, joined_type, joined_world}
use Rattle.wit_merge_laws.specs.facts.FoundBack.{lookup_finds_entry, lookup_finds_name}
use Rattle.wit_merge_laws.specs.facts.GrownWorlds.{merges_grow}
use Rattle.wit_merge_laws.specs.facts.MatchedOnce.{lists_distinct, one_under}
use Rattle.wit_merge_laws.specs.facts.PairsMatched.{pair_matched}
use Rattle.wit_merge_laws.specs.facts.SelfFacts.{all_same, interface_own, key_named, named_self, no_worlds_move, same_interface, same_package_there, same_type, same_world, type_of_interface, type_of_world, type_own, unnamed_self, world_self}
use Rattle.wit_merge_laws.specs.facts.StructuresRead.{refers_within}
use Rattle.wit_merge_laws.specs.facts.WorldsStand.{entry}
use Rattle.wit_merge_laws.specs.laws.CopyLaws.{CopiesAreRefusedFor}
use Rattle.wit_merge_laws.specs.laws.GrowingLaws.{GrowsAlone}
use Rattle.wit_merge_laws.specs.laws.MergingLaws.{merge_of_graphs}

-- ---- options

told_none : {X : Type 0} (o : Option X) → is_some o ≡ false → IsSome o → ⊥
told_none o is some = let no : false ≡ true = sym is ∙ some in cc

-- ---- functions

-- no function disagrees with itself
never_with_itself : (f : Function) (text : List ℕ) → FunctionMismatch f f text → ⊥
never_with_itself f text (kinds_differ apart is) = apart refl
never_with_itself f text (parameter_counts_differ apart is) = apart refl
never_with_itself f text (parameter_names_differ i a b at at' apart is) = apart (ap (λ (p : Param). p.name) (some_same a b (sym at ∙ at')))
never_with_itself f text (parameter_types_differ i a b at at' apart is) = apart (ap (λ (p : Param). map_type (λ t. 0) p.ty) (some_same a b (sym at ∙ at')))
never_with_itself f text (results_differ a b at at' apart is) = apart (ap (map_type (λ t. 0)) (some_same a b (sym at ∙ at')))
never_with_itself f text (result_counts_differ apart is) = apart refl

-- ---- items

sort_itself : (held : WorldItem) → same_sort held held ≡ true
sort_itself (item.Interface i stability docs span external_id) = refl
sort_itself (item.Function f) = refl
sort_itself (item.Type_ t span) = refl

one_interface : {i j : ℕ} → i ∷ [] ≡ j ∷ [] → i ≡ j
one_interface same = cc

one_stability : (i : ℕ) (from into : Stability) (docs docs' : _) (span span' : _) (id id' : _) → item.Interface i from docs span id ≡ item.Interface i into docs' span' id' → from ≡ into
one_stability i from into docs docs' span span' id id' same = cc

-- ---- what an alias names

-- a part that is what an alias names
target_part : (k : TypeDefKind) (p : KindPart) (u : ℕ) → Contains (kind_parts k) p → is_no_target p.role ≡ false → Contains (named_option p.ty) u → alias_target k ≡ Some u
target_part k p u among target has = let place = place_of (kind_parts k) p among in by k among (roles_are k place.0 p place.1)
  where
    named_so : (ty : Type_) → Contains (named_option (Some ty)) u → alias_target (kind.Type_ ty) ≡ Some u
    named_so (type.Id t) has = elim (Contains-cons_cases t u [] has) [ inl same ↦ ap (λ (x : ℕ). Some x) same | inr none ↦ absurd (Contains-nil none) ]
    named_so ty has = absurd (Contains-nil has)

    by : (k : TypeDefKind) → Contains (kind_parts k) p → p.role ≡ variant_role (variant_of k) → alias_target k ≡ Some u
    by (kind.Type_ ty) among role =
        elim (Contains-cons_cases _ p [] among) [
          | inl same ↦ named_so ty (subst (λ (q : KindPart). Contains (named_option q.ty) u) (sym same) has)
          | inr none ↦ absurd (Contains-nil none)
        ]
    by (kind.Handle (handle.Own t)) among role = cc
    by (kind.Handle (handle.Borrow t)) among role = cc
    by other among role = cc

module _ (g : Graph) (offset : ℕ) (valid : IsValid g) where
  abbrev m : GraphMerge
  m = merge_of_graphs g g offset

  -- ---- things that are matched are the same

  world_own : (w w' : ℕ) → counterpart_world m w ≡ Some w' → w ≡ w'
  world_own w w' found =
      let one = some_parts (λ (world : World). named_in_counterpart (λ (there : Package). there.worlds) m world.package world.name) (slice_get g.worlds w) w' found in
      some_same w w' (sym (world_self g offset valid w one.0 one.1) ∙ found)

  pair_same : {X : Type 0} (found : ℕ → Option ℕ) (xs : List X) → ((x x' : ℕ) → found x ≡ Some x' → x ≡ x') → (p : Pair found xs xs) → p.from ≡ p.into
  pair_same found xs own p = same_at xs p.x p.x' p.from p.into (own p.x p.x' p.matched) p.from_is p.into_is

  same_types : (p : Pair (counterpart_type m) g.types g.types) → p.from ≡ p.into
  same_types = pair_same (counterpart_type m) g.types (type_own g offset valid)

  same_interfaces : (p : Pair (counterpart_interface m) g.interfaces g.interfaces) → p.from ≡ p.into
  same_interfaces = pair_same (counterpart_interface m) g.interfaces (interface_own g offset valid)

  same_worlds : (p : Pair (counterpart_world m) g.worlds g.worlds) → p.from ≡ p.into
  same_worlds = pair_same (counterpart_world m) g.worlds world_own

  -- ---- what it has is left as it is

  leaves : LeavesGraph m
  leaves = record {
    types = all_same (joined_type m) g.types (same_type g offset valid);
    interfaces = all_same (joined_interface m) g.interfaces (same_interface g offset valid);
    worlds = all_same (joined_world m) g.worlds (same_world g offset valid);
    packages = all_same (joined_package m) g.packages (same_package_there g offset valid);
  }

  -- ---- stabilities

  joined_alike : (from into : Stability) → AreJoined m from into → from ≡ into
  joined_alike from into (differ.types p) = ap (λ (def : TypeDef). def.stability) (same_types p)
  joined_alike from into (differ.interfaces p) = ap (λ (interface : Interface). interface.stability) (same_interfaces p)
  joined_alike from into (differ.worlds p) = ap (λ (world : World). world.stability) (same_worlds p)
  joined_alike from into (differ.entries p exported i i' a b found has has') =
      let same = interface_own g offset valid i i' found in
      let there = subst (λ (world : World). HasStability (entries_of exported world) i a) (same_worlds p) has in
      let here' = subst (λ (j : ℕ). HasStability (entries_of exported p.into) j b) (sym same) has' in
      one_stability i a b there.0 here'.0 there.1 here'.1 there.2 here'.2
      (one_under (entries_of exported p.into) (lists_distinct g valid p.x' exported p.into p.into_is) (key.Interface i) (item.Interface i a there.0 there.1 there.2) (item.Interface i b here'.0 here'.1 here'.2) there.3 here'.3)

  -- ---- functions of interfaces

  no_function_differs : (i : ℕ) (interface : Interface) → slice_get g.interfaces i ≡ Some interface → (text : List ℕ) → HaveFunctionMismatch interface interface text → ⊥
  no_function_differs i interface at text d =
      let distinct = valid.well_formed.owners.distinct_functions i interface at in
      let same : d.function ≡ d.other =
      some_same d.function d.other (sym (lookup_finds_name interface.functions distinct d.name d.function d.has) ∙ lookup_finds_name interface.functions distinct d.name d.other d.other_has) in
      never_with_itself d.other d.ending (subst (λ (f : Function). FunctionMismatch f d.other d.ending) same d.mismatch)

  -- ---- entries of worlds

  -- an interface with a name is matched with itself
  interface_self : (i : ℕ) → IsNamed g.interfaces i → counterpart_interface m i ≡ Some i
  interface_self i is = let found = found_at (λ (interface : Interface). IsSome interface.name) g.interfaces i is in by found.0 found.1 found.0.name refl found.2
    where
      by : (interface : Interface) → slice_get g.interfaces i ≡ Some interface → (o : Option (List ℕ)) → interface.name ≡ o → IsSome o → counterpart_interface m i ≡ Some i
      by interface there (Some name) called some = named_self g offset valid i interface name there called
      by interface there None called some = cc

  module _ (w : ℕ) (world : World) (at : slice_get g.worlds w ≡ Some world) where
    -- what stands as an interface stands as an export could
    allowed : (exported : Bool) (k : WorldKey) (held : WorldItem) (i : ℕ) → Contains (entries_of exported world) (entry k held) → item_interface held ≡ i ∷ [] → IsExport g.interfaces k held
    allowed true k held i has is = let place = place_of world.exports (entry k held) has in valid.well_formed.worlds.exports w world at place.0 (entry k held) place.1
    allowed false k held i has is = let place = place_of world.imports (entry k held) has in by k held is (valid.well_formed.worlds.imports w world at place.0 (entry k held) place.1)
      where
        by : (k : WorldKey) (held : WorldItem) → item_interface held ≡ i ∷ [] → IsImport g.interfaces g.types w k held → IsExport g.interfaces k held
        by (key.Name label) (item.Type_ t span) is import = cc
        by (key.Name label) (item.Function f) is import = import
        by (key.Name label) (item.Interface j stability docs span external_id) is import = import
        by (key.Interface f) (item.Type_ t span) is import = import
        by (key.Interface f) (item.Function fn) is import = import
        by (key.Interface f) (item.Interface j stability docs span external_id) is import = import

    -- an interface that stands in the world is matched with itself
    standing : (exported : Bool) (k : WorldKey) (held : WorldItem) (i : ℕ) → Contains (entries_of exported world) (entry k held) → item_interface held ≡ i ∷ [] → counterpart_interface m i ≡ Some i
    standing exported k held i has is = by k held has is (allowed exported k held i has is)
      where
        labelled : (label : List ℕ) (held : WorldItem) → Contains (entries_of exported world) (entry (key.Name label) held) → item_interface held ≡ i ∷ [] → i < length g.interfaces → counterpart_interface m i ≡ Some i
        labelled label held has is there = let one = get_at g.interfaces i there in named_or_not one.0 one.1 one.0.name refl
          where
            named_or_not : (interface : Interface) → slice_get g.interfaces i ≡ Some interface → (o : Option (List ℕ)) → interface.name ≡ o → counterpart_interface m i ≡ Some i
            named_or_not interface there (Some name) called = named_self g offset valid i interface name there called
            named_or_not interface there None called = unnamed_self g offset valid i interface there called w exported label world held at has is

        by : (k : WorldKey) (held : WorldItem) → Contains (entries_of exported world) (entry k held) → item_interface held ≡ i ∷ [] → IsExport g.interfaces k held → counterpart_interface m i ≡ Some i
        by (key.Interface f) (item.Interface j stability docs span external_id) has is export =
            let same : j ≡ i = one_interface is in
            interface_self i (subst (IsNamed g.interfaces) (sym export.0 ∙ same) export.1)
        by (key.Interface f) (item.Function fn) has is export = absurd export
        by (key.Interface f) (item.Type_ t span) has is export = absurd export
        by (key.Name label) (item.Interface j stability docs span external_id) has is export =
            labelled label (item.Interface j stability docs span external_id) has is (subst (λ (x : ℕ). x < length g.interfaces) (one_interface is) export)
        by (key.Name label) (item.Function fn) has is export = cc
        by (key.Name label) (item.Type_ t span) has is export = cc

    key_self : (exported : Bool) (e : Entry) → Contains (entries_of exported world) e → counterpart_key m e.0 ≡ Some e.0
    key_self exported e has = by e.0 refl
      where
        by : (k : WorldKey) → e.0 ≡ k → counterpart_key m k ≡ Some k
        by (key.Name label) is = refl
        by (key.Interface i) is = ap (option_map (λ (j : ℕ). key.Interface j)) (interface_self i (key_named g offset valid w world at exported e i has is))

    -- what stands under its key is the entry itself
    item_self : (exported : Bool) (e : Entry) → Contains (entries_of exported world) e → counterpart_item m (entries_of exported world) e.0 ≡ Some e.1
    item_self exported e has =
        some_whole (λ (k : WorldKey). lookup (same_key k) (entries_of exported world)) (counterpart_key m e.0) e.0 e.1 (key_self exported e has)
        (lookup_finds_entry (entries_of exported world) (lists_distinct g valid w exported world at) e.0 e.1 has)

    item_alike : (exported : Bool) (e : Entry) → Contains (entries_of exported world) e → (text : List ℕ) → ItemsDiffer m e.1 e.1 text → ⊥
    item_alike exported e has text (differ.sorts apart) = let same = sort_itself e.1 in cc
    item_alike exported e has text (differ.interfaces i i' is is' apart) = apart (standing exported e.0 e.1 i has is ∙ ap (λ (j : ℕ). Some j) (one_interface (sym is ∙ is')))
    item_alike exported e has text (differ.unnamed ending p is is' none mismatch) =
        no_function_differs p.x' p.into p.into_is ending (subst (λ (interface : Interface). HaveFunctionMismatch interface p.into text) (same_interfaces p) mismatch)

    entries_alike : (exported : Bool) (word text : List ℕ) → EntriesDiffer m word (entries_of exported world) (entries_of exported world) text → ⊥
    entries_alike exported word text (differ.count apart) = apart refl
    entries_alike exported word text (differ.absent e has none) = let found = item_self exported e has in cc
    entries_alike exported word text (differ.apart e there ending has is items) =
        item_alike exported e has ending (subst (λ (held : WorldItem). ItemsDiffer m e.1 held ending) (some_same there e.1 (sym is ∙ item_self exported e has)) items)

  -- ---- structures of types

  abbrev mine : ℕ → List Feature
  mine = structure g.types (counterpart_type m)

  abbrev theirs : ℕ → List Feature
  theirs = structure g.types Some

  -- named types of this owner are matched with themselves
  abbrev AreSelf : TypeOwner → Type 0
  AreSelf by =
      (u : ℕ) (def : TypeDef) → slice_get g.types u ≡ Some def → IsSome def.name → def.owner ≡ by
      → counterpart_type m u ≡ Some u

  named_at : (u : ℕ) (def : TypeDef) → slice_get g.types u ≡ Some def → is_named g.types u ≡ is_some def.name
  named_at u def at = ap (λ (o : Option TypeDef). option_map_or (λ (d : TypeDef). is_some d.name) o false) at

  held_alike : (ty : Option Type_) → ((u : ℕ) → Contains (named_option ty) u → is_named g.types u ≡ true → counterpart_type m u ≡ Some u)
      → ((u : ℕ) → Contains (named_option ty) u → is_named g.types u ≡ false → mine u ≡ theirs u) → held_features g.types (counterpart_type m) mine ty ≡ held_features g.types Some theirs ty
  held_alike None own inner = refl
  held_alike (Some (type.Id u)) own inner = by (is_named g.types u) refl
    where
      by : (b : Bool) → is_named g.types u ≡ b → (if b then here (named (counterpart_type m u)) ∷ [] else mine u) ≡ (if b then here (named (Some u)) ∷ [] else theirs u)
      by true is = ap (λ (o : Option ℕ). here (named o) ∷ []) (own u (Contains-here u []) is)
      by false is = inner u (Contains-here u []) is
  held_alike (Some ty) own inner = refl

  kinds_alike : (k : TypeDefKind) → ((p : KindPart) → Contains (kind_parts k) p → held_features g.types (counterpart_type m) mine p.ty ≡ held_features g.types Some theirs p.ty)
      → kind_features g.types (counterpart_type m) mine k ≡ kind_features g.types Some theirs k
  kinds_alike k same =
      ap (λ (l : List Feature). head_features k ++ l)
      (flat_map-same (λ (p : KindPart). map (within p.step) (held_features g.types (counterpart_type m) mine p.ty)) (λ (p : KindPart). map (within p.step) (held_features g.types Some theirs p.ty)) (kind_parts k)
      (λ p has. ap (map (within p.step)) (same p has)))

  -- a type that is there has one structure where its kinds' parts are alike
  alike_at : (t : ℕ) (def : TypeDef) → slice_get g.types t ≡ Some def → ((p : KindPart) → Contains (kind_parts def.kind) p → held_features g.types (counterpart_type m) mine p.ty ≡ held_features g.types Some theirs p.ty) → mine t ≡ theirs t
  alike_at t def at same =
      let there = slice_get_within g.types t def at in
      structure_at g.types (counterpart_type m) valid.no_cycles.types t def there at ∙ (kinds_alike def.kind same ∙ sym (structure_at g.types Some valid.no_cycles.types t def there at))

  -- what a part refers to is there
  referred_there : (t : ℕ) (def : TypeDef) (p : KindPart) (u : ℕ) → slice_get g.types t ≡ Some def → Contains (kind_parts def.kind) p → Contains (named_option p.ty) u → (d : TypeDef) × (slice_get g.types u ≡ Some d)
  referred_there t def p u at among has = get_at g.types u (refers_within g.types valid.no_cycles.types t def p u at among has).1

  abbrev IsAlikeUnnamed : ℕ → Type 0
  IsAlikeUnnamed t =
      (by : TypeOwner) → AreSelf by
      → ((other : TypeOwner) → NamesThroughUnnamed g.types t other → other ≡ by)
      → is_named g.types t ≡ false → mine t ≡ theirs t

  unnamed_step : (t : ℕ) (def : TypeDef) → slice_get g.types t ≡ Some def → ((u : ℕ) → Contains (direct (type_references g.types) t) u → IsAlikeUnnamed u) → IsAlikeUnnamed t
  unnamed_step t def at below by own only unnamed = alike_at t def at (λ p among. held_alike p.ty (named_parts p among) (unnamed_parts p among))
    where
      no_name : is_some def.name ≡ false
      no_name = sym (named_at t def at) ∙ unnamed

      -- a step through an unnamed type
      edge : (p : KindPart) (u : ℕ) → Contains (kind_parts def.kind) p → Contains (named_option p.ty) u → Contains (direct (through_unnamed g.types) t) u
      edge p u among has =
          in_row (λ (d : TypeDef). if is_some d.name then [] else referred d.kind) g.types t def u at
          (subst (λ (b : Bool). Contains (if b then [] else referred def.kind) u) (sym no_name) (Contains-flat_map (λ (q : KindPart). named_option q.ty) (kind_parts def.kind) p u among has))

      named_parts : (p : KindPart) → Contains (kind_parts def.kind) p → (u : ℕ) → Contains (named_option p.ty) u → is_named g.types u ≡ true → counterpart_type m u ≡ Some u
      named_parts p among u has is =
          let there = referred_there t def p u at among has in
          let some : IsSome there.0.name = sym (named_at u there.0 there.1) ∙ is in
          own u there.0 there.1 some (only there.0.owner (u, (u ∷ [], (edge p u among has, refl)), some_at (λ (d : TypeDef). IsSome d.name × (d.owner ≡ there.0.owner)) g.types u there.0 there.1 (some, refl)))

      unnamed_parts : (p : KindPart) → Contains (kind_parts def.kind) p → (u : ℕ) → Contains (named_option p.ty) u → is_named g.types u ≡ false → mine u ≡ theirs u
      unnamed_parts p among u has is =
          below u (refers_within g.types valid.no_cycles.types t def p u at among has).0 by own (λ other names. only other (names.0, (u ∷ names.1.0, (edge p u among has, names.1.1)), names.2)) is

  unnamed_alike : (t : ℕ) → t < length (type_references g.types) → IsAlikeUnnamed t
  unnamed_alike =
      uses_ind (type_references g.types) valid.no_cycles.types IsAlikeUnnamed
      (λ t here below. let there = get_at g.types t (omega (arith, here, length-references g.types)) in unnamed_step t there.0 there.1 below)

  -- the named types of an owner of which one is matched are all matched with themselves
  own_self : (t : ℕ) (def : TypeDef) → slice_get g.types t ≡ Some def → counterpart_type m t ≡ Some t → AreSelf def.owner
  own_self t def at found = by def.name def.owner refl refl found'
    where
      one : (d : TypeDef) × (slice_get g.types t ≡ Some d) × (counterpart_type_by m d.name d.owner ≡ Some t)
      one = some_parts (λ (d : TypeDef). counterpart_type_by m d.name d.owner) (slice_get g.types t) t found

      found' : counterpart_type_by m def.name def.owner ≡ Some t
      found' = subst (λ (d : TypeDef). counterpart_type_by m d.name d.owner ≡ Some t) (same_at g.types t t one.0 def refl one.1 at) one.2

      by : (o : Option (List ℕ)) (of : TypeOwner) → def.name ≡ o → def.owner ≡ of → counterpart_type_by m o of ≡ Some t → AreSelf of
      by (Some name) (owner.Interface i) called owned is u d there some is_own =
          let within = some_parts (interface_type g name) (counterpart_interface m i) t is in
          let self = within.1 ∙ ap (λ (x : ℕ). Some x) (sym (interface_own g offset valid i within.0 within.1)) in
          let name' = some_there d.name some in
          type_of_interface g offset valid u d name'.0 i there name'.1 is_own self
      by (Some name) (owner.World w) called owned is u d there some is_own = let name' = some_there d.name some in type_of_world g offset valid u d name'.0 w there name'.1 is_own
      by (Some name) owner.None called owned is u d there some is_own = cc
      by None of called owned is u d there some is_own = cc

  type_alike : (t : ℕ) (def : TypeDef) → slice_get g.types t ≡ Some def → counterpart_type m t ≡ Some t → mine t ≡ theirs t
  type_alike t def at found = alike_at t def at (λ p among. held_alike p.ty (named_parts p among) (unnamed_parts p among))
    where
      own : AreSelf def.owner
      own = own_self t def at found

      some_name : IsSome def.name
      some_name =
          let one = some_parts (λ (d : TypeDef). counterpart_type_by m d.name d.owner) (slice_get g.types t) t found in
          subst (λ (d : TypeDef). IsSome d.name) (same_at g.types t t one.0 def refl one.1 at) (has_name one.0.name one.0.owner one.2)
        where
          has_name : (o : Option (List ℕ)) (of : TypeOwner) → counterpart_type_by m o of ≡ Some t → IsSome o
          has_name None of is = cc
          has_name (Some name) of is = refl

      -- what is referred to other than as what an alias names is the owner's
      only : (p : KindPart) (u : ℕ) → Contains (kind_parts def.kind) p → Contains (named_option p.ty) u → is_no_target p.role ≡ true → (other : TypeOwner) → NamesThroughUnnamed g.types u other → other ≡ def.owner
      only p u among has role =
          let listed = Contains-flat_map (λ (q : KindPart). if is_no_target q.role then named_option q.ty else []) (kind_parts def.kind) p u among (subst (λ (b : Bool). Contains (if b then named_option p.ty else []) u) (sym role) has) in
          let place = place_of _ u listed in
          (valid.well_formed.references.own_types t def at some_name place.0 u place.1).only

      -- what an alias names
      target : (p : KindPart) (u : ℕ) → Contains (kind_parts def.kind) p → Contains (named_option p.ty) u → is_no_target p.role ≡ false → (d : TypeDef) × (slice_get g.types u ≡ Some d) × (IsSome d.name × ((d.owner ≡ def.owner) ⊎ IsNamedInterface g.interfaces d.owner))
      target p u among has role = found_at (λ (d : TypeDef). IsSome d.name × ((d.owner ≡ def.owner) ⊎ IsNamedInterface g.interfaces d.owner)) g.types u (from_if (IsAliased g.types g.interfaces def.owner) (alias_target def.kind) u (valid.well_formed.references.aliases t def at) (target_part def.kind p u among role has))

      named_parts : (p : KindPart) → Contains (kind_parts def.kind) p → (u : ℕ) → Contains (named_option p.ty) u → is_named g.types u ≡ true → counterpart_type m u ≡ Some u
      named_parts p among u has is = by (is_no_target p.role) refl
        where
          by : (b : Bool) → is_no_target p.role ≡ b → counterpart_type m u ≡ Some u
          by true role =
              let there = referred_there t def p u at among has in
              let some : IsSome there.0.name = sym (named_at u there.0 there.1) ∙ is in
              own u there.0 there.1 some (only p u among has role there.0.owner (u, ([], refl), some_at (λ (d : TypeDef). IsSome d.name × (d.owner ≡ there.0.owner)) g.types u there.0 there.1 (some, refl)))
          by false role =
              let d = target p u among has role in
              elim d.2.1 [
                | inl same ↦ own u d.0 d.1 d.2.0 same
                | inr of_named ↦ in_named d.0 d.1 d.2.0 d.0.owner refl of_named
              ]
            where
              in_named : (d : TypeDef) → slice_get g.types u ≡ Some d → IsSome d.name → (of : TypeOwner) → d.owner ≡ of → IsNamedInterface g.interfaces of → counterpart_type m u ≡ Some u
              in_named d there some (owner.Interface i) owned is_named_so = let name = some_there d.name some in type_of_interface g offset valid u d name.0 i there name.1 owned (interface_self i is_named_so)
              in_named d there some (owner.World w) owned is_named_so = absurd is_named_so
              in_named d there some owner.None owned is_named_so = absurd is_named_so

      unnamed_parts : (p : KindPart) → Contains (kind_parts def.kind) p → (u : ℕ) → Contains (named_option p.ty) u → is_named g.types u ≡ false → mine u ≡ theirs u
      unnamed_parts p among u has is = by (is_no_target p.role) refl
        where
          by : (b : Bool) → is_no_target p.role ≡ b → mine u ≡ theirs u
          by true role =
              let there = referred_there t def p u at among has in
              let inside = slice_get_within g.types u there.0 there.1 in
              let long = length-references g.types in
              unnamed_alike u (omega (arith, inside, long)) def.owner own (only p u among has role) is
          by false role = let d = target p u among has role in absurd (told_none d.0.name (sym (named_at u d.0 d.1) ∙ is) d.2.0)

  structure_alike : (t t' : ℕ) (text : List ℕ) → counterpart_type m t ≡ Some t' → DifferInStructure g.types g.types (counterpart_type m) t t' text → ⊥
  structure_alike t t' text found d =
      let same = type_own g offset valid t t' found in
      let one = some_parts (λ (d : TypeDef). counterpart_type_by m d.name d.owner) (slice_get g.types t) t' found in
      same_no_first (mine t) (theirs t') d.x d.y (type_alike t one.0 one.1 (found ∙ ap (λ (x : ℕ). Some x) (sym same)) ∙ ap theirs same) d.first

  -- ---- nothing differs

  nothing_differs : HasNoMismatch m
  nothing_differs message (differ.interfaces p home there name text called of is mismatch) =
      no_function_differs p.x' p.into p.into_is text (subst (λ (interface : Interface). HaveFunctionMismatch interface p.into text) (same_interfaces p) mismatch)
  nothing_differs message (differ.worlds p home there exported text of is entries) =
      entries_alike p.x' p.into p.into_is exported (side_word exported) text (subst (λ (world : World). EntriesDiffer m (side_word exported) (entries_of exported world) (entries_of exported p.into) text) (same_worlds p) entries)
  nothing_differs message (differ.types text told) =
      let pair = told.pair in
      let has : Contains (type_pairs m) pair = subst (λ (l : List TypePair). Contains l pair) (sym told.first.are) (Contains-append_right told.first.before (pair ∷ told.first.after) pair (Contains-here pair told.first.after)) in
      structure_alike pair.from pair.into told.first.is.0 (pair_matched m valid valid pair has) told.first.is.1

-- ---- which causes can hold

pub copies_refused : LawsOfElaboration → CopiesAreRefusedFor
copies_refused laws g offset error valid cause = by error cause
  where
    alone : GrowsAlone (merge_of_graphs g g offset)
    alone = merges_grow laws (merge_of_graphs g g offset) valid valid (nothing_differs g offset valid) (leaves g offset valid)

    no_world : new_worlds (merge_of_graphs g g offset) ≡ []
    no_world = ap (map (λ (e : ℕ × World). world_image (merge_maps (merge_of_graphs g g offset)) e.0 e.1)) (no_worlds_move g offset valid)

    by : (error : ResolveErrorKind) → IsMergeCause (merge_of_graphs g g offset) error → Contains (15 ∷ 27 ∷ []) (error_number error)
    by error (conflict_4 span name same is) = let refused = alone.conflict span name is in absurd (Contains-nil (subst (λ (l : List World). Contains l refused.world) no_world refused.there))
    by error (package_cycle_6 home same is) = absurd (alone.no_dependency home is)
    by error (mismatch_8 from into joined apart) = absurd (apart.differ (joined_alike g offset valid from into joined))
    by error (borrow_in_result_15 message same is) = Contains-here 15 (27 ∷ [])
    by error (interface_cycle_22 message same is) = absurd (alone.no_use message is)
    by error (merge_mismatch_24 message differ) = absurd (nothing_differs g offset valid message differ)
    by error (offset_overflow_27 from to known past) = Contains-there 15 27 (27 ∷ []) (Contains-here 27 [])
