-- Semver merging where each type names what it named: all uses stay, so every world is its own elaboration yet, the named one
-- with what it keeps of its imports; and nothing that is asked of the new graph can be against it.
use Rattle.std.proofs.Common.{◌≡◌, ◌∙◌, ◌+◌, inl, inr, ℕ, suc, Bool, true, false, not, List, [], ◌∷◌, ◌++◌, filter, map, length, Option, None, Some, slice_get, slice_set, refl, sym, ap, subst, Contains}
use Rattle.std.specs.List.{AllByRecursion, enumerate_from, flat_map, list_any}
use Rattle.std.specs.Map.{keys_of}
use Rattle.std.specs.Option.{option_map_or}
use Rattle.std.proofs.lemmas.Bool.{false≢true}
use Rattle.std.proofs.lemmas.List.{length-map}
use Rattle.std.proofs.lemmas.List.Elements.{All-contains, Contains-append_cases, Contains-append_left, Contains-append_right}
use Rattle.wit_digraph.specs.Cycles.{IsOnCycle}
use Rattle.wit_digraph.specs.facts.AmongFacts.{IsAcyclic-among}
use Rattle.wit_digraph.specs.facts.MemberFacts.{Contains-cons_cases, Contains-flat_map, Contains-flat_map_cases, Contains-here, Contains-nil, Contains-there}
use Rattle.wit_digraph.specs.Relation.{IsAcyclic, direct}
use Rattle.wit_data.specs.Each.{Each}
use Rattle.wit_data.specs.Entries.{IsImport}
use Rattle.wit_data.specs.Function.{resource_of}
use Rattle.wit_data.specs.Kind.{type_references}
use Rattle.wit_data.specs.Uses.{interface_uses, type_interface_dep, uses_of}
use Rattle.wit_data.specs.declared.interface.Interface.{Interface}
use Rattle.wit_data.specs.declared.stability.Stability.TheVariants as stability
use Rattle.wit_data.specs.declared.types.TypeDef.{TypeDef}
use Rattle.wit_data.specs.declared.world.World.{World}
use Rattle.wit_data.specs.declared.world.WorldItem.{WorldItem}
use Rattle.wit_data.specs.declared.world.WorldKey.{WorldKey}
use Rattle.wit_data.specs.declared.world.WorldItem.TheVariants as item
use Rattle.wit_data.specs.declared.world.WorldKey.TheVariants as key
use Rattle.wit_elaboration.specs.AllElaborated.{all_elaborated}
use Rattle.wit_elaboration.specs.Elaborated.{Elaborated, elaborated_exports, elaborated_imports, export_needs, import_with_needs, inherited_by_export, with_elaborated_lists, without_span}
use Rattle.wit_elaboration.specs.Elaboration.{graph_uses}
use Rattle.wit_elaboration.specs.Entries.{Entry, by_class, fresh_entries, key_interface, keyed_interfaces, role_of}
use Rattle.wit_elaboration.specs.Imported.{HasTransitiveConflict, is_exported}
use Rattle.wit_elaboration.specs.Sound.{HasSoundEntries, IsRoleInRange}
use Rattle.wit_elaboration.specs.Valid.{IsValid}
use Rattle.wit_elaboration.specs.facts.Classes.{by_class-by_class, by_class-new, in_by_class}
use Rattle.wit_elaboration.specs.facts.FreshEntries.{AllNew, Contains-deps, Contains-keys, fresh_entries-AllNew, fresh_entries_all}
use Rattle.wit_elaboration.specs.facts.SoundFacts.{lists_in_order}
use Rattle.wit_elaboration.specs.laws.ElaborationLaws.{ImportsKeepOrder, stands_on}
use Rattle.wit_elaboration.specs.laws.Imports.{roots_of}
use Rattle.wit_elaboration.specs.laws.KeptByElaboration.{HoldsImports}
use Rattle.wit_graph_data.specs.Queries.{entry_interface, other_package, package_interfaces, package_uses, world_interfaces, entry_interfaces}
use Rattle.wit_graph_data.specs.declared.error_kind.ResolveErrorKind.{ResolveErrorKind}
use Rattle.wit_graph_data.specs.declared.graph.Graph.{Graph}
use Rattle.wit_graph_data.specs.declared.graph.Package.{Package}
use Rattle.wit_graph_theory.specs.facts.DependencyFacts.{filter_map_from, filter_map_into}
use Rattle.wit_graph_theory.specs.facts.EntryFacts.{one_of}
use Rattle.wit_graph_theory.specs.facts.LawsOfElaboration.{LawsOfElaboration}
use Rattle.wit_graph_theory.specs.facts.ListFacts.{Contains-map, place_of}
use Rattle.wit_graph_theory.specs.facts.PackageCycleFacts.{row_from, row_into}
use Rattle.wit_graph_theory.specs.facts.PackagesAcyclic.{is_there, there_is}
use Rattle.wit_transform.specs.facts.UnnamedOnceTransformed.{set_split}
use Rattle.wit_semver.specs.SemverMerged.{IsComplete, SemverMerge, SemverMergeCause, conflict_4, functions_disagree_25, interface_cycle_22, is_replaced, kept_imports, package_cycle_6, types_with_new_targets, type_cycle_23, type_missing_25, with_new_entries_at}
use Rattle.wit_semver.specs.steps.SemverMerged.{Agrees}
use Rattle.wit_semver.specs.facts.Accepting.{in_order, listed_there, relisted_from, semver_merged_is}
use Rattle.wit_semver.specs.facts.Greatest.{any_of}
use Rattle.wit_semver.specs.facts.KeptKeys.{kept_holds, kept_into, kept_test, passed}
use Rattle.wit_semver.specs.laws.TrackLaws.{RetargetsNone, SameTypesKeepWorlds}
use Rattle.wit_semver.proofs.FewerImports.{AreClosed, AreSettled, part_is_elaborated}
use Rattle.wit_graph_data.specs.steps.Parts.{package_needs}
use Rattle.wit_elaboration.specs.steps.Parts.{type_role, function_role, graph_package_uses, interface_needs}
use Rattle.wit_semver.specs.steps.Parts.{is_replaced_entry, listed_world, retargeted, new_target}

-- ---- lists that stay

pub map_same : {X : Type 0} (f : X → X) (xs : List X) → Each (λ x. f x ≡ x) xs → map f xs ≡ xs
map_same f [] same = refl
map_same f (x ∷ xs) same = λ i. same 0 x refl i ∷ map_same f xs (λ k y at. same (suc k) y at) i

numbered_same : {X : Type 0} (f : ℕ × X → X) (n : ℕ) (xs : List X) → ((e : ℕ × X) → Contains (enumerate_from n xs) e → f e ≡ e.1) → map f (enumerate_from n xs) ≡ xs
numbered_same f n [] same = refl
numbered_same f n (x ∷ xs) same =
    λ i. same (n, x) (Contains-here (n, x) (enumerate_from (n + 1) xs)) i ∷ numbered_same f (n + 1) xs (λ e has. same e (Contains-there (n, x) e (enumerate_from (n + 1) xs) has)) i

each_member : {X : Type 0} (P : X → Type 0) (xs : List X) (x : X) → AllByRecursion P xs → Contains xs x → P x
each_member P [] x all has = absurd (Contains-nil has)
each_member P (y ∷ ys) x all has =
    elim (Contains-cons_cases y x ys has) [ inl same ↦ subst P same all.0 | inr there ↦ each_member P ys x all.1 there ]

not_false : (b : Bool) → not b ≡ false → b ≡ true
not_false true off = refl
not_false false off = cc

no_cycle : (rows : List (List ℕ)) → IsAcyclic rows → (p q : ℕ) → IsOnCycle rows p q → ⊥
no_cycle rows acyclic p q cycle = acyclic.no_cycle p q cycle.leads_back.0 (cycle.is_used, cycle.leads_back.1)

-- ---- entries

without_span_twice : (held : WorldItem) → without_span (without_span held) ≡ without_span held
without_span_twice (item.Interface i stability docs span external_id) = refl
without_span_twice (item.Function f) = refl
without_span_twice (item.Type_ t span) = refl

-- under the key of an interface stands that interface
abbrev instance_of : ℕ → WorldItem
instance_of i = item.Interface i stability.Unknown (record { contents = None }) None None

own_role : (interfaces : List Interface) (types : List TypeDef) (w : ℕ) (k : WorldKey) (held : WorldItem) (i : ℕ) → k ≡ key.Interface i → IsImport interfaces types w k held → role_of types held ≡ role_of types (instance_of i)
own_role interfaces types w (key.Name name) held i same is = cc
own_role interfaces types w (key.Interface f) (item.Interface id stability docs span external_id) i same is = let one : f ≡ i = cc in ap (λ (x : ℕ). role_of types (instance_of x)) (is.0 ∙ one)
own_role interfaces types w (key.Interface f) (item.Function fn) i same is = absurd is
own_role interfaces types w (key.Interface f) (item.Type_ t span) i same is = absurd is

-- what an entry stands on is where its imports begin, or is used by such
function_stands : (uses : List (List ℕ)) (o : Option ℕ) (j : ℕ) → Contains (stands_on uses (function_role o)) j → ⊥
function_stands uses None j on = Contains-nil on
function_stands uses (Some r) j on = Contains-nil on

use_begins : (uses : List (List ℕ)) (o : Option ℕ) (k : WorldKey) (j : ℕ) → Contains (stands_on uses (type_role o)) j → Contains (roots_of uses k (type_role o)) j
use_begins uses None k j on = absurd (Contains-nil on)
use_begins uses (Some i) (key.Name name) j on = on
use_begins uses (Some i) (key.Interface f) j on = on

stands_within : (types : List TypeDef) (uses : List (List ℕ)) (Kept : ℕ → Type 0) (k : WorldKey) (held : WorldItem) (j : ℕ) → ((r : ℕ) → Contains (roots_of uses k (role_of types held)) r → Kept r)
    → ((i j : ℕ) → Kept i → Contains (direct uses i) j → Kept j) → Contains (stands_on uses (role_of types held)) j → Kept j
stands_within types uses Kept (key.Interface f) (item.Interface i stability docs span external_id) j begins closed on = closed i j (begins i (Contains-here i [])) on
stands_within types uses Kept (key.Name name) (item.Interface i stability docs span external_id) j begins closed on = begins j on
stands_within types uses Kept k (item.Function f) j begins closed on = absurd (function_stands uses (resource_of f.kind) j on)
stands_within types uses Kept k (item.Type_ t span) j begins closed on = begins j (use_begins uses (type_interface_dep types t) k j on)

-- a key that is an interface names it
under_key : (k : WorldKey) (i : ℕ) → k ≡ key.Interface i → Contains (key_interface k) i
under_key k i is = subst (λ (x : WorldKey). Contains (key_interface x) i) (sym is) (Contains-here i [])

-- the key of an entry is among the keys
has_key : (es : List Entry) (e : Entry) (k : WorldKey) → Contains es e → e.0 ≡ k → Contains (keys_of es) k
has_key es e k has is = subst (Contains (keys_of es)) is (Contains-map (λ (z : Entry). z.0) es e has)

-- the interface of a key that passes a test passes it
key_passes : (test : ℕ → Bool) (k : WorldKey) (j : ℕ) → list_any test (key_interface k) ≡ true → Contains (key_interface k) j → test j ≡ true
key_passes test (key.Name name) j some has = absurd (Contains-nil has)
key_passes test (key.Interface i) j some has =
    let passing = any_of test (i ∷ []) some in
    subst (λ (x : ℕ). test x ≡ true) (sym (one_of i passing.0 passing.1) ∙ one_of i j has) passing.2

-- a world that lists fewer imports names fewer interfaces
fewer_named : (types : List TypeDef) (world before : World) (i : ℕ) → ((e : Entry) → Contains world.imports e → Contains before.imports e) → world.exports ≡ before.exports → Contains (world_interfaces types world) i → Contains (world_interfaces types before) i
fewer_named types world before i fewer same has =
    elim (Contains-append_cases (entry_interfaces types world.imports) (entry_interfaces types world.exports) i has) [
      | inl among ↦
          let from = filter_map_from (λ (e : Entry). entry_interface types e.1) world.imports i among in
          Contains-append_left (entry_interfaces types before.imports) (entry_interfaces types before.exports) i
          (filter_map_into (λ (e : Entry). entry_interface types e.1) before.imports from.0 i (fewer from.0 from.1) from.2)
      | inr among ↦ Contains-append_right (entry_interfaces types before.imports) (entry_interfaces types before.exports) i (subst (λ (es : List Entry). Contains (entry_interfaces types es) i) same among)
    ]

module _ (laws : LawsOfElaboration) (order : ImportsKeepOrder) (u : SemverMerge) (valid : IsValid u.graph) (w : ℕ) (there : slice_get u.graph.worlds w ≡ Some u.world)
    (stay : RetargetsNone u) (complete : IsComplete u) where
  abbrev types : List TypeDef
  types = u.graph.types

  abbrev interfaces : List Interface
  interfaces = u.graph.interfaces

  abbrev uses : List (List ℕ)
  uses = graph_uses u.graph

  abbrev old : World
  old = u.world

  abbrev relisted : List World
  relisted = slice_set u.graph.worlds w (listed_world u)

  types_stay : types_with_new_targets u ≡ types
  types_stay = numbered_same (λ (e : ℕ × TypeDef). retargeted e.1 (new_target u e.0)) 0 types (λ e has. ap (retargeted e.1) (stay e.0))

  -- ---- the named world, which is canonical

  acyclic : IsAcyclic uses
  acyclic = valid.no_cycles.uses

  canonical : Elaborated types uses old old
  canonical = valid.canonical w old there

  sound : HasSoundEntries types (length uses) old.imports old.exports
  sound = lists_in_order types interfaces valid.well_formed.references.aliases w old (valid.well_formed.worlds.imports w old there) (valid.well_formed.worlds.exports w old there)

  import_is : (e : Entry) → Contains old.imports e → IsImport interfaces types w e.0 e.1
  import_is e has = let place = place_of old.imports e has in valid.well_formed.worlds.imports w old there place.0 e place.1

  -- is it no exported key?
  abbrev outside : ℕ → Bool
  outside j = not (is_exported old.exports j)

  abbrev made : List Entry → List Entry
  made imports = flat_map (import_with_needs types uses) (by_class types imports) ++ flat_map (export_needs uses outside) old.exports

  imports_made : old.imports ≡ by_class types (fresh_entries [] (made old.imports))
  imports_made = ap (λ (x : World). x.imports) canonical.world_is

  are_settled : AreSettled types uses acyclic old.imports
  are_settled = record {
    new = subst (AllNew []) (sym imports_made) (by_class-new types (fresh_entries [] (made old.imports)) (fresh_entries-AllNew [] (made old.imports))).new;
    sorted = ap (by_class types) imports_made ∙ by_class-by_class types (fresh_entries [] (made old.imports)) ∙ sym imports_made;
    first = order types uses old old acyclic sound canonical;
    own = λ e i has is. own_role interfaces types w e.0 e.1 i is (import_is e has);
    inside = λ e has. each_member (λ (f : Entry). IsRoleInRange (length uses) (role_of types f.1)) old.imports e sound.of_imports.in_range has;
    settled = λ e has. elim ((laws.entries types uses old old e acyclic sound canonical).0 has) [
      | inl listed ↦ subst (λ (z : Entry). without_span z.1 ≡ z.1) (sym listed.2) (without_span_twice listed.0.1)
      | inr needed ↦ subst (λ (z : Entry). without_span z.1 ≡ z.1) (sym needed.2) refl
    ];
  }

  -- ---- what is kept of its imports

  abbrev Kept : ℕ → Type 0
  Kept i = kept_test laws.least u valid w there complete i ≡ true

  holds : HoldsImports types uses (kept_imports u) old.exports Kept
  holds = subst (λ (ts : List TypeDef). HoldsImports ts (uses_of ts interfaces) (kept_imports u) old.exports Kept) types_stay (kept_holds laws.least u valid w there complete)

  sound_kept : HasSoundEntries types (length uses) (kept_imports u) old.exports
  sound_kept =
      subst (λ (ts : List TypeDef). HasSoundEntries ts (length (uses_of ts interfaces)) (kept_imports u) old.exports) types_stay
      (in_order u valid w there w (listed_world u) (listed_there u valid w there))

  abbrev done : World
  done = with_elaborated_lists types uses (listed_world u)

  -- elaboration imports nothing but these
  all_kept : (j : ℕ) → Contains (keyed_interfaces done.imports) j → Kept j
  all_kept j =
      All-contains Kept (keyed_interfaces done.imports) j
      ((laws.least types uses (listed_world u) done acyclic sound_kept (record { no_conflict = canonical.no_conflict; world_is = refl })).1 (kept_test laws.least u valid w there complete) holds)

  exports_need : (e : Entry) → Contains (flat_map (export_needs uses outside) old.exports) e → Contains (keys_of (kept_imports u)) e.0
  exports_need e has =
      let by = Contains-flat_map_cases (export_needs uses outside) old.exports e has in
      let dep = Contains-deps (inherited_by_export by.0.1) (filter outside (interface_needs uses by.0)) e by.1.1 in
      let among = fresh_entries_all [] (made (kept_imports u)) e (Contains-append_right (flat_map (import_with_needs types uses) (by_class types (kept_imports u))) (flat_map (export_needs uses outside) old.exports) e has) in
      let found = Contains-keys (fresh_entries [] (made (kept_imports u))) e.0 among in
      let named : key.Interface dep.0 ≡ e.0 = ap (λ (z : Entry). z.0) dep.1.1 in
      let under : found.0.0 ≡ key.Interface dep.0 = ◌∙◌ {a = found.0.0} found.1.1 (sym named) in
      let kept = passed laws.least u valid w there complete dep.0 (all_kept dep.0
      (Contains-flat_map (λ (z : Entry). key_interface z.0) done.imports found.0 dep.0 (in_by_class types (fresh_entries [] (made (kept_imports u))) found.0 found.1.0)
      (under_key found.0.0 dep.0 under))) in
      let entry = kept_into laws.least u valid w there complete dep.0 kept in
      has_key (kept_imports u) entry.0 e.0 entry.1 (◌∙◌ {a = entry.0.0} entry.2 named)

  are_closed : AreClosed types uses acyclic Kept (λ (e : Entry). not (is_replaced_entry u e)) old.imports old.exports
  are_closed = record {
    needs = λ e j has on. stands_within types uses Kept e.0 e.1 j (λ r root. holds.roots r (Contains-flat_map (λ (e : Entry). roots_of uses e.0 (role_of types e.1)) (kept_imports u) e r has root)) holds.closed on;
    left = λ e j has goes under kept.
        false≢true (sym (passed laws.least u valid w there complete j kept).stays ∙ key_passes (is_replaced u) e.0 j (not_false (is_replaced_entry u e) goes) under);
    exported = exports_need;
  }

  named_stays : done ≡ listed_world u
  named_stays =
      let imports_stay : elaborated_imports types uses (kept_imports u) old.exports ≡ kept_imports u =
      part_is_elaborated types uses acyclic Kept (λ (e : Entry). not (is_replaced_entry u e)) old.imports old.exports are_settled are_closed in
      let exports_stay : elaborated_exports uses old.exports ≡ old.exports = sym (ap (λ (x : World). x.exports) canonical.world_is) in
      λ i. record old { imports = imports_stay i; exports = exports_stay i }

  -- ---- all worlds

  stays_at : (v : ℕ) (world : World) → slice_get relisted v ≡ Some world → Elaborated types uses world world
  stays_at v world at =
      elim (set_split u.graph.worlds w (listed_world u) v world at) [
        | inl here ↦ subst (λ (x : World). Elaborated types uses x x) (sym here.1) (record { no_conflict = canonical.no_conflict; world_is = sym named_stays })
        | inr stays ↦ valid.canonical v world stays.1
      ]

  worlds_stay : map (with_elaborated_lists types uses) relisted ≡ relisted
  worlds_stay = map_same (with_elaborated_lists types uses) relisted (λ v world at. sym (stays_at v world at).world_is)

  pub merged_is : all_elaborated (with_new_entries_at u w) ≡ record u.graph { worlds = relisted }
  merged_is =
      ap (λ (ts : List TypeDef). all_elaborated (record u.graph { types = ts; worlds = relisted })) types_stay
      ∙ ap (λ (worlds : List World). record u.graph { worlds = worlds }) worlds_stay

  -- ---- what is asked of the graph with its new entries

  abbrev needs_of : List World → ℕ × Package → List ℕ
  needs_of worlds e = package_needs types interfaces worlds e.0 e.1

  abbrev by_interfaces : List ℕ × ℕ → List ℕ
  by_interfaces e = option_map_or (interface_uses types) (slice_get interfaces e.1) []

  abbrev by_worlds : List World → List ℕ × ℕ → List ℕ
  by_worlds worlds e = option_map_or (world_interfaces types) (slice_get worlds e.1) []

  named_before : (home : Package) (i : ℕ) → Contains (package_interfaces types interfaces relisted home) i → Contains (package_interfaces types interfaces u.graph.worlds home) i
  named_before home i has =
      elim (Contains-append_cases (flat_map by_interfaces home.interfaces) (flat_map (by_worlds relisted) home.worlds) i has) [
        | inl among ↦ Contains-append_left (flat_map by_interfaces home.interfaces) (flat_map (by_worlds u.graph.worlds) home.worlds) i among
        | inr among ↦
            let e = Contains-flat_map_cases (by_worlds relisted) home.worlds i among in
            let new = there_is (world_interfaces types) (slice_get relisted e.0.1) i e.1.1 in
            let from = relisted_from u valid w there e.0.1 new.0 new.1 in
            Contains-append_right (flat_map by_interfaces home.interfaces) (flat_map (by_worlds u.graph.worlds) home.worlds) i
            (Contains-flat_map (by_worlds u.graph.worlds) home.worlds e.0 i e.1.0
            (is_there (world_interfaces types) (slice_get u.graph.worlds e.0.1) from.before i from.at
            (fewer_named types new.0 from.before i from.imports (ap (λ (x : World). x.exports) from.is) new.2)))
      ]

  depended_before : (p q : ℕ) → Contains (direct (package_uses types interfaces relisted u.graph.packages) p) q → Contains (direct (package_uses types interfaces u.graph.worlds u.graph.packages) p) q
  depended_before p q has =
      let tables = valid.well_formed.tables.interfaces_listed in
      let row = row_from types interfaces u.graph.packages tables relisted p q has in
      let from = filter_map_from (other_package interfaces p) (package_interfaces types interfaces relisted row.0) q row.2 in
      row_into types interfaces u.graph.packages tables u.graph.worlds p q row.0 row.1
      (filter_map_into (other_package interfaces p) (package_interfaces types interfaces u.graph.worlds row.0) from.0 q (named_before row.0 from.0 from.1) from.2)

  -- packages depend on none but those on which they did
  packages_acyclic : IsAcyclic (package_uses types interfaces relisted u.graph.packages)
  packages_acyclic =
      IsAcyclic-among (package_uses types interfaces relisted u.graph.packages) (package_uses types interfaces u.graph.worlds u.graph.packages)
      (length-map (enumerate_from 0 u.graph.packages) (needs_of relisted) ∙ sym (length-map (enumerate_from 0 u.graph.packages) (needs_of u.graph.worlds))) depended_before valid.no_cycles.packages

  no_conflict : (world : World) → Contains relisted world → HasTransitiveConflict uses world.exports → ⊥
  no_conflict world among = let place = place_of relisted world among in (stays_at place.0 world place.1).no_conflict

  -- what holds of the graph as its worlds are relisted holds of it with its new entries
  so : (P : Graph → Type 0) → P (record u.graph { worlds = relisted }) → P (with_new_entries_at u w)
  so P = subst P (λ i. record u.graph { types = sym types_stay i; worlds = relisted })

  pub no_cause : Agrees u → (error : ResolveErrorKind) → SemverMergeCause u w error → ⊥
  no_cause agree error (conflict_4 span name whole is) =
      so (λ h. (world : World) → Contains h.worlds world → HasTransitiveConflict (graph_uses h) world.exports → ⊥) no_conflict is.world is.there is.conflict
  no_cause agree error (package_cycle_6 home whole is) = no_cycle (graph_package_uses (with_new_entries_at u w)) (so (λ h. IsAcyclic (graph_package_uses h)) packages_acyclic) is.p is.q is.on_cycle
  no_cause agree error (interface_cycle_22 message whole is) = no_cycle (graph_uses (with_new_entries_at u w)) (so (λ h. IsAcyclic (graph_uses h)) valid.no_cycles.uses) is.i is.j is.on_cycle
  no_cause agree error (type_cycle_23 message whole is) = no_cycle (type_references (with_new_entries_at u w).types) (so (λ h. IsAcyclic (type_references h.types)) valid.no_cycles.types) is.t is.u is.on_cycle
  no_cause agree error (type_missing_25 t message follows lacks) = complete t message follows lacks
  no_cause agree error (functions_disagree_25 f message differ) = agree f message differ

some_world : (a b : World) → Some a ≡ Some b → a ≡ b
some_world a b same = cc

pub same_types_keep_worlds : LawsOfElaboration → ImportsKeepOrder → SameTypesKeepWorlds
same_types_keep_worlds laws order u w valid there stay complete agree = (
  λ error cause.
      let one : cause.0 ≡ u.world = some_world cause.0 u.world (sym cause.1 ∙ there) in
      no_cause laws order u valid w there stay complete agree error (subst (λ (x : World). SemverMergeCause (record u { world = x }) w error) one cause.2),
  semver_merged_is u.rule u.graph w u.world there ∙ merged_is laws order u valid w there stay complete,
)
