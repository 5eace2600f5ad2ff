-- What a world of a valid graph imports after the merge: the former interfaces less the replaced. They are closed under
-- the uses that follow, so elaboration adds nothing to them.
use Rattle.std.proofs.Common.{◌≡◌, ◌∙◌, inl, inr, ℕ, Bool, true, false, not, ◌&&◌, List, [], ◌∷◌, ◌++◌, Option, None, Some, slice_get, refl, sym, ap, subst, Contains, nat_eq}
use Rattle.std.specs.List.{flat_map, list_any}
use Rattle.std.proofs.lemmas.Bool.{and_parts, cases_Bool, not-true, not_from_false}
use Rattle.std.proofs.lemmas.List.Elements.{Contains-append_left, Contains-append_right}
use Rattle.wit_digraph.specs.facts.FreshFacts.{any_from_contains, contains_from_any}
use Rattle.wit_digraph.specs.facts.MemberFacts.{Contains-flat_map, Contains-flat_map_cases, Contains-here, Contains-nil}
use Rattle.wit_digraph.specs.Relation.{direct}
use Rattle.wit_data.specs.Entries.{IsImport}
use Rattle.wit_data.specs.Function.{resource_of}
use Rattle.wit_data.specs.Uses.{interface_uses, type_interface_dep, uses_of}
use Rattle.wit_data.specs.declared.interface.Interface.{Interface}
use Rattle.wit_data.specs.declared.types.TypeDef.{TypeDef}
use Rattle.wit_data.specs.declared.world.World.{World}
use Rattle.wit_data.specs.declared.world.WorldItem.{WorldItem}
use Rattle.wit_data.specs.declared.world.WorldKey.{WorldKey}
use Rattle.wit_data.specs.declared.world.WorldItem.TheVariants as item
use Rattle.wit_data.specs.declared.world.WorldKey.TheVariants as key
use Rattle.wit_elaboration.specs.facts.Filters.{Contains-filter, Contains-filtered}
use Rattle.wit_elaboration.specs.Entries.{Entry, key_interface, keyed_interfaces, item_interface, role_of}
use Rattle.wit_elaboration.specs.laws.Imports.{roots_of}
use Rattle.wit_elaboration.specs.laws.KeptByElaboration.{HoldsImports, ImportsAreLeast}
use Rattle.wit_elaboration.specs.Valid.{IsValid}
use Rattle.wit_graph_theory.specs.facts.DependencyFacts.{filter_map_from, filter_map_into}
use Rattle.wit_graph_theory.specs.facts.EntryFacts.{holds as old_holds, import_uses as import_uses_imported, instance_interface, key_entry, no_function_root, one_of, type_root}
use Rattle.wit_graph_theory.specs.facts.ListFacts.{Contains-map, from_row, in_row, place_of}
use Rattle.wit_graph_theory.specs.facts.OptionFacts.{some_same}
use Rattle.wit_graph_theory.specs.laws.PackageCycles.{ListsKey, ListsUses}
use Rattle.wit_graph_theory.specs.facts.PackagesAcyclic.{is_there}
use Rattle.wit_semver.specs.SemverMerged.{entry_types, kept_imports, types_of_new_entries, types_with_new_targets, SemverMerge, imported, is_replaced, newest, IsComplete}
use Rattle.wit_semver.specs.facts.Greatest.{both_true, newest_stays}
use Rattle.wit_semver.specs.facts.TypesAfter.{needs_after}
use Rattle.wit_elaboration.specs.steps.Parts.{type_role, exported_keys, exported_interfaces}
use Rattle.wit_semver.specs.steps.Parts.{is_replaced_entry, listed_world, types_of}

-- ---- entries

-- the key of an interface holds that interface
held_of_key : (interfaces : List Interface) (types : List TypeDef) (w : ℕ) (k : WorldKey) (held : WorldItem) (i : ℕ) → k ≡ key.Interface i → IsImport interfaces types w k held → Contains (item_interface held) i
held_of_key interfaces types w (key.Name name) held i same is = cc
held_of_key interfaces types w (key.Interface f) (item.Interface id stability docs span external_id) i same is = let one : f ≡ i = cc in subst (λ (x : ℕ). Contains (id ∷ []) x) (is.0 ∙ one) (Contains-here id [])
held_of_key interfaces types w (key.Interface f) (item.Function fn) i same is = absurd is
held_of_key interfaces types w (key.Interface f) (item.Type_ t span) i same is = absurd is

-- an entry's key is among the ids
key_into : (es : List Entry) (e : Entry) (j : ℕ) → Contains es e → e.0 ≡ key.Interface j → Contains (keyed_interfaces es) j
key_into es e j has is = Contains-flat_map (λ (e : Entry). key_interface e.0) es e j has (subst (λ (k : WorldKey). Contains (key_interface k) j) (sym is) (Contains-here j []))

-- an entry's types are those of the interface that it holds
types_in : (interfaces : List Interface) (k : WorldKey) (held : WorldItem) (i : ℕ) (interface : Interface) (t : ℕ) → Contains (item_interface held) i → slice_get interfaces i ≡ Some interface → Contains (types_of interface) t
    → Contains (entry_types interfaces (k, held)) t
types_in interfaces k (item.Interface id stability docs span external_id) i interface t holds at has =
    is_there types_of (slice_get interfaces id) interface t (ap (slice_get interfaces) (one_of id i holds) ∙ at) has
types_in interfaces k (item.Function fn) i interface t holds at has = absurd (Contains-nil holds)
types_in interfaces k (item.Type_ s span) i interface t holds at has = absurd (Contains-nil holds)

own_type : (interfaces : List Interface) (k : WorldKey) (held : WorldItem) (t : ℕ) (span : _) → held ≡ item.Type_ t span → Contains (entry_types interfaces (k, held)) t
own_type interfaces k held t span is = subst (λ (x : WorldItem). Contains (entry_types interfaces (k, x)) t) (sym is) (Contains-here t [])

-- where the imports of an entry begin, by what stands there
data Begins (types : List TypeDef) (uses : List (List ℕ)) (k : WorldKey) (held : WorldItem) (r : ℕ)
    : Type 0 where
  at_key : k ≡ key.Interface r → Begins types uses k held r
  at_use : (i : ℕ) → Contains (item_interface held) i → Contains (direct uses i) r
      → Begins types uses k held r
  at_type : (t : ℕ) (span : _) → held ≡ item.Type_ t span → type_interface_dep types t ≡ Some r
      → Begins types uses k held r

type_root_into : (uses : List (List ℕ)) (o : Option ℕ) (k : WorldKey) (r : ℕ) → o ≡ Some r → Contains (roots_of uses k (type_role o)) r
type_root_into uses None k r is = cc
type_root_into uses (Some x) (key.Name name) r is = let same : x ≡ r = cc in subst (λ (y : ℕ). Contains (x ∷ []) y) same (Contains-here x [])
type_root_into uses (Some x) (key.Interface f) r is = let same : x ≡ r = cc in subst (λ (y : ℕ). Contains (x ∷ []) y) same (Contains-here x [])

begins : (interfaces : List Interface) (types : List TypeDef) (w : ℕ) (uses : List (List ℕ)) (k : WorldKey) (held : WorldItem) (r : ℕ) (now : List TypeDef) → IsImport interfaces types w k held
    → Contains (roots_of uses k (role_of now held)) r → Begins now uses k held r
begins interfaces types w uses (key.Interface f) (item.Interface id stability docs span external_id) r now is has = at_key (ap key.Interface (sym is.0 ∙ one_of id r has))
begins interfaces types w uses (key.Name name) (item.Interface id stability docs span external_id) r now is has = at_use id (Contains-here id []) has
begins interfaces types w uses k (item.Function fn) r now is has = absurd (no_function_root uses (resource_of fn.kind) k r has)
begins interfaces types w uses k (item.Type_ t span) r now is has = at_type t span refl (type_root uses (type_interface_dep now t) k r has)

-- under its own key an interface begins at itself
key_root : (interfaces : List Interface) (typedefs types : List TypeDef) (uses : List (List ℕ)) (w : ℕ) (k : WorldKey) (held : WorldItem) (i : ℕ) → k ≡ key.Interface i → IsImport interfaces typedefs w k held → Contains (roots_of uses k (role_of types held)) i
key_root interfaces typedefs types uses w (key.Name name) held i same is = cc
key_root interfaces typedefs types uses w (key.Interface f) (item.Interface id stability docs span external_id) i same is = let one : f ≡ i = cc in subst (λ (x : ℕ). Contains (id ∷ []) x) (is.0 ∙ one) (Contains-here id [])
key_root interfaces typedefs types uses w (key.Interface f) (item.Function fn) i same is = absurd is
key_root interfaces typedefs types uses w (key.Interface f) (item.Type_ t span) i same is = absurd is

module _ (least : ImportsAreLeast) (u : SemverMerge) (valid : IsValid u.graph) (w : ℕ) (there : slice_get u.graph.worlds w ≡ Some u.world) (complete : IsComplete u) where
  abbrev old : World
  old = u.world

  abbrev rows : List (List ℕ)
  rows = uses_of u.graph.types u.graph.interfaces

  abbrev pub new_rows : List (List ℕ)
  new_rows = uses_of (types_with_new_targets u) u.graph.interfaces

  -- an import that isn't replaced
  pub record IsKept (j : ℕ) : Type 0 where
    pub was : Contains (imported u) j
    pub stays : is_replaced u j ≡ false

  import_is : (e : Entry) → Contains old.imports e → IsImport u.graph.interfaces u.graph.types w e.0 e.1
  import_is e has = let place = place_of old.imports e has in valid.well_formed.worlds.imports w old there place.0 e place.1

  -- the old world imports all that it needs
  holds : HoldsImports u.graph.types rows old.imports old.exports (Contains (imported u))
  holds =
      old_holds least u.graph.types u.graph.interfaces valid.well_formed.references.aliases valid.no_cycles.uses w old (valid.well_formed.worlds.imports w old there) (valid.well_formed.worlds.exports w old there)
      (valid.canonical w old there)

  -- ---- the imports that stay

  staying_from : (e : Entry) → Contains (kept_imports u) e → Contains old.imports e × (is_replaced_entry u e ≡ false)
  staying_from e has =
      let parts = Contains-filter (λ (e : Entry). not (is_replaced_entry u e)) old.imports e has in
      (parts.0, not-true (is_replaced_entry u e) parts.1)

  key_replaced : (k : WorldKey) (j : ℕ) → k ≡ key.Interface j → list_any (is_replaced u) (key_interface k) ≡ is_replaced u j
  key_replaced (key.Name name) j same = cc
  key_replaced (key.Interface i) j same = let one : i ≡ j = cc in or_false (is_replaced u i) ∙ ap (is_replaced u) one
    where
      or_false : (b : Bool) → list_any (λ (x : ℕ). b) (0 ∷ []) ≡ b
      or_false true = refl
      or_false false = refl

  -- its keys are those that are kept
  pub kept_from : (j : ℕ) → Contains (keyed_interfaces (kept_imports u)) j → IsKept j
  kept_from j has =
      let entry = key_entry (kept_imports u) j has in
      let parts = staying_from entry.0 entry.1 in
      record { was = key_into old.imports entry.0 j parts.0 entry.2; stays = sym (key_replaced entry.0.0 j entry.2) ∙ parts.1 }

  pub kept_into : (j : ℕ) → IsKept j → (e : Entry) × Contains (kept_imports u) e × (e.0 ≡ key.Interface j)
  kept_into j kept =
      let entry = key_entry old.imports j kept.was in
      let off : is_replaced_entry u entry.0 ≡ false = key_replaced entry.0.0 j entry.2 ∙ kept.stays in
      (entry.0, Contains-filtered (λ (e : Entry). not (is_replaced_entry u e)) old.imports entry.0 entry.1 (not_from_false (is_replaced_entry u entry.0) off), entry.2)

  pub newest_kept : (f : ℕ) → is_replaced u f ≡ true → IsKept (newest u f)
  newest_kept f replaced = let it = newest_stays u f replaced in record { was = it.is_imported; stays = it.stays }

  -- ---- what follows needs what is kept

  -- the types of the interface that an entry of the lists holds follow
  follows : (e : Entry) (i : ℕ) (interface : Interface) (t : ℕ) → Contains (kept_imports u ++ old.exports) e → Contains (item_interface e.1) i → slice_get u.graph.interfaces i ≡ Some interface → Contains (types_of interface) t → Contains (types_of_new_entries u) t
  follows e i interface t has holds_i at listed =
      Contains-flat_map (entry_types u.graph.interfaces) (kept_imports u ++ old.exports) e t has (types_in u.graph.interfaces e.0 e.1 i interface t holds_i at listed)

  -- what a type that follows needs is kept, where what it needed was imported
  kept_dep : (t j : ℕ) → Contains (types_of_new_entries u) t → type_interface_dep (types_with_new_targets u) t ≡ Some j → ((f : ℕ) → type_interface_dep u.graph.types t ≡ Some f → Contains (imported u) f) → IsKept j
  kept_dep t j has dep was =
      let needs = needs_after u valid complete t j dep in
      elim needs.is [
        | inl same ↦
            let imported_f = was needs.f needs.needed in
            let stays : is_replaced u needs.f ≡ false =
            elim (cases_Bool (is_replaced u needs.f)) [ inl on ↦ absurd (same.1 on (any_from_contains t (types_of_new_entries u) has)) | inr off ↦ off ] in
            record { was = subst (Contains (imported u)) (sym same.0) imported_f; stays = subst (λ (x : ℕ). is_replaced u x ≡ false) (sym same.0) stays }
        | inr transformed ↦ subst IsKept (sym transformed.2) (newest_kept needs.f transformed.0)
      ]

  -- the edge of an interface, by the type that makes it
  record Edge (i j : ℕ) : Type 0 where
    interface : Interface
    at : slice_get u.graph.interfaces i ≡ Some interface
    t : ℕ
    listed : Contains (types_of interface) t
    dep : type_interface_dep (types_with_new_targets u) t ≡ Some j
    before : (f : ℕ) → type_interface_dep u.graph.types t ≡ Some f → Contains (direct rows i) f

  edge_of : (i j : ℕ) → Contains (direct new_rows i) j → Edge i j
  edge_of i j edge =
      let from = from_row (interface_uses (types_with_new_targets u)) u.graph.interfaces i j edge in
      let e = filter_map_from (λ (e : List ℕ × ℕ). type_interface_dep (types_with_new_targets u) e.1) from.0.types j from.2 in
      record {
        interface = from.0;
        at = from.1;
        t = e.0.1;
        listed = Contains-map (λ (e : List ℕ × ℕ). e.1) from.0.types e.0 e.1;
        dep = e.2;
        before = λ f dep. in_row (interface_uses u.graph.types) u.graph.interfaces i from.0 f from.1 (filter_map_into (λ (e : List ℕ × ℕ). type_interface_dep u.graph.types e.1) from.0.types e.0 f e.1 dep);
      }

  import_uses : (e : Entry) (i j : ℕ) → Contains (kept_imports u) e → Contains (item_interface e.1) i → Contains (direct new_rows i) j → ((f : ℕ) → Contains (direct rows i) f → Contains (imported u) f) → IsKept j
  import_uses e i j has holds_i edge was =
      let of = edge_of i j edge in
      kept_dep of.t j (follows e i of.interface of.t (Contains-append_left (kept_imports u) old.exports e has) holds_i of.at of.listed) of.dep (λ f dep. was f (of.before f dep))

  root_into : (e : Entry) (r : ℕ) → Contains old.imports e → Contains (roots_of rows e.0 (role_of u.graph.types e.1)) r → Contains (imported u) r
  root_into e r has root = holds.roots r (Contains-flat_map (λ (e : Entry). roots_of rows e.0 (role_of u.graph.types e.1)) old.imports e r has root)

  -- an old import's instance uses what was imported
  uses_imported : (e : Entry) (i f : ℕ) → Contains old.imports e → Contains (item_interface e.1) i → Contains (direct rows i) f → Contains (imported u) f
  uses_imported e i f has holds_i edge =
      import_uses_imported least u.graph.types u.graph.interfaces valid.well_formed.references.aliases valid.no_cycles.uses w old (valid.well_formed.worlds.imports w old there)
      (valid.well_formed.worlds.exports w old there) (valid.canonical w old there) e i f has (instance_interface u.graph.types e.1 i holds_i) edge

  kept_roots : (r : ℕ) → Contains (flat_map (λ (e : Entry). roots_of new_rows e.0 (role_of (types_with_new_targets u) e.1)) (kept_imports u)) r → IsKept r
  kept_roots r has =
      let e = Contains-flat_map_cases (λ (e : Entry). roots_of new_rows e.0 (role_of (types_with_new_targets u) e.1)) (kept_imports u) r has in
      let before = staying_from e.0 e.1.0 in
      by e.0 e.1.0 before.0 (begins u.graph.interfaces u.graph.types w new_rows e.0.0 e.0.1 r (types_with_new_targets u) (import_is e.0 before.0) e.1.1)
    where
      by : (e : Entry) → Contains (kept_imports u) e → Contains old.imports e → Begins (types_with_new_targets u) new_rows e.0 e.1 r → IsKept r
      by e among listed (at_key is) = kept_from r (key_into (kept_imports u) e r among is)
      by e among listed (at_use i holds_i edge) = import_uses e i r among holds_i edge (λ f before. uses_imported e i f listed holds_i before)
      by e among listed (at_type t span is dep) =
          kept_dep t r (Contains-flat_map (entry_types u.graph.interfaces) (kept_imports u ++ old.exports) e t (Contains-append_left (kept_imports u) old.exports e among) (own_type u.graph.interfaces e.0 e.1 t span is)) dep
          (λ f before. root_into e f listed (subst (λ (held : WorldItem). Contains (roots_of rows e.0 (role_of u.graph.types held)) f) (sym is) (type_root_into rows (type_interface_dep u.graph.types t) e.0 f before)))

  kept_closed : (i j : ℕ) → IsKept i → Contains (direct new_rows i) j → IsKept j
  kept_closed i j kept edge =
      let entry = kept_into i kept in
      let before = staying_from entry.0 entry.1 in
      let held = held_of_key u.graph.interfaces u.graph.types w entry.0.0 entry.0.1 i entry.2 (import_is entry.0 before.0) in
      import_uses entry.0 i j entry.1 held edge (λ f old_edge. holds.closed i f kept.was old_edge)

  -- what the exports name from outside is kept
  named_kept : (x d : ℕ) → Contains (exported_interfaces old.exports) x → Contains (direct new_rows x) d → (Contains (exported_keys old.exports) d → ⊥) → IsKept d
  named_kept x d exported edge apart =
      let e = Contains-flat_map_cases (λ (e : Entry). item_interface e.1) old.exports x exported in
      let of = edge_of x d edge in
      let follow = follows e.0 x of.interface of.t (Contains-append_right (kept_imports u) old.exports e.0 e.1.0) e.1.1 of.at of.listed in
      let needs = needs_after u valid complete of.t d of.dep in
      elim needs.is [
        | inl same ↦
            kept_dep of.t d follow of.dep (λ f dep.
            let one : f ≡ needs.f = some_same f needs.f (sym dep ∙ needs.needed) in
            let place : f ≡ d = one ∙ sym same.0 in
            subst (Contains (imported u)) (sym place) (holds.from_outside x d exported (subst (λ (y : ℕ). Contains (direct rows x) y) place (of.before f dep)) apart))
        | inr transformed ↦ subst IsKept (sym transformed.2) (newest_kept needs.f transformed.0)
      ]

  -- the test of it
  abbrev pub kept_test : ℕ → Bool
  kept_test j = list_any (nat_eq j) (imported u) && not (is_replaced u j)

  passes : (j : ℕ) → IsKept j → kept_test j ≡ true
  passes j kept = both_true (list_any (nat_eq j) (imported u)) (not (is_replaced u j)) (any_from_contains j (imported u) kept.was) (not_from_false (is_replaced u j) kept.stays)

  pub passed : (j : ℕ) → kept_test j ≡ true → IsKept j
  passed j on =
      let parts = and_parts (list_any (nat_eq j) (imported u)) (not (is_replaced u j)) on in
      record { was = contains_from_any j (imported u) parts.0; stays = not-true (is_replaced u j) parts.1 }

  -- the kept imports hold what the listed world needs
  pub kept_holds : HoldsImports (types_with_new_targets u) new_rows (kept_imports u) old.exports (λ i. kept_test i ≡ true)
  kept_holds = record {
    roots = λ r has. passes r (kept_roots r has);
    from_outside = λ x d exported edge apart. passes d (named_kept x d exported edge apart);
    closed = λ i j on edge. passes j (kept_closed i j (passed i on) edge);
  }

  -- each of them is where an import begins
  pub kept_root : (j : ℕ) → IsKept j → Contains (flat_map (λ (e : Entry). roots_of new_rows e.0 (role_of (types_with_new_targets u) e.1)) (kept_imports u)) j
  kept_root j kept =
      let entry = kept_into j kept in
      let before = staying_from entry.0 entry.1 in
      Contains-flat_map (λ (e : Entry). roots_of new_rows e.0 (role_of (types_with_new_targets u) e.1)) (kept_imports u) entry.0 j entry.1
      (key_root u.graph.interfaces u.graph.types (types_with_new_targets u) new_rows w entry.0.0 entry.0.1 j entry.2 (import_is entry.0 before.0))

  -- what the interfaces of the listed world use it lists
  kept_key : (j : ℕ) → IsKept j → Contains (keyed_interfaces (kept_imports u)) j
  kept_key j kept = let entry = kept_into j kept in key_into (kept_imports u) entry.0 j entry.1 entry.2

  pub named_lists_uses : ListsUses u.graph.interfaces new_rows (listed_world u)
  named_lists_uses = record {
    imports = λ e f j has holds_f unnamed edge. inl (kept_key j (import_uses e f j has holds_f edge (λ x before. uses_imported e f x (staying_from e has).0 holds_f before)));
    exports = λ e f j has holds_f unnamed edge. exported e f j has holds_f edge (list_any (nat_eq j) (exported_keys old.exports)) refl;
  }
    where
      exported : (e : Entry) (f j : ℕ) → Contains old.exports e → Contains (item_interface e.1) f → Contains (direct new_rows f) j → (b : Bool) → list_any (nat_eq j) (exported_keys old.exports) ≡ b → ListsKey (listed_world u) j
      exported e f j has holds_f edge true is = inr (contains_from_any j (exported_keys old.exports) is)
      exported e f j has holds_f edge false is =
          inl (kept_key j (named_kept f j (Contains-flat_map (λ (e : Entry). item_interface e.1) old.exports e f has holds_f) edge
          (λ among. let yes = any_from_contains j (exported_keys old.exports) among in cc)))
