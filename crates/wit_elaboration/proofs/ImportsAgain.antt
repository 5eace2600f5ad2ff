-- Elaborated imports are their own elaboration, and each stands after what it uses.
use Rattle.std.proofs.Common.{◌≡◌, ℕ, ◌<◌, Bool, true, false, not, inl, inr, List, [], ◌∷◌, ◌++◌, map, filter, length, refl, sym, ap, subst, ◌∙◌, Contains}
use Rattle.std.specs.List.{flat_map, list_any}
use Rattle.std.specs.Map.{keys_of}
use Rattle.std.proofs.lemmas.List.{append-nil}
use Rattle.std.proofs.lemmas.List.Elements.{Contains-append_cases, Contains-append_right}
use Rattle.wit_data.specs.declared.types.TypeDef.{TypeDef}
use Rattle.wit_data.specs.declared.world.WorldKey.TheVariants.{Interface}
use Rattle.wit_digraph.specs.facts.FreshFacts.{any_from_contains, contains_from_any}
use Rattle.wit_digraph.specs.facts.MemberFacts.{Contains-nil, Contains-here, Contains-there, Contains-cons_cases, Contains-flat_map, Contains-flat_map_cases}
use Rattle.wit_digraph.specs.Relation.{IsAcyclic}
use Rattle.wit_elaboration.specs.Entries.{Entry, Instance, role_of, item_interface, keyed_interfaces, same_key, by_class, fresh_entries}
use Rattle.wit_elaboration.specs.Elaborated.{InheritedData, dependency_of, dependencies_before, inherited_by_import, inherited_by_export, without_span, import_with_needs, export_needs, elaborated_imports, elaborated_exports}
use Rattle.wit_elaboration.specs.laws.ElaborationLaws.{DependenciesFirst}
use Rattle.wit_elaboration.specs.Imported.{HasTransitiveConflict, is_exported}
use Rattle.wit_elaboration.specs.Sound.{IsRoleInRange}
use Rattle.wit_elaboration.proofs.Absorbed.{absorbed}
use Rattle.wit_elaboration.specs.facts.Classes.{by_class-new, by_class-by_class, by_class_in, in_by_class, DependenciesFirst-by_class}
use Rattle.wit_elaboration.proofs.ExportedKeys.{id_inj}
use Rattle.wit_elaboration.proofs.ElaboratedIs.{own_keys}
use Rattle.wit_elaboration.proofs.ExportsAgain.{functions, kept, made, exported_below, test_same}
use Rattle.wit_elaboration.specs.facts.Filters.{Contains-filter, Contains-filtered, not_true}
use Rattle.wit_elaboration.specs.facts.FreshEntries.{Contains-keys, Contains-deps, deps-Contains, keys-Contains, known_from_contains, fresh_entries_in, fresh_entries_all, fresh_entries-append, fresh_entries-all_known, fresh_entries-AllNew}
use Rattle.wit_elaboration.specs.facts.Order.{DependenciesFirst-append, DependenciesFirst-fresh, DependenciesFirst-map, entry_walks_first}
use Rattle.wit_elaboration.proofs.Roles.{InOrder, instance_from_role, role_of-without_span, without_span-twice}
use Rattle.wit_elaboration.proofs.Needs.{needs_below, outside_first, uses_below}
use Rattle.wit_elaboration.specs.steps.Parts.{is_interface, exported_keys, interface_needs}

-- what is made of some entries has their keys
made_known : (made sorted : List Entry) → ((e : Entry) → Contains (fresh_entries [] made) e → Contains sorted e) → (g : Entry) → Contains made g → Contains (keys_of sorted) g.0
made_known made sorted in_sorted g has =
    let key = Contains-keys (fresh_entries [] made) g.0 (fresh_entries_all [] made g has) in
    subst (λ k. Contains (keys_of sorted) k) key.1.1 (keys-Contains sorted key.0 (in_sorted key.0 key.1.0))

module _ (types : List TypeDef) where
  DependenciesFirst-each : {X : Type 0} (uses : List (List ℕ)) (f : X → List Entry) (xs : List X) (seen : List ℕ) → ((x : X) → Contains xs x → (more : List ℕ) → DependenciesFirst types uses more (f x)) → DependenciesFirst types uses seen (flat_map f xs)
  DependenciesFirst-each uses f [] seen each = tt
  DependenciesFirst-each uses f (x ∷ xs) seen each =
      DependenciesFirst-append types uses (f x) (flat_map f xs) seen (each x (Contains-here x xs) seen) (DependenciesFirst-each uses f xs (seen ++ keyed_interfaces (f x)) (λ y has. each y (Contains-there x y xs has)))

  module _ (uses : List (List ℕ)) (acyclic : IsAcyclic uses) (imports exports : List Entry) (listed : InOrder types (length uses) imports exports) where
    abbrev pub from_imports : List Entry
    from_imports = flat_map (import_with_needs types uses) (by_class types imports)

    -- is it no exported key?
    abbrev pub outside : ℕ → Bool
    outside j = not (is_exported exports j)

    abbrev pub from_exports : List Entry
    from_exports = flat_map (export_needs uses outside) exports

    abbrev pub all_imports : List Entry
    all_imports = fresh_entries [] (from_imports ++ from_exports)

    -- an import that is made is in order by itself
    pub record IsFine (f : Entry) : Type 0 where
      pub own : (i : ℕ) → f.0 ≡ Interface i → (role_of types f.1) ≡ Instance i
      pub inside : IsRoleInRange (length uses) (role_of types f.1)
      pub is_settled : without_span f.1 ≡ f.1

    dependency_fine : (s : InheritedData) (j : ℕ) → j < length uses → IsFine (dependency_of s j)
    dependency_fine s j below = record { own = λ i is. ap (λ x. Instance x) (id_inj is); inside = below; is_settled = refl }

    pub export_import : (e f : Entry) → Contains (export_needs uses outside e) f
        → (i : ℕ) × (j : ℕ) × (Contains (item_interface e.1) i) × (Contains (dependencies_before uses (Instance i)) j) × (is_exported exports j ≡ false) × (dependency_of (inherited_by_export e.1) j ≡ f)
    export_import e f has =
        let dep = Contains-deps (inherited_by_export e.1) (filter outside (interface_needs uses e)) f has in
        let picked = Contains-filter outside (interface_needs uses e) dep.0 dep.1.0 in
        let part = Contains-flat_map_cases (λ i. dependencies_before uses (Instance i)) (item_interface e.1) dep.0 picked.0 in
        (part.0, dep.0, part.1.0, part.1.1, not_true (is_exported exports dep.0) picked.1, dep.1.1)

    -- and such a need is imported
    pub import_export : (e : Entry) (i j : ℕ) → Contains (item_interface e.1) i → Contains (dependencies_before uses (Instance i)) j → is_exported exports j ≡ false
        → Contains (export_needs uses outside e) (dependency_of (inherited_by_export e.1) j)
    import_export e i j on has off =
        deps-Contains (inherited_by_export e.1) (filter outside (interface_needs uses e)) j
        (Contains-filtered outside (interface_needs uses e) j (Contains-flat_map (λ i. dependencies_before uses (Instance i)) (item_interface e.1) i j on has) (ap not off))

    settled_fine : (e : Entry) → ((i : ℕ) → e.0 ≡ Interface i → role_of types e.1 ≡ Instance i) → IsRoleInRange (length uses) (role_of types e.1) → IsFine (e.0, without_span e.1)
    settled_fine e own inside = record {
      own = λ i is. role_of-without_span types e.1 ∙ own i is;
      inside = subst (λ r. IsRoleInRange (length uses) r) (sym (role_of-without_span types e.1)) inside;
      is_settled = without_span-twice e.1;
    }

    pub import_fine : (f : Entry) → Contains all_imports f → IsFine f
    import_fine f has =
        elim (Contains-append_cases from_imports from_exports f (fresh_entries_in [] (from_imports ++ from_exports) f has)) [
          | inl of_import ↦
              let part = Contains-flat_map_cases (import_with_needs types uses) (by_class types imports) f of_import in
              let root = by_class_in types imports part.0 part.1.0 in
              elim (Contains-append_cases (map (dependency_of (inherited_by_import types part.0.1)) (dependencies_before uses (role_of types part.0.1))) ((part.0.0, without_span part.0.1) ∷ []) f part.1.1) [
                | inl deps ↦ let dep = Contains-deps (inherited_by_import types part.0.1) (dependencies_before uses (role_of types part.0.1)) f deps in
                    subst IsFine dep.1.1 (dependency_fine (inherited_by_import types part.0.1) dep.0 (needs_below uses acyclic (role_of types part.0.1) dep.0 (listed.imports_in_range part.0 root) dep.1.0))
                | inr last ↦ elim (Contains-cons_cases (part.0.0, without_span part.0.1) f [] last) [
                  | inl same ↦ subst IsFine same (settled_fine part.0 (λ i. listed.own_imports part.0 i root) (listed.imports_in_range part.0 root))
                  | inr none ↦ absurd (Contains-nil none)
                ]
              ]
          | inr of_export ↦
              let part = Contains-flat_map_cases (export_needs uses outside) exports f of_export in
              let dep = export_import part.0 f part.1.1 in
              subst IsFine dep.5 (dependency_fine (inherited_by_export part.0.1) dep.1 (uses_below uses acyclic dep.0 dep.1 dep.3))
        ]

    all_imports_first : (HasTransitiveConflict uses exports → ⊥) → DependenciesFirst types uses [] all_imports
    all_imports_first no_conflict =
        DependenciesFirst-fresh types uses (from_imports ++ from_exports) [] [] (λ j has. has)
        (DependenciesFirst-append types uses from_imports from_exports []
        (entry_walks_first types uses acyclic (inherited_by_import types) without_span (role_of-without_span types) (by_class types imports) [] (λ e has. listed.imports_in_range e (by_class_in types imports e has)))
        (DependenciesFirst-each uses (export_needs uses outside) exports (keyed_interfaces from_imports) (λ e has more.
        DependenciesFirst-map types uses (inherited_by_export e.1) (filter outside (interface_needs uses e)) more
        (outside_first uses acyclic exports (own_keys types uses acyclic imports exports listed) no_conflict e more has))))

    imports_absorbed : (HasTransitiveConflict uses exports → ⊥) → fresh_entries [] (flat_map (import_with_needs types uses) (by_class types all_imports)) ≡ by_class types all_imports
    imports_absorbed no_conflict =
        absorbed types uses acyclic (inherited_by_import types) without_span (by_class types all_imports) [] (by_class-new types all_imports (fresh_entries-AllNew [] (from_imports ++ from_exports))).new
        (DependenciesFirst-by_class types uses all_imports (λ f i has. (import_fine f has).own i) (all_imports_first no_conflict))
        tt (λ f i has. (import_fine f (by_class_in types all_imports f has)).own i) (λ f has. (import_fine f (by_class_in types all_imports f has)).inside) (λ f has. (import_fine f (by_class_in types all_imports f has)).is_settled)

    -- an interface that is exported after elaboration was exported before
    exported_before : (e : Entry) (i : ℕ) → Contains (elaborated_exports uses exports) e → Contains (item_interface e.1) i → (d : Entry) × (Contains exports d × Contains (item_interface d.1) i)
    exported_before e i has among =
        elim (Contains-append_cases (functions types uses acyclic imports exports listed) (kept types uses acyclic imports exports listed) e has) [
          | inl old ↦ (e, ((Contains-filter (λ (e : Entry). not (is_interface e)) exports e old).0, among))
          | inr new ↦ elim (made types uses acyclic imports exports listed e new) [
            | inl own ↦ (e, (own.0, among))
            | inr dep ↦
                let d = exported_below types uses acyclic imports exports listed dep.1 dep.3 in
                let same : Contains (dep.1 ∷ []) i = subst (λ (z : Entry). Contains (item_interface z.1) i) (sym dep.2) among in
                (d.0, (d.1.0, subst (λ xs. Contains xs i) (sym (instance_from_role types d.0.1 dep.1 d.1.1)) same))
          ]
        ]

    -- the elaborated exports need nothing new
    exports_known : (f : Entry) → Contains (flat_map (export_needs uses outside) (elaborated_exports uses exports)) f → list_any (same_key f.0) (keys_of (by_class types all_imports)) ≡ true
    exports_known f has =
        let part = Contains-flat_map_cases (export_needs uses outside) (elaborated_exports uses exports) f has in
        let dep = export_import part.0 f part.1.1 in
        let old = exported_before part.0 dep.0 part.1.0 dep.2 in
        let g : Entry = dependency_of (inherited_by_export old.0.1) dep.1 in
        let inside : Contains from_exports g = Contains-flat_map (export_needs uses outside) exports old.0 g old.1.0 (import_export old.0 dep.0 dep.1 old.1.1 dep.3 dep.4) in
        let there : Contains (keys_of (by_class types all_imports)) g.0 = made_known (from_imports ++ from_exports) (by_class types all_imports) (in_by_class types all_imports) g (Contains-append_right from_imports from_exports g inside) in
        known_from_contains f.0 (keys_of (by_class types all_imports)) (subst (λ k. Contains (keys_of (by_class types all_imports)) k) (ap (λ (z : Entry). z.0) dep.5) there)

    pub imports_again : (HasTransitiveConflict uses exports → ⊥) → elaborated_imports types uses (by_class types all_imports) (elaborated_exports uses exports) ≡ by_class types all_imports
    imports_again no_conflict =
        let rest : List Entry = flat_map (export_needs uses outside) (elaborated_exports uses exports) in
        let nothing : fresh_entries (keys_of (by_class types all_imports)) rest ≡ [] = (ap (λ xs. fresh_entries (keys_of (by_class types all_imports)) xs) (sym (append-nil rest))) ∙ fresh_entries-all_known (keys_of (by_class types all_imports)) rest [] exports_known in
        let joined : fresh_entries [] (flat_map (import_with_needs types uses) (by_class types all_imports) ++ rest) ≡ by_class types all_imports =
        fresh_entries-append [] (flat_map (import_with_needs types uses) (by_class types all_imports)) rest ∙ rw (imports_absorbed no_conflict, nothing) (append-nil (by_class types all_imports)) in
        let kept : List Entry = elaborated_exports uses exports in
        ap (λ (t : ℕ → Bool). by_class types (fresh_entries [] (flat_map (import_with_needs types uses) (by_class types (by_class types all_imports)) ++ flat_map (export_needs uses (λ j. not (t j))) kept))) (test_same types uses acyclic imports exports listed)
        ∙ ap (λ (es : List Entry). by_class types (fresh_entries [] (flat_map (import_with_needs types uses) es ++ rest))) (by_class-by_class types all_imports)
        ∙ ap (by_class types) joined
        ∙ by_class-by_class types all_imports

    -- an exported key before is one after, and the other way round
    key_kept : (j : ℕ) → Contains (exported_keys exports) j → Contains (exported_keys (elaborated_exports uses exports)) j
    key_kept j has = contains_from_any j _ (ap (λ (t : ℕ → Bool). t j) (test_same types uses acyclic imports exports listed) ∙ any_from_contains j _ has)

    key_before : (j : ℕ) → Contains (exported_keys (elaborated_exports uses exports)) j → Contains (exported_keys exports) j
    key_before j has = contains_from_any j _ (sym (ap (λ (t : ℕ → Bool). t j) (test_same types uses acyclic imports exports listed)) ∙ any_from_contains j _ has)

    pub no_conflict_again : HasTransitiveConflict uses (elaborated_exports uses exports) → HasTransitiveConflict uses exports
    no_conflict_again conflict =
        let at = Contains-flat_map_cases (λ (e : Entry). item_interface e.1) (elaborated_exports uses exports) conflict.0 conflict.2 in
        let old = exported_before at.0 conflict.0 at.1.0 at.1.1 in
        let between = conflict.4 in (
          conflict.0,
          conflict.1,
          Contains-flat_map (λ (e : Entry). item_interface e.1) exports old.0 conflict.0 old.1.0 old.1.1,
          conflict.3,
          (λ has. between.0 (key_kept conflict.1 has), between.1, between.2, key_before between.1 between.3),
        )

    pub imports_first : (HasTransitiveConflict uses exports → ⊥) → DependenciesFirst types uses [] (by_class types all_imports)
    imports_first no_conflict = DependenciesFirst-by_class types uses all_imports (λ f i has. (import_fine f has).own i) (all_imports_first no_conflict)
