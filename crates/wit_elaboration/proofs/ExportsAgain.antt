-- Elaborated exports are their own elaboration.
use Rattle.std.proofs.Common.{◌≡◌, ℕ, ◌<◌, true, false, not, ◌⊎◌, inl, inr, List, [], ◌∷◌, ◌++◌, filter, length, refl, sym, ap, subst, ◌∙◌, Contains}
use Rattle.std.specs.List.{flat_map}
use Rattle.std.proofs.lemmas.List.{append-nil}
use Rattle.std.proofs.lemmas.Bool.{cases_Bool, false≢true, false_from_ne_true}
use Rattle.std.proofs.lemmas.List.Elements.{Contains-append_cases, Contains-append_right, filter-append}
use Rattle.wit_data.specs.declared.types.TypeDef.{TypeDef}
use Rattle.wit_digraph.specs.facts.MemberFacts.{Contains-nil, Contains-here, Contains-cons_cases, Contains-flat_map, Contains-flat_map_cases}
use Rattle.wit_digraph.specs.Relation.{IsAcyclic}
use Rattle.wit_elaboration.specs.Entries.{Entry, Instance, role_of, fresh_entries}
use Rattle.wit_elaboration.specs.Elaborated.{InheritedData, dependency_of, export_needs, inherited_by_export, elaborated_exports}
use Rattle.wit_elaboration.specs.Imported.{is_exported}
use Rattle.wit_elaboration.specs.Sound.{IsRoleInRange}
use Rattle.wit_elaboration.proofs.ExportedKeys.{exported_entry, entry_exported, id_inj}
use Rattle.wit_elaboration.proofs.NeedsFirst.{NeedsFirst-fresh, entries_need_first, needs_absorbed}
use Rattle.wit_elaboration.specs.facts.Filters.{Contains-filter, Contains-filtered, filter-all, filter-none, not_true}
use Rattle.wit_elaboration.specs.facts.FreshEntries.{Contains-keys, Contains-deps, fresh_entries_in, fresh_entries_all, fresh_entries-AllNew}
use Rattle.wit_elaboration.specs.facts.Order.{AreOwn}
use Rattle.wit_elaboration.proofs.Roles.{InOrder, is_instance_from_role}
use Rattle.wit_elaboration.specs.steps.Parts.{export_with_needs, interface_needs, is_interface}

module _ (types : List TypeDef) where
  module _ (uses : List (List ℕ)) (acyclic : IsAcyclic uses) (imports exports : List Entry) (listed : InOrder types (length uses) imports exports) where
    abbrev pub walked : List Entry
    walked = flat_map (export_with_needs uses (is_exported exports)) (filter is_interface exports)

    abbrev pub kept : List Entry
    kept = fresh_entries [] walked

    abbrev pub functions : List Entry
    functions = filter (λ (e : Entry). not (is_interface e)) exports

    -- an export that is made is listed, or is that of an exported interface
    pub made : (f : Entry) → Contains kept f → (Contains exports f × (is_interface f ≡ true)) ⊎ ((s : InheritedData) × (j : ℕ) × (dependency_of s j ≡ f) × (is_exported exports j ≡ true))
    made f has =
        let part = Contains-flat_map_cases (export_with_needs uses (is_exported exports)) (filter is_interface exports) f (fresh_entries_in [] walked f has) in
        let root = Contains-filter is_interface exports part.0 part.1.0 in
        elim (Contains-append_cases (export_needs uses (is_exported exports) part.0) (part.0 ∷ []) f part.1.1) [
          | inl deps ↦ let dep = Contains-deps (inherited_by_export part.0.1) (filter (is_exported exports) (interface_needs uses part.0)) f deps in
              inr ((inherited_by_export part.0.1), dep.0, dep.1.1, (Contains-filter (is_exported exports) (interface_needs uses part.0) dep.0 dep.1.0).1)
          | inr last ↦ elim (Contains-cons_cases part.0 f [] last)
              [ inl same ↦ inl (subst (λ z. Contains exports z) same root.0, subst (λ z. is_interface z ≡ true) same root.1) | inr none ↦ absurd (Contains-nil none) ]
        ]

    pub exports_same : (j : ℕ) → is_exported (functions ++ kept) j ≡ is_exported exports j
    exports_same j =
        elim (cases_Bool (is_exported exports j)) [
          | inl found ↦
              let e = exported_entry exports j found in
              let item = listed.own_exports e.0 j e.1.0 e.1.1 in
              let root : Contains (filter is_interface exports) e.0 = Contains-filtered is_interface exports e.0 e.1.0 (is_instance_from_role types e.0.1 j item) in
              let among : Contains walked e.0 = Contains-flat_map (export_with_needs uses (is_exported exports)) (filter is_interface exports) e.0 e.0 root (Contains-append_right _ (e.0 ∷ []) e.0 (Contains-here e.0 [])) in
              let key = Contains-keys kept e.0.0 (fresh_entries_all [] walked e.0 among) in
              entry_exported (functions ++ kept) key.0 j (Contains-append_right functions kept key.0 key.1.0) (key.1.1 ∙ e.1.1) ∙ sym found
          | inr absent ↦ false_from_ne_true (is_exported (functions ++ kept) j) (λ found.
              let e = exported_entry (functions ++ kept) j found in
              false≢true (sym absent ∙ elim (Contains-append_cases functions kept e.0 e.1.0) [
                | inl old ↦ entry_exported exports e.0 j (Contains-filter (λ (e : Entry). not (is_interface e)) exports e.0 old).0 e.1.1
                | inr new ↦ elim (made e.0 new) [
                  | inl own ↦ entry_exported exports e.0 j own.0 e.1.1
                  | inr dep ↦ subst (λ x. is_exported exports x ≡ true) (id_inj (ap (λ (z : Entry). z.0) dep.2 ∙ e.1.1)) dep.3
                ]
              ])) ∙ sym absent
        ]

    pub kept_interfaces : (f : Entry) → Contains kept f → is_interface f ≡ true
    kept_interfaces f has = elim (made f has) [ inl own ↦ own.1 | inr dep ↦ subst (λ z. is_interface z ≡ true) dep.2 refl ]

    pub functions_other : (f : Entry) → Contains functions f → is_interface f ≡ false
    functions_other f has = not_true (is_interface f) (Contains-filter (λ (e : Entry). not (is_interface e)) exports f has).1

    functions_again : filter (λ (e : Entry). not (is_interface e)) (functions ++ kept) ≡ functions
    functions_again =
        filter-append (λ (e : Entry). not (is_interface e)) functions kept
        ∙ rw (
          filter-all (λ (e : Entry). not (is_interface e)) functions (λ f has. (Contains-filter (λ (e : Entry). not (is_interface e)) exports f has).1),
          filter-none (λ (e : Entry). not (is_interface e)) kept (λ f has. ap not (kept_interfaces f has)),
          append-nil,
        ) refl

    kept_again : filter is_interface (functions ++ kept) ≡ kept
    kept_again =
        filter-append is_interface functions kept ∙ rw (filter-none is_interface functions functions_other, filter-all is_interface kept kept_interfaces) refl

    pub test_same : is_exported (functions ++ kept) ≡ is_exported exports
    test_same = λ i j. exports_same j i

    pub kept_own : AreOwn types kept
    kept_own f i has is = elim (made f has) [
      | inl own ↦ listed.own_exports f i own.0 is
      | inr dep ↦ sym (ap (λ (z : Entry). (role_of types z.1)) dep.2) ∙ ap (λ x. Instance x) (id_inj (ap (λ (z : Entry). z.0) dep.2 ∙ is))
    ]

    -- an exported interface is an export, in range
    pub exported_below : (j : ℕ) → is_exported exports j ≡ true → (e : Entry) × (Contains exports e × ((role_of types e.1) ≡ Instance j) × (j < length uses))
    exported_below j found =
        let e = exported_entry exports j found in
        let item = listed.own_exports e.0 j e.1.0 e.1.1 in
        (e.0, (e.1.0, item, subst (λ it. IsRoleInRange (length uses) it) item (listed.exports_in_range e.0 e.1.0)))

    pub kept_range : (f : Entry) → Contains kept f → IsRoleInRange (length uses) (role_of types f.1)
    kept_range f has = elim (made f has) [
      | inl own ↦ listed.exports_in_range f own.0
      | inr dep ↦ subst (λ (z : Entry). IsRoleInRange (length uses) (role_of types z.1)) dep.2 (exported_below dep.1 dep.3).1.2
    ]

    kept_absorbed : fresh_entries [] (flat_map (export_with_needs uses (is_exported exports)) kept) ≡ kept
    kept_absorbed =
        needs_absorbed uses acyclic (is_exported exports) kept [] (fresh_entries-AllNew [] walked)
        (NeedsFirst-fresh uses acyclic (is_exported exports) walked [] [] (λ k has. has) (entries_need_first uses acyclic (is_exported exports) (filter is_interface exports) []))

    pub exports_again : elaborated_exports uses (functions ++ kept) ≡ functions ++ kept
    exports_again = rw (functions_again, kept_again, test_same, kept_absorbed) refl
