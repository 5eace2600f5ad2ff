-- What the passes over imports and exports made is the elaboration.
use Rattle.std.proofs.Common.{◌≡◌, ℕ, ◌<◌, Bool, false, not, inl, inr, List, [], ◌∷◌, ◌++◌, map, filter, length, append_assoc, refl, sym, ap, subst, ◌∙◌, Contains, All}
use Rattle.std.specs.List.{flat_map, list_any, IsDistinct}
use Rattle.std.specs.Map.{keys_of}
use Rattle.std.proofs.lemmas.Bool.{cases_Bool, false≢true, false_from_ne_true}
use Rattle.std.proofs.lemmas.List.{append-nil}
use Rattle.std.proofs.lemmas.List.Elements.{Contains-append_cases, Contains-append_right, Contains-get_or}
use Rattle.wit_data.specs.declared.types.TypeDef.{TypeDef}
use Rattle.wit_data.specs.declared.world.WorldItem.{WorldItem}
use Rattle.wit_data.specs.declared.world.WorldKey.{WorldKey}
use Rattle.wit_data.specs.declared.world.WorldItem.TheVariants as item
use Rattle.wit_data.specs.declared.world.WorldKey.TheVariants.{Interface}
use Rattle.wit_data.specs.contracts.world.WorldKeyPartialEq.TheImpl.{eq-value}
use Rattle.wit_digraph.specs.facts.FreshFacts.{any_from_contains, contains_from_any}
use Rattle.wit_digraph.specs.facts.MemberFacts.{Contains-nil, Contains-here, Contains-there, Contains-cons_cases, Contains-flat_map, Contains-flat_map_cases}
use Rattle.wit_digraph.specs.Relation.{IsAcyclic}
use Rattle.wit_digraph.specs.steps.PostOrder.{Listed}
use Rattle.wit_elaboration.specs.Elaborated.{dependency_of, export_needs, inherited_by_export, import_with_needs, elaborated_imports, elaborated_exports}
use Rattle.wit_elaboration.specs.steps.Elaborating.{IsExportedList, is_listed}
use Rattle.wit_elaboration.specs.Entries.{Entry, role_of, item_interface, key_interface, same_key, by_class, fresh_entries}
use Rattle.wit_elaboration.specs.Imported.{is_exported}
use Rattle.wit_elaboration.specs.Sound.{IsRoleInRange}
use Rattle.wit_elaboration.proofs.ExportedKeys.{key_here}
use Rattle.wit_elaboration.specs.facts.Filters.{Contains-filter, not_true}
use Rattle.wit_elaboration.proofs.FirstClasses.{AllNew-from_distinct}
use Rattle.wit_elaboration.specs.facts.FreshEntries.{AllNew-filter, AllNew-one, Contains-keys, Contains-deps, contains_from_known, known_from_contains, fresh_entries-known, fresh_entries-new, fresh_entries-all_new, fresh_entries-next}
use Rattle.wit_elaboration.proofs.Roles.{InOrder, instance_from_role, is_instance_from_role}
use Rattle.wit_elaboration.specs.steps.Parts.{export_with_needs, interface_needs, is_interface, exported_keys, exported_interfaces}

-- keys that no entry has don't matter
fresh_entries-apart : (ks seen : List WorldKey) (es : List Entry) → ((e : Entry) → Contains es e → Contains ks e.0 → ⊥) → fresh_entries (ks ++ seen) es ≡ fresh_entries seen es
fresh_entries-apart ks seen [] apart = refl
fresh_entries-apart ks seen (e ∷ es) apart =
    elim (cases_Bool (list_any (same_key e.0) seen)) [
      | inl known ↦
          rw (fresh_entries-known seen e es known, fresh_entries-known (ks ++ seen) e es (known_from_contains e.0 (ks ++ seen) (Contains-append_right ks seen e.0 (contains_from_known e.0 seen known))))
          (fresh_entries-apart ks seen es (λ f has. apart f (Contains-there e f es has)))
      | inr new ↦
          let lacking : list_any (same_key e.0) (ks ++ seen) ≡ false =
          false_from_ne_true (list_any (same_key e.0) (ks ++ seen)) (λ known. elim (Contains-append_cases ks seen e.0 (contains_from_known e.0 (ks ++ seen) known)) [
            | inl other ↦ apart e (Contains-here e es) other
            | inr old ↦ false≢true (sym new ∙ known_from_contains e.0 seen old)
          ]) in
          rw (fresh_entries-new seen e es new, fresh_entries-new (ks ++ seen) e es lacking, append_assoc ks seen (e.0 ∷ []))
          (ap (λ (xs : List Entry). e ∷ xs) (fresh_entries-apart ks (seen ++ e.0 ∷ []) es (λ f has. apart f (Contains-there e f es has))))
    ]

-- what is listed as exported is exported
pub listed_is : (exported : Listed) (exports : List Entry) → IsExportedList exported.order exports → is_listed exported ≡ is_exported exports
listed_is exported exports tells = λ at i. same i at
  where
    same : (i : ℕ) → is_listed exported i ≡ is_exported exports i
    same i =
        elim (cases_Bool (is_exported exports i)) [
          | inl on ↦ any_from_contains i exported.order ((tells i).1 (contains_from_any i (exported_keys exports) on)) ∙ sym on
          | inr off ↦ false_from_ne_true (is_listed exported i) (λ on. false≢true (sym off ∙ any_from_contains i (exported_keys exports) ((tells i).0 (contains_from_any i exported.order on)))) ∙ sym off
        ]

module _ (types : List TypeDef) (uses : List (List ℕ)) (acyclic : IsAcyclic uses) (imports exports : List Entry) (listed : InOrder types (length uses) imports exports) where
  -- an exported key is an exported interface, in range
  pub own_keys : (j : ℕ) → Contains (exported_keys exports) j → Contains (exported_interfaces exports) j
  own_keys j has =
      let part = Contains-flat_map_cases (λ (e : Entry). key_interface e.0) exports j has in
      let role = listed.own_exports part.0 j part.1.0 (key_here part.0.0 j part.1.1) in
      Contains-flat_map (λ (e : Entry). item_interface e.1) exports part.0 j part.1.0 (subst (λ xs. Contains xs j) (sym (instance_from_role types part.0.1 j role)) (Contains-here j []))

  instance_below : (x : WorldItem) (i : ℕ) → Contains (item_interface x) i → IsRoleInRange (length uses) (role_of types x) → i < length uses
  instance_below (item.Interface k stability docs span external_id) i has inside = elim (Contains-cons_cases k i [] has) [ inl same ↦ subst (λ m. m < length uses) same inside | inr none ↦ absurd (Contains-nil none) ]
  instance_below (item.Function function) i has inside = absurd (Contains-nil has)
  instance_below (item.Type_ id span) i has inside = absurd (Contains-nil has)

  pub interface_below : (i : ℕ) → Contains (exported_interfaces exports) i → i < length uses
  interface_below i has =
      let part = Contains-flat_map_cases (λ (e : Entry). item_interface e.1) exports i has in
      instance_below part.0.1 i part.1.1 (listed.exports_in_range part.0 part.1.0)

  pub interfaces_below : All (λ i. i < length uses) (exported_interfaces exports)
  interfaces_below = λ k d below. interface_below _ (Contains-get_or (exported_interfaces exports) k d below)

  pub keys_below : All (λ i. i < length uses) (exported_keys exports)
  keys_below = λ k d below. interface_below _ (own_keys _ (Contains-get_or (exported_keys exports) k d below))

  abbrev E : ℕ → Bool
  E = is_exported exports

  abbrev functions : List Entry
  functions = filter (λ (e : Entry). not (is_interface e)) exports

  -- no function has the key of an interface that is exported
  functions_apart : IsDistinct eq-value.it (keys_of exports) → (e : Entry) → Contains (flat_map (export_with_needs uses E) (filter is_interface exports)) e → Contains (keys_of functions) e.0 → ⊥
  functions_apart distinct e has among =
      let f = Contains-keys functions e.0 among in
      let old = Contains-filter (λ (g : Entry). not (is_interface g)) exports f.0 f.1.0 in
      let part = Contains-flat_map_cases (export_with_needs uses E) (filter is_interface exports) e has in
      let root = Contains-filter is_interface exports part.0 part.1.0 in
      let nodes : List ℕ = filter E (interface_needs uses part.0) in
      elim (Contains-append_cases (map (dependency_of (inherited_by_export part.0.1)) nodes) (part.0 ∷ []) e part.1.1) [
        | inl deps ↦
            let dep = Contains-deps (inherited_by_export part.0.1) nodes e deps in
            let key : f.0.0 ≡ Interface dep.0 = f.1.1 ∙ ap (λ (z : Entry). z.0) (sym dep.1.1) in
            let on = is_instance_from_role types f.0.1 dep.0 (listed.own_exports f.0 dep.0 old.0 key) in
            false≢true (sym (not_true (is_interface f.0) old.1) ∙ on)
        | inr last ↦ elim (Contains-cons_cases part.0 e [] last) [
          | inl same ↦
              let one = AllNew-one exports [] f.0 part.0 (AllNew-from_distinct exports distinct) old.0 root.0 (f.1.1 ∙ ap (λ (z : Entry). z.0) (sym same)) in
              false≢true (sym (not_true (is_interface f.0) old.1) ∙ ap (λ (z : Entry). is_interface z) one ∙ root.1)
          | inr none ↦ Contains-nil none
        ]
      ]

  -- what the passes made
  pub exports_are : IsDistinct eq-value.it (keys_of exports) → (start done : List Entry) → start ≡ fresh_entries [] functions → done ≡ start ++ fresh_entries (keys_of start) (flat_map (export_with_needs uses E) (filter is_interface exports)) →
      done ≡ elaborated_exports uses exports
  exports_are distinct start done start_is done_is =
      let all : start ≡ functions = start_is ∙ fresh_entries-all_new [] functions (AllNew-filter (λ (e : Entry). not (is_interface e)) exports [] [] (λ k had. had) (AllNew-from_distinct exports distinct)) in
      let post_orders : List Entry = flat_map (export_with_needs uses E) (filter is_interface exports) in
      let apart : fresh_entries (keys_of functions) post_orders ≡ fresh_entries [] post_orders =
      ap (λ (ks : List WorldKey). fresh_entries ks post_orders) (sym (append-nil (keys_of functions))) ∙ fresh_entries-apart (keys_of functions) [] post_orders (functions_apart distinct) in
      done_is ∙ rw (all, apart) refl

  pub imports_are : (start all sorted : List Entry) → start ≡ fresh_entries [] (flat_map (import_with_needs types uses) (by_class types imports)) → all ≡ start ++ fresh_entries (keys_of start) (flat_map (export_needs uses (λ j. not (E j))) exports) →
      sorted ≡ by_class types all → sorted ≡ elaborated_imports types uses imports exports
  imports_are start all sorted start_is all_is sorted_is =
      let joined : all ≡ fresh_entries [] (flat_map (import_with_needs types uses) (by_class types imports) ++ flat_map (export_needs uses (λ j. not (E j))) exports) =
      fresh_entries-next [] start all (flat_map (import_with_needs types uses) (by_class types imports)) (flat_map (export_needs uses (λ j. not (E j))) exports) start_is
      all_is in
      sorted_is ∙ ap (λ (xs : List Entry). by_class types xs) joined
