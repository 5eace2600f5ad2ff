-- The imports are exactly what paths define, whatever the order of the entries.
use Rattle.std.proofs.Common.{◌≡◌, ℕ, ◌<◌, ◌⊎◌, inl, inr, List, [], ◌∷◌, ◌++◌, map, length, refl, sym, ap, subst, ◌∙◌, Contains}
use Rattle.std.proofs.lemmas.List.Elements.{Contains-append_cases, Contains-append_left, Contains-append_right, All-contains}
use Rattle.wit_data.specs.declared.types.TypeDef.{TypeDef}
use Rattle.wit_data.specs.declared.world.WorldItem.{WorldItem}
use Rattle.wit_data.specs.declared.world.WorldKey.{WorldKey}
use Rattle.wit_data.specs.declared.world.WorldItem.TheVariants as item
use Rattle.wit_data.specs.declared.world.WorldKey.TheVariants.{Name, Interface}
use Rattle.wit_digraph.specs.facts.MemberFacts.{Contains-nil, Contains-here, Contains-cons_cases, Contains-flat_map, Contains-flat_map_cases}
use Rattle.wit_digraph.specs.facts.PostOrderFacts.{Reaches-from_post_order, post_order-from_IsPath}
use Rattle.wit_digraph.specs.Relation.{direct, IsPath, Reaches, IsAcyclic}
use Rattle.wit_digraph.specs.PostOrder.{post_order}
use Rattle.wit_elaboration.specs.Entries.{Entry, Role, Instance, TypeUse, TypeDefinition, FreeFunction, ResourceFunction, role_of, item_interface, key_interface, keyed_interfaces, by_class}
use Rattle.wit_elaboration.specs.Elaborated.{dependency_of, dependencies_before, inherited_by_import, inherited_by_export, without_span, import_with_needs, export_needs}
use Rattle.wit_elaboration.specs.Imported.{HasTransitiveConflict}
use Rattle.wit_elaboration.specs.laws.Imports.{Needed, roots_of, IsImported}
use Rattle.wit_elaboration.specs.Sound.{IsRoleInRange}
use Rattle.wit_elaboration.specs.facts.Classes.{by_class_in, in_by_class}
use Rattle.wit_elaboration.proofs.ElaboratedIs.{own_keys}
use Rattle.wit_elaboration.proofs.ExportedKeys.{key_here, id_inj}
use Rattle.wit_elaboration.specs.facts.FreshEntries.{Contains-keys, Contains-deps, deps-Contains, fresh_entries_in, fresh_entries_all}
use Rattle.wit_elaboration.proofs.ImportsAgain.{from_imports, from_exports, all_imports, export_import, import_export, outside}
use Rattle.wit_elaboration.proofs.Needs.{needed_off, outside_needed, reached_uses}
use Rattle.wit_elaboration.proofs.Roles.{InOrder, role_from_instance}

-- what an import's walk lists is reached from its roots
needs_reached : (uses : List (List ℕ)) → IsAcyclic uses → (key : WorldKey) (role : Role) (j : ℕ) → IsRoleInRange (length uses) role → ((i : ℕ) → key ≡ Interface i → role ≡ Instance i) →
    Contains (dependencies_before uses role) j → (r : ℕ) × (Contains (roots_of uses key role) r × Reaches uses r j)
needs_reached uses acyclic (Interface k) (Instance i) j inside own has =
    let part = Contains-flat_map_cases (post_order uses) (direct uses i) j has in
    let path = Reaches-from_post_order uses acyclic part.0 (All-contains (λ x. x < length uses) (direct uses i) part.0 (acyclic.in_range i) part.1.0) j part.1.1 in
    (i, (Contains-here i [], (part.0 ∷ path.0, (part.1.0, path.1))))
needs_reached uses acyclic (Name n) (Instance i) j inside own has =
    let part = Contains-flat_map_cases (post_order uses) (direct uses i) j has in
    (part.0, (part.1.0, Reaches-from_post_order uses acyclic part.0 (All-contains (λ x. x < length uses) (direct uses i) part.0 (acyclic.in_range i) part.1.0) j part.1.1))
needs_reached uses acyclic key (TypeUse i) j inside own has = (i, (Contains-here i [], Reaches-from_post_order uses acyclic i inside j has))
needs_reached uses acyclic key TypeDefinition j inside own has = absurd (Contains-nil has)
needs_reached uses acyclic key FreeFunction j inside own has = absurd (Contains-nil has)
needs_reached uses acyclic key ResourceFunction j inside own has = absurd (Contains-nil has)

-- and what is reached from its roots is in its walk, or is its own key
reached_needs : (uses : List (List ℕ)) → IsAcyclic uses → (key : WorldKey) (role : Role) (r j : ℕ) → IsRoleInRange (length uses) role → ((i : ℕ) → key ≡ Interface i → role ≡ Instance i) →
    Contains (roots_of uses key role) r → Reaches uses r j → Contains (dependencies_before uses role) j ⊎ (key ≡ Interface j)
reached_needs uses acyclic (Interface k) (Instance i) r j inside own root reached =
    elim (Contains-cons_cases i r [] root) [
      | inl same ↦ along reached.0 (subst (λ x. IsPath uses x reached.0 j) (sym same) reached.1)
      | inr none ↦ absurd (Contains-nil none)
    ]
  where
    instance_same : {a b : ℕ} → Instance a ≡ Instance b → a ≡ b
    instance_same same = cc

    along : (path : List ℕ) → IsPath uses i path j → Contains (dependencies_before uses (Instance i)) j ⊎ (Interface k ≡ Interface j)
    along [] same = inr (ap (λ x. Interface x) (sym (instance_same (own k refl)) ∙ same))
    along (d ∷ path) leads = inl (Contains-flat_map (post_order uses) (direct uses i) d j leads.0 (post_order-from_IsPath uses acyclic d path j (All-contains (λ x. x < length uses) (direct uses i) d (acyclic.in_range i) leads.0) leads.1))
reached_needs uses acyclic (Name n) (Instance i) r j inside own root reached =
    inl (Contains-flat_map (post_order uses) (direct uses i) r j root (post_order-from_IsPath uses acyclic r reached.0 j (All-contains (λ x. x < length uses) (direct uses i) r (acyclic.in_range i) root) reached.1))
reached_needs uses acyclic key (TypeUse i) r j inside own root reached =
    elim (Contains-cons_cases i r [] root) [
      | inl same ↦ inl (post_order-from_IsPath uses acyclic i reached.0 j inside (subst (λ x. IsPath uses x reached.0 j) (sym same) reached.1))
      | inr none ↦ absurd (Contains-nil none)
    ]
reached_needs uses acyclic key TypeDefinition r j inside own root reached = absurd (Contains-nil root)
reached_needs uses acyclic key FreeFunction r j inside own root reached = absurd (Contains-nil root)
reached_needs uses acyclic key ResourceFunction r j inside own root reached = absurd (Contains-nil root)

-- an item is one interface at most
instance_one : (x : WorldItem) (i : ℕ) → Contains (item_interface x) i → item_interface x ≡ i ∷ []
instance_one (item.Interface j stability docs span external_id) i has = elim (Contains-cons_cases j i [] has) [ inl same ↦ ap (λ k. k ∷ []) same | inr none ↦ absurd (Contains-nil none) ]
instance_one (item.Function function) i has = absurd (Contains-nil has)
instance_one (item.Type_ id span) i has = absurd (Contains-nil has)

module _ (types : List TypeDef) where
  -- an exported interface is in range
  pub instance_below : (interfaces : ℕ) (e : Entry) (x : ℕ) → Contains (item_interface e.1) x → IsRoleInRange interfaces (role_of types e.1) → x < interfaces
  instance_below interfaces e x has inside =
      let role = role_from_instance types e.1 x (instance_one e.1 x has) in
      let inside' : IsRoleInRange interfaces (Instance x) = subst (λ r. IsRoleInRange interfaces r) role inside in
      inside'

  module _ (uses : List (List ℕ)) (acyclic : IsAcyclic uses) (imports exports : List Entry) (listed : InOrder types (length uses) imports exports) where
    abbrev made : List Entry
    made = all_imports types uses acyclic imports exports listed

    imported_by : (e : Entry) (j r : ℕ) → Contains imports e → Contains (roots_of uses e.0 (role_of types e.1)) r → Reaches uses r j → IsImported types uses imports exports j
    imported_by e j r has root reached = inr (r, Contains-flat_map (λ (e : Entry). roots_of uses e.0 (role_of types e.1)) imports e r has root, reached)

    own_root : (e : Entry) (j : ℕ) → e.0 ≡ Interface j → (role_of types e.1) ≡ Instance j → Contains (roots_of uses e.0 (role_of types e.1)) j
    own_root e j key item = rw (key, item) (Contains-here j [])

    pub exact_to : (j : ℕ) → Contains (keyed_interfaces (by_class types made)) j → IsImported types uses imports exports j
    exact_to j has =
        let at = Contains-flat_map_cases (λ (e : Entry). key_interface e.0) (by_class types made) j has in
        let key = key_here at.0.0 j at.1.1 in
        elim (Contains-append_cases (from_imports types uses acyclic imports exports listed) (from_exports types uses acyclic imports exports listed) at.0 (fresh_entries_in [] _ at.0 (by_class_in types made at.0 at.1.0))) [
          | inl of_import ↦
              let part = Contains-flat_map_cases (import_with_needs types uses) (by_class types imports) at.0 of_import in
              let root = by_class_in types imports part.0 part.1.0 in
              elim (Contains-append_cases (map (dependency_of (inherited_by_import types part.0.1)) (dependencies_before uses (role_of types part.0.1))) ((part.0.0, without_span part.0.1) ∷ []) at.0 part.1.1) [
                | inl deps ↦
                    let dep = Contains-deps (inherited_by_import types part.0.1) (dependencies_before uses (role_of types part.0.1)) at.0 deps in
                    let same : dep.0 ≡ j = id_inj (ap (λ (z : Entry). z.0) dep.1.1 ∙ key) in
                    let on = needs_reached uses acyclic part.0.0 (role_of types part.0.1) j (listed.imports_in_range part.0 root) (λ i. listed.own_imports part.0 i root) (subst (λ x. Contains (dependencies_before uses (role_of types part.0.1)) x) same dep.1.0) in
                    imported_by part.0 j on.0 root on.1.0 on.1.1
                | inr last ↦ elim (Contains-cons_cases (part.0.0, without_span part.0.1) at.0 [] last) [
                  | inl same ↦ let own : part.0.0 ≡ Interface j = ap (λ (z : Entry). z.0) same ∙ key in
                      imported_by part.0 j j root (own_root part.0 j own (listed.own_imports part.0 j root own)) ([], refl)
                  | inr none ↦ absurd (Contains-nil none)
                ]
              ]
          | inr of_export ↦
              let part = Contains-flat_map_cases (export_needs uses (outside types uses acyclic imports exports listed)) exports at.0 of_export in
              let dep = export_import types uses acyclic imports exports listed part.0 at.0 part.1.1 in
              let exported = Contains-flat_map (λ (e : Entry). item_interface e.1) exports part.0 dep.0 part.1.0 dep.2 in
              let same : dep.1 ≡ j = id_inj (ap (λ (z : Entry). z.0) dep.5 ∙ key) in
              inl (subst (Needed uses exports) same (outside_needed uses acyclic exports (own_keys types uses acyclic imports exports listed) dep.0 dep.1 exported dep.3 dep.4))
        ]

    listed_id : (e : Entry) (j : ℕ) → Contains (from_imports types uses acyclic imports exports listed ++ from_exports types uses acyclic imports exports listed) e → e.0 ≡ Interface j → Contains (keyed_interfaces (by_class types made)) j
    listed_id e j has key =
        let at = Contains-keys made e.0 (fresh_entries_all [] (from_imports types uses acyclic imports exports listed ++ from_exports types uses acyclic imports exports listed) e has) in
        Contains-flat_map (λ (e : Entry). key_interface e.0) (by_class types made) at.0 j (in_by_class types made at.0 at.1.0) (subst (λ k. Contains (key_interface k) j) (sym (at.1.1 ∙ key)) (Contains-here j []))

    pub exact_from : (HasTransitiveConflict uses exports → ⊥) → (j : ℕ) → IsImported types uses imports exports j → Contains (keyed_interfaces (by_class types made)) j
    exact_from no_conflict j (inl need) =
        let part = Contains-flat_map_cases (λ (e : Entry). item_interface e.1) exports need.0 need.2 in
        let off = needed_off uses acyclic exports (own_keys types uses acyclic imports exports listed) no_conflict j need in
        let made_of : Entry = dependency_of (inherited_by_export part.0.1) j in
        listed_id made_of j
        (Contains-append_right (from_imports types uses acyclic imports exports listed) (from_exports types uses acyclic imports exports listed) made_of
        (Contains-flat_map (export_needs uses (outside types uses acyclic imports exports listed)) exports part.0 made_of part.1.0
        (import_export types uses acyclic imports exports listed part.0 need.0 j part.1.1 (reached_uses uses acyclic need.0 need.1 j need.3 need.5) off))) refl
    exact_from no_conflict j (inr need) =
        let part = Contains-flat_map_cases (λ (e : Entry). roots_of uses e.0 (role_of types e.1)) imports need.0 need.1 in
        let root = in_by_class types imports part.0 part.1.0 in
        let left = from_imports types uses acyclic imports exports listed in
        let right = from_exports types uses acyclic imports exports listed in
        elim (reached_needs uses acyclic part.0.0 (role_of types part.0.1) need.0 j (listed.imports_in_range part.0 part.1.0) (λ i. listed.own_imports part.0 i part.1.0) part.1.1 need.2) [
          | inl dep ↦ listed_id (dependency_of (inherited_by_import types part.0.1) j) j
              (Contains-append_left left right (dependency_of (inherited_by_import types part.0.1) j)
              (Contains-flat_map (import_with_needs types uses) (by_class types imports) part.0 (dependency_of (inherited_by_import types part.0.1) j) root
              (Contains-append_left _ ((part.0.0, without_span part.0.1) ∷ []) (dependency_of (inherited_by_import types part.0.1) j) (deps-Contains (inherited_by_import types part.0.1) (dependencies_before uses (role_of types part.0.1)) j dep)))) refl
          | inr own ↦ listed_id (part.0.0, without_span part.0.1) j
              (Contains-append_left left right (part.0.0, without_span part.0.1)
              (Contains-flat_map (import_with_needs types uses) (by_class types imports) part.0 (part.0.0, without_span part.0.1) root
              (Contains-append_right _ ((part.0.0, without_span part.0.1) ∷ []) (part.0.0, without_span part.0.1) (Contains-here (part.0.0, without_span part.0.1) [])))) own
        ]
