-- More interfaces, and other types that say the same of the imports, change no elaboration.
use Rattle.std.proofs.Common.{◌≡◌, ℕ, ◌<◌, Bool, not, inl, inr, List, [], ◌∷◌, ◌++◌, map, filter, length, refl, sym, ap, subst, ◌∙◌, nat_eq, Contains}
use Rattle.std.specs.List.{flat_map}
use Rattle.std.proofs.lemmas.List.Elements.{Contains-append_cases}
use Rattle.wit_data.specs.declared.types.TypeDef.{TypeDef}
use Rattle.wit_data.specs.declared.world.World.{World}
use Rattle.wit_digraph.specs.facts.MemberFacts.{Contains-nil, Contains-cons_cases, Contains-flat_map_cases, flat_map-same}
use Rattle.wit_digraph.specs.Relation.{direct, IsAcyclic}
use Rattle.wit_elaboration.specs.Entries.{Entry, role_of, item_interface, elaboration_class, by_class, fresh_entries}
use Rattle.wit_elaboration.specs.Elaborated.{InheritedData, dependency_of, dependencies_before, inherited_by_import, inherited_by_export, without_span, import_with_needs, export_needs, elaborated_imports, elaborated_exports}
use Rattle.wit_elaboration.specs.Imported.{HasTransitiveConflict, is_exported}
use Rattle.wit_elaboration.specs.laws.KeptByElaboration.{ElaborationIsLocal, SameRoles, SameInheritedData}
use Rattle.wit_elaboration.specs.facts.Classes.{by_class_in}
use Rattle.wit_elaboration.proofs.Exact.{instance_below}
use Rattle.wit_elaboration.specs.facts.Filters.{Contains-filter, filter-same}
use Rattle.wit_elaboration.specs.facts.FreshEntries.{Contains-deps, fresh_entries_in}
use Rattle.wit_elaboration.proofs.GrowingUses.{direct-left, used_below, IsPath-left, dependencies_before-left, interface_needs-left}
use Rattle.wit_elaboration.proofs.Roles.{InOrder, in_order, role_of-without_span}
use Rattle.wit_elaboration.specs.steps.Parts.{of_class, export_with_needs, interface_needs, is_interface}

module _ (types wider : List TypeDef) where
  -- ---- classes

  pub of_class-same : (es : List Entry) → SameRoles types wider es → (c : ℕ) → of_class types c es ≡ of_class wider c es
  of_class-same es same c =
      filter-same (λ (e : Entry). nat_eq (elaboration_class (role_of types e.1)) c) (λ (e : Entry). nat_eq (elaboration_class (role_of wider e.1)) c) es
      (λ e has. ap (λ r. nat_eq (elaboration_class r) c) (same e has))

  pub by_class-same : (es : List Entry) → SameRoles types wider es → by_class types es ≡ by_class wider es
  by_class-same es same = flat_map-same (λ c. of_class types c es) (λ c. of_class wider c es) (0 ∷ 1 ∷ 2 ∷ 3 ∷ 4 ∷ []) (λ c has. of_class-same es same c)

  module _ (uses rows : List (List ℕ)) (acyclic : IsAcyclic uses) (grown : IsAcyclic (uses ++ rows)) (imports exports : List Entry) (listed : InOrder types (length uses) imports exports) where
    -- ---- conflicts

    exported_below : (x : ℕ) → Contains (flat_map (λ (e : Entry). item_interface e.1) exports) x → x < length uses
    exported_below x has =
        let part = Contains-flat_map_cases (λ (e : Entry). item_interface e.1) exports x has in
        instance_below types (length uses) part.0 x part.1.1 (listed.exports_in_range part.0 part.1.0)

    pub HasTransitiveConflict-left : HasTransitiveConflict (uses ++ rows) exports → HasTransitiveConflict uses exports
    HasTransitiveConflict-left conflict =
        let among : Contains (direct uses conflict.0) conflict.1 = subst (λ ks. Contains ks conflict.1) (direct-left uses rows conflict.0 (exported_below conflict.0 conflict.2)) conflict.3 in
        let between = conflict.4 in
        let path = IsPath-left uses acyclic rows conflict.1 between.2.0 between.1 (used_below uses acyclic conflict.0 conflict.1 among) between.2.1 in
        (conflict.0, conflict.1, conflict.2, among, (between.0, between.1, (between.2.0, path), between.3))

    -- ---- what an export needs

    needs-same : (e : Entry) → Contains exports e → interface_needs uses e ≡ interface_needs (uses ++ rows) e
    needs-same e has = sym (interface_needs-left uses acyclic rows grown e (λ i among. instance_below types (length uses) e i among (listed.exports_in_range e has)))

    export_needs-same : (picks : ℕ → Bool) (e : Entry) → Contains exports e → export_needs uses picks e ≡ export_needs (uses ++ rows) picks e
    export_needs-same picks e has = ap (λ (js : List ℕ). map (dependency_of (inherited_by_export e.1)) (filter picks js)) (needs-same e has)

    abbrev outside : ℕ → Bool
    outside j = not (is_exported exports j)

    -- ---- imports

    module _ (roles : SameRoles types wider imports) (carried : SameInheritedData types wider imports) where
      import_with_needs-same : (e : Entry) → Contains imports e → import_with_needs types uses e ≡ import_with_needs wider (uses ++ rows) e
      import_with_needs-same e has =
          ap (λ (s : InheritedData). map (dependency_of s) (dependencies_before uses (role_of types e.1)) ++ (e.0, without_span e.1) ∷ []) (carried e has)
          ∙ ap (λ (js : List ℕ). map (dependency_of (inherited_by_import wider e.1)) js ++ (e.0, without_span e.1) ∷ [])
          (sym (dependencies_before-left uses acyclic rows grown (role_of types e.1) (listed.imports_in_range e has)) ∙ ap (dependencies_before (uses ++ rows)) (roles e has))

      -- what is made has the same role too
      walk_roles : (e : Entry) → Contains imports e → SameRoles types wider (import_with_needs types uses e)
      walk_roles e has f there =
          elim (Contains-append_cases (map (dependency_of (inherited_by_import types e.1)) (dependencies_before uses (role_of types e.1))) ((e.0, without_span e.1) ∷ []) f there) [
            | inl deps ↦ let dep = Contains-deps (inherited_by_import types e.1) (dependencies_before uses (role_of types e.1)) f deps in
                subst (λ (z : Entry). role_of types z.1 ≡ role_of wider z.1) dep.1.1 refl
            | inr last ↦ elim (Contains-cons_cases (e.0, without_span e.1) f [] last) [
              | inl same ↦ subst (λ (z : Entry). role_of types z.1 ≡ role_of wider z.1) same (role_of-without_span types e.1 ∙ roles e has ∙ sym (role_of-without_span wider e.1))
              | inr none ↦ absurd (Contains-nil none)
            ]
          ]

      export_roles : (e : Entry) → SameRoles types wider (export_needs uses outside e)
      export_roles e f there =
          let dep = Contains-deps (inherited_by_export e.1) (filter outside (interface_needs uses e)) f there in
          subst (λ (z : Entry). role_of types z.1 ≡ role_of wider z.1) dep.1.1 refl

      abbrev before : List Entry
      before =
          flat_map (import_with_needs types uses) (by_class types imports)
          ++ flat_map (export_needs uses outside) exports

      before_roles : SameRoles types wider (fresh_entries [] before)
      before_roles f has =
          elim (Contains-append_cases (flat_map (import_with_needs types uses) (by_class types imports)) (flat_map (export_needs uses outside) exports) f (fresh_entries_in [] before f has)) [
            | inl of_import ↦
                let part = Contains-flat_map_cases (import_with_needs types uses) (by_class types imports) f of_import in
                walk_roles part.0 (by_class_in types imports part.0 part.1.0) f part.1.1
            | inr of_export ↦
                let part = Contains-flat_map_cases (export_needs uses outside) exports f of_export in
                export_roles part.0 f part.1.1
          ]

      walks_same : flat_map (import_with_needs types uses) (by_class types imports) ≡ flat_map (import_with_needs wider (uses ++ rows)) (by_class wider imports)
      walks_same =
          flat_map-same (import_with_needs types uses) (import_with_needs wider (uses ++ rows)) (by_class types imports) (λ e has. import_with_needs-same e (by_class_in types imports e has))
          ∙ ap (flat_map (import_with_needs wider (uses ++ rows))) (by_class-same imports roles)

      all_needs_same : flat_map (export_needs uses outside) exports ≡ flat_map (export_needs (uses ++ rows) outside) exports
      all_needs_same = flat_map-same (export_needs uses outside) (export_needs (uses ++ rows) outside) exports (export_needs-same outside)

      pub imports_local : elaborated_imports types uses imports exports ≡ elaborated_imports wider (uses ++ rows) imports exports
      imports_local =
          by_class-same (fresh_entries [] before) before_roles
          ∙ ap (λ (es : List Entry). by_class wider (fresh_entries [] (es ++ flat_map (export_needs uses outside) exports))) walks_same
          ∙ ap (λ (es : List Entry). by_class wider (fresh_entries [] (flat_map (import_with_needs wider (uses ++ rows)) (by_class wider imports) ++ es))) all_needs_same

    -- ---- exports

    pub exports_local : elaborated_exports uses exports ≡ elaborated_exports (uses ++ rows) exports
    exports_local =
        ap (λ (es : List Entry). filter (λ (e : Entry). not (is_interface e)) exports ++ fresh_entries [] es)
        (flat_map-same (export_with_needs uses (is_exported exports)) (export_with_needs (uses ++ rows) (is_exported exports)) (filter is_interface exports)
        (λ e has. ap (λ (es : List Entry). es ++ e ∷ []) (export_needs-same (is_exported exports) e (Contains-filter is_interface exports e has).0)))

lists_same : (w : World) {i i' x x' : List Entry} → i ≡ i' → x ≡ x' → (let v : World = record w { imports = i; exports = x } in v) ≡ record w { imports = i'; exports = x' }
lists_same w p q = cc

pub elaboration_is_local : ElaborationIsLocal
elaboration_is_local types wider uses rows old new acyclic grown listed roles carried is =
    let order = in_order types (length uses) old.imports old.exports listed in
    record {
      no_conflict = λ conflict. is.no_conflict (HasTransitiveConflict-left types wider uses rows acyclic grown old.imports old.exports order conflict);
      world_is = is.world_is ∙ lists_same old (imports_local types wider uses rows acyclic grown old.imports old.exports order roles carried) (exports_local types wider uses rows acyclic grown old.imports old.exports order);
    }
