-- Each elaborated entry was listed or is a dependency, and what a dependency is.
use Rattle.std.proofs.Common.{◌≡◌, ℕ, ◌<◌, ◌⊎◌, inl, inr, List, [], ◌∷◌, ◌++◌, map, length, not, sym, ap, subst, Contains}
use Rattle.std.proofs.lemmas.List.Elements.{Contains-append_cases, All-contains}
use Rattle.wit_data.specs.declared.types.TypeDef.{TypeDef}
use Rattle.wit_data.specs.declared.world.World.{World}
use Rattle.wit_digraph.specs.facts.FreshFacts.{contains_from_any}
use Rattle.wit_digraph.specs.facts.MemberFacts.{Contains-nil, Contains-here, Contains-cons_cases, Contains-flat_map, Contains-flat_map_cases}
use Rattle.wit_digraph.specs.facts.PostOrderFacts.{Reaches-from_post_order}
use Rattle.wit_digraph.specs.Relation.{direct, IsPath, IsAcyclic}
use Rattle.wit_digraph.specs.PostOrder.{post_order}
use Rattle.wit_elaboration.specs.Entries.{Entry, Role, Instance, TypeUse, TypeDefinition, FreeFunction, ResourceFunction, role_of, key_interface, by_class}
use Rattle.wit_elaboration.specs.Elaborated.{dependency_of, dependencies_before, inherited_by_import, inherited_by_export, without_span, import_with_needs, export_needs, elaborated_imports, elaborated_exports}
use Rattle.wit_elaboration.specs.laws.Imports.{IsImported}
use Rattle.wit_elaboration.specs.laws.KeptByElaboration.{ElaboratedEntries, IsListedWithoutSpan, IsMadeImport, IsMadeExport}
use Rattle.wit_elaboration.specs.Sound.{IsRoleInRange}
use Rattle.wit_elaboration.specs.facts.Classes.{by_class_in}
use Rattle.wit_elaboration.proofs.Exact.{exact_to}
use Rattle.wit_elaboration.proofs.ExportsAgain.{functions, kept, made}
use Rattle.wit_elaboration.specs.facts.Filters.{Contains-filter}
use Rattle.wit_elaboration.specs.facts.FreshEntries.{Contains-deps, fresh_entries_in}
use Rattle.wit_elaboration.proofs.ImportsAgain.{from_imports, from_exports, all_imports, export_import, outside}
use Rattle.wit_elaboration.proofs.Roles.{InOrder, in_order}
use Rattle.wit_elaboration.specs.steps.Parts.{is_interface, exported_keys}

-- some interface uses j directly
abbrev HasUser : List (List ℕ) → ℕ → Type 0
HasUser uses j = (i : ℕ) × Contains (direct uses i) j

module _ (uses : List (List ℕ)) (acyclic : IsAcyclic uses) where
  below : (i j : ℕ) → Contains (direct uses i) j → j < length uses
  below i j among = All-contains (λ x. x < length uses) (direct uses i) j (acyclic.in_range i) among

  -- what is reached is used, but where a path begins
  path_end : (i : ℕ) (path : List ℕ) (j : ℕ) → IsPath uses i path j → (i ≡ j) ⊎ HasUser uses j
  path_end i [] j same = inl same
  path_end i (k ∷ path) j leads = elim (path_end k path j leads.1)
      [ inl same ↦ inr (i, subst (λ m. Contains (direct uses i) m) same leads.0) | inr used ↦ inr used ]

  walk_end : (i j : ℕ) → i < length uses → Contains (post_order uses i) j → (i ≡ j) ⊎ HasUser uses j
  walk_end i j here has = let path = Reaches-from_post_order uses acyclic i here j has in path_end i path.0 j path.1

  use_walked : (i k j : ℕ) → Contains (direct uses i) k → Contains (post_order uses k) j → HasUser uses j
  use_walked i k j among has = elim (walk_end k j (below i k among) has)
      [ inl same ↦ (i, subst (λ m. Contains (direct uses i) m) same among) | inr used ↦ used ]

  uses_used : (i j : ℕ) → Contains (dependencies_before uses (Instance i)) j → HasUser uses j
  uses_used i j has = let part = Contains-flat_map_cases (post_order uses) (direct uses i) j has in use_walked i part.0 j part.1.0 part.1.1

  needs_used : (role : Role) (j : ℕ) → IsRoleInRange (length uses) role → Contains (dependencies_before uses role) j → HasUser uses j ⊎ (role ≡ TypeUse j)
  needs_used (Instance i) j inside has = inl (uses_used i j has)
  needs_used (TypeUse i) j inside has = elim (walk_end i j inside has) [ inl same ↦ inr (ap (λ x. TypeUse x) same) | inr used ↦ inl used ]
  needs_used TypeDefinition j inside has = absurd (Contains-nil has)
  needs_used FreeFunction j inside has = absurd (Contains-nil has)
  needs_used ResourceFunction j inside has = absurd (Contains-nil has)

module _ (types : List TypeDef) (uses : List (List ℕ)) (acyclic : IsAcyclic uses) (imports exports : List Entry) (listed : InOrder types (length uses) imports exports) where
  abbrev elaborated : List Entry
  elaborated = by_class types (all_imports types uses acyclic imports exports listed)

  is_imported : (e : Entry) (j : ℕ) → Contains elaborated e → Contains (key_interface e.0) j → IsImported types uses imports exports j
  is_imported e j has key = exact_to types uses acyclic imports exports listed j (Contains-flat_map (λ (f : Entry). key_interface f.0) elaborated e j has key)

  import_is : (e : Entry) → Contains elaborated e → IsListedWithoutSpan imports e ⊎ IsMadeImport types uses imports exports e
  import_is e has =
      let first : List Entry = from_imports types uses acyclic imports exports listed in
      let second : List Entry = from_exports types uses acyclic imports exports listed in
      elim (Contains-append_cases first second e (fresh_entries_in [] (first ++ second) e (by_class_in types _ e has))) [
        | inl of_import ↦
            let part = Contains-flat_map_cases (import_with_needs types uses) (by_class types imports) e of_import in
            let root = by_class_in types imports part.0 part.1.0 in
            elim (Contains-append_cases (map (dependency_of (inherited_by_import types part.0.1)) (dependencies_before uses (role_of types part.0.1))) ((part.0.0, without_span part.0.1) ∷ []) e part.1.1) [
              | inl deps ↦
                  let dep = Contains-deps (inherited_by_import types part.0.1) (dependencies_before uses (role_of types part.0.1)) e deps in
                  inr (
                    inherited_by_import types part.0.1,
                    dep.0,
                    sym dep.1.1,
                    elim (needs_used uses acyclic (role_of types part.0.1) dep.0 (listed.imports_in_range part.0 root) dep.1.0) [ inl used ↦ inl used | inr role ↦ inr (part.0, root, role) ],
                    is_imported e dep.0 has (subst (λ (z : Entry). Contains (key_interface z.0) dep.0) dep.1.1 (Contains-here dep.0 [])),
                  )
              | inr last ↦ elim (Contains-cons_cases (part.0.0, without_span part.0.1) e [] last) [ inl same ↦ inl (part.0, root, sym same) | inr none ↦ absurd (Contains-nil none) ]
            ]
        | inr of_export ↦
            let part = Contains-flat_map_cases (export_needs uses (outside types uses acyclic imports exports listed)) exports e of_export in
            let dep = export_import types uses acyclic imports exports listed part.0 e part.1.1 in
            inr (
              inherited_by_export part.0.1,
              dep.1,
              sym dep.5,
              inl (uses_used uses acyclic dep.0 dep.1 dep.3),
              is_imported e dep.1 has (subst (λ (z : Entry). Contains (key_interface z.0) dep.1) dep.5 (Contains-here dep.1 [])),
            )
      ]

  export_is : (e : Entry) → Contains (elaborated_exports uses exports) e → Contains exports e ⊎ IsMadeExport exports e
  export_is e has =
      elim (Contains-append_cases (functions types uses acyclic imports exports listed) (kept types uses acyclic imports exports listed) e has) [
        | inl old ↦ inl (Contains-filter (λ (f : Entry). not (is_interface f)) exports e old).0
        | inr new ↦ elim (made types uses acyclic imports exports listed e new) [
          | inl own ↦ inl own.0
          | inr dep ↦ inr (dep.0, dep.1, sym dep.2, contains_from_any dep.1 (exported_keys exports) dep.3)
        ]
      ]

pub elaborated_entries : ElaboratedEntries
elaborated_entries types uses old new e acyclic listed is =
    let order = in_order types (length uses) old.imports old.exports listed in
    let imports_are : new.imports ≡ elaborated_imports types uses old.imports old.exports = ap (λ (w : World). w.imports) is.world_is in
    let exports_are : new.exports ≡ elaborated_exports uses old.exports = ap (λ (w : World). w.exports) is.world_is in (
      λ has. import_is types uses acyclic old.imports old.exports order e (subst (λ es. Contains es e) imports_are has),
      λ has. export_is types uses acyclic old.imports old.exports order e (subst (λ es. Contains es e) exports_are has),
    )
