-- The imports under labels stay as they were listed.
use Rattle.std.proofs.Common.{◌≡◌, ℕ, Bool, true, false, ◌↔◌, inl, inr, List, [], ◌∷◌, ◌++◌, map, filter, length, refl, sym, ap, subst, ◌∙◌, nat_eq, Contains}
use Rattle.std.specs.List.{flat_map, list_any}
use Rattle.std.proofs.lemmas.Bool.{cases_Bool, false≢true, false_from_ne_true}
use Rattle.std.proofs.lemmas.List.{append-nil, map-append}
use Rattle.std.proofs.lemmas.List.Elements.{Contains-append_cases, Contains-append_left, Contains-append_right, filter-append}
use Rattle.wit_data.specs.declared.types.TypeDef.{TypeDef}
use Rattle.wit_data.specs.declared.world.World.{World}
use Rattle.wit_data.specs.declared.world.WorldKey.{WorldKey}
use Rattle.wit_digraph.specs.facts.MemberFacts.{Contains-nil, Contains-cons_cases, Contains-flat_map_cases, flat_map-same}
use Rattle.wit_digraph.specs.Relation.{IsAcyclic}
use Rattle.wit_elaboration.specs.Entries.{Entry, role_of, same_key, elaboration_class, by_class, fresh_entries}
use Rattle.wit_elaboration.specs.Elaborated.{dependency_of, dependencies_before, inherited_by_import, import_with_needs, export_needs, elaborated_imports}
use Rattle.wit_elaboration.specs.laws.KeptByElaboration.{LabelsStay, is_label, labelled, listed_without_span}
use Rattle.wit_elaboration.specs.facts.Classes.{by_class-new, by_class-by_class}
use Rattle.wit_elaboration.proofs.ElaboratedKeys.{distinct-AllNew}
use Rattle.wit_elaboration.specs.facts.Filters.{filter-pass, filter-fail, filter-none, filter-flat_map}
use Rattle.wit_elaboration.specs.facts.FreshEntries.{AllNew, AllNew-filter, Contains-deps, known_from_contains, contains_from_known, fresh_entries-known, fresh_entries-new, fresh_entries-all_new}
use Rattle.wit_elaboration.proofs.ImportsAgain.{from_imports, from_exports, export_import, outside}
use Rattle.wit_elaboration.proofs.Roles.{InOrder, in_order, role_of-without_span}
use Rattle.wit_elaboration.specs.steps.Parts.{of_class}

abbrev has_label : Entry → Bool
has_label e = is_label e.0

-- two tests pick the same in either order
filter-filter : {X : Type 0} (p q : X → Bool) (xs : List X) → filter p (filter q xs) ≡ filter q (filter p xs)
filter-filter p q [] = refl
filter-filter p q (x ∷ xs) =
    elim (cases_Bool (p x)) [
      | inl here ↦ elim (cases_Bool (q x)) [
        | inl there ↦ rw (filter-pass q x xs there, filter-pass p x xs here, filter-pass p x (filter q xs) here, filter-pass q x (filter p xs) there, filter-filter p q xs) refl
        | inr fails ↦ rw (filter-fail q x xs fails, filter-pass p x xs here, filter-fail q x (filter p xs) fails) (filter-filter p q xs)
      ]
      | inr not_here ↦ elim (cases_Bool (q x)) [
        | inl there ↦ rw (filter-pass q x xs there, filter-fail p x xs not_here, filter-fail p x (filter q xs) not_here) (filter-filter p q xs)
        | inr fails ↦ rw (filter-fail q x xs fails, filter-fail p x xs not_here) (filter-filter p q xs)
      ]
    ]

-- ---- of each key the first

-- the same labels are in both lists of keys
abbrev SameLabels : List WorldKey → List WorldKey → Type 0
SameLabels seen less = (k : WorldKey) → is_label k ≡ true → Contains seen k ↔ Contains less k

SameLabels-both : (seen less : List WorldKey) (l : WorldKey) → SameLabels seen less → SameLabels (seen ++ l ∷ []) (less ++ l ∷ [])
SameLabels-both seen less l same k is = (
  λ has. elim (Contains-append_cases seen (l ∷ []) k has) [ inl old ↦ Contains-append_left less (l ∷ []) k ((same k is).0 old) | inr own ↦ Contains-append_right less (l ∷ []) k own ],
  λ has. elim (Contains-append_cases less (l ∷ []) k has) [ inl old ↦ Contains-append_left seen (l ∷ []) k ((same k is).1 old) | inr own ↦ Contains-append_right seen (l ∷ []) k own ],
)

SameLabels-one : (seen less : List WorldKey) (l : WorldKey) → is_label l ≡ false → SameLabels seen less → SameLabels (seen ++ l ∷ []) less
SameLabels-one seen less l other same k is = (
  λ has. elim (Contains-append_cases seen (l ∷ []) k has) [
    | inl old ↦ (same k is).0 old
    | inr own ↦ elim (Contains-cons_cases l k [] own) [ inl one ↦ absurd (false≢true (sym other ∙ ap is_label one ∙ is)) | inr none ↦ absurd (Contains-nil none) ]
  ],
  λ has. Contains-append_left seen (l ∷ []) k ((same k is).1 has),
)

fresh_labels : (es : List Entry) (seen less : List WorldKey) → SameLabels seen less → labelled (fresh_entries seen es) ≡ fresh_entries less (labelled es)
fresh_labels [] seen less same = refl
fresh_labels (e ∷ es) seen less same =
    elim (cases_Bool (is_label e.0)) [
      | inl label ↦ rw (filter-pass has_label e es label) (elim (cases_Bool (list_any (same_key e.0) seen)) [
        | inl known ↦
            rw (fresh_entries-known seen e es known, fresh_entries-known less e (labelled es) (known_from_contains e.0 less ((same e.0 label).0 (contains_from_known e.0 seen known))))
            (fresh_labels es seen less same)
        | inr new ↦
            let new' : list_any (same_key e.0) less ≡ false =
            false_from_ne_true (list_any (same_key e.0) less) (λ known. false≢true (sym new ∙ known_from_contains e.0 seen ((same e.0 label).1 (contains_from_known e.0 less known)))) in
            rw (fresh_entries-new seen e es new, fresh_entries-new less e (labelled es) new', filter-pass has_label e (fresh_entries (seen ++ e.0 ∷ []) es) label)
            (ap (λ xs. e ∷ xs) (fresh_labels es (seen ++ e.0 ∷ []) (less ++ e.0 ∷ []) (SameLabels-both seen less e.0 same)))
      ])
      | inr other ↦ rw (filter-fail has_label e es other) (elim (cases_Bool (list_any (same_key e.0) seen)) [
        | inl known ↦ rw (fresh_entries-known seen e es known) (fresh_labels es seen less same)
        | inr new ↦ rw (fresh_entries-new seen e es new, filter-fail has_label e (fresh_entries (seen ++ e.0 ∷ []) es) other)
            (fresh_labels es (seen ++ e.0 ∷ []) less (SameLabels-one seen less e.0 other same))
      ])
    ]

-- settled entries keep their keys
settled_new : (es : List Entry) (seen : List WorldKey) → AllNew seen es → AllNew seen (map listed_without_span es)
settled_new [] seen new = tt
settled_new (e ∷ es) seen new = (new.0, settled_new es (seen ++ e.0 ∷ []) new.1)

settled_labels : (es : List Entry) → flat_map (λ e. filter has_label (listed_without_span e ∷ [])) es ≡ map listed_without_span (labelled es)
settled_labels [] = refl
settled_labels (e ∷ es) =
    elim (cases_Bool (is_label e.0)) [
      | inl label ↦ rw (filter-pass has_label e es label, filter-pass has_label (listed_without_span e) [] label) (ap (λ xs. listed_without_span e ∷ xs) (settled_labels es))
      | inr other ↦ rw (filter-fail has_label e es other, filter-fail has_label (listed_without_span e) [] other) (settled_labels es)
    ]

module _ (types : List TypeDef) where
  -- ---- classes

  class_labels : (es : List Entry) → labelled (by_class types es) ≡ by_class types (labelled es)
  class_labels es =
      filter-flat_map has_label (λ c. of_class types c es) (0 ∷ 1 ∷ 2 ∷ 3 ∷ 4 ∷ [])
      ∙ flat_map-same (λ c. labelled (of_class types c es)) (λ c. of_class types c (labelled es)) (0 ∷ 1 ∷ 2 ∷ 3 ∷ 4 ∷ [])
      (λ c among. filter-filter has_label (λ (e : Entry). nat_eq (elaboration_class (role_of types e.1)) c) es)

  of_class-without_span : (c : ℕ) (es : List Entry) → of_class types c (map listed_without_span es) ≡ map listed_without_span (of_class types c es)
  of_class-without_span c [] = refl
  of_class-without_span c (e ∷ es) =
      let is_in : Entry → Bool = λ f. nat_eq (elaboration_class (role_of types f.1)) c in
      let same : is_in (listed_without_span e) ≡ is_in e = ap (λ r. nat_eq (elaboration_class r) c) (role_of-without_span types e.1) in
      elim (cases_Bool (is_in e)) [
        | inl here ↦ rw (filter-pass is_in e es here, filter-pass is_in (listed_without_span e) (map listed_without_span es) (same ∙ here)) (ap (λ xs. listed_without_span e ∷ xs) (of_class-without_span c es))
        | inr other ↦ rw (filter-fail is_in e es other, filter-fail is_in (listed_without_span e) (map listed_without_span es) (same ∙ other)) (of_class-without_span c es)
      ]

  classes_settled : (cs : List ℕ) (es : List Entry) → flat_map (λ c. of_class types c (map listed_without_span es)) cs ≡ map listed_without_span (flat_map (λ c. of_class types c es) cs)
  classes_settled [] es = refl
  classes_settled (c ∷ cs) es =
      rw (of_class-without_span c es, classes_settled cs es) (sym (map-append listed_without_span (of_class types c es) (flat_map (λ d. of_class types d es) cs)))

  by_class-without_span : (es : List Entry) → by_class types (map listed_without_span es) ≡ map listed_without_span (by_class types es)
  by_class-without_span es = classes_settled (0 ∷ 1 ∷ 2 ∷ 3 ∷ 4 ∷ []) es

  module _ (uses : List (List ℕ)) (acyclic : IsAcyclic uses) (imports exports : List Entry) (listed : InOrder types (length uses) imports exports) where
    walk_labels : (e : Entry) → labelled (import_with_needs types uses e) ≡ filter has_label (listed_without_span e ∷ [])
    walk_labels e =
        let deps : List Entry = map (dependency_of (inherited_by_import types e.1)) (dependencies_before uses (role_of types e.1)) in
        filter-append has_label deps (listed_without_span e ∷ [])
        ∙ ap (λ xs. xs ++ filter has_label (listed_without_span e ∷ [])) (filter-none has_label deps (λ f has.
        let dep = Contains-deps (inherited_by_import types e.1) (dependencies_before uses (role_of types e.1)) f has in subst (λ (z : Entry). is_label z.0 ≡ false) dep.1.1 refl))

    abbrev first : List Entry
    first = from_imports types uses acyclic imports exports listed

    abbrev second : List Entry
    second = from_exports types uses acyclic imports exports listed

    first_labels : labelled first ≡ map listed_without_span (labelled (by_class types imports))
    first_labels =
        filter-flat_map has_label (import_with_needs types uses) (by_class types imports)
        ∙ flat_map-same (λ e. labelled (import_with_needs types uses e)) (λ e. filter has_label (listed_without_span e ∷ [])) (by_class types imports) (λ e has. walk_labels e)
        ∙ settled_labels (by_class types imports)

    second_labels : labelled second ≡ []
    second_labels = filter-none has_label second (λ f has.
        let part = Contains-flat_map_cases (export_needs uses (outside types uses acyclic imports exports listed)) exports f has in
        let dep = export_import types uses acyclic imports exports listed part.0 f part.1.1 in
        subst (λ (z : Entry). is_label z.0 ≡ false) dep.5 refl)

    all_labels : labelled (first ++ second) ≡ map listed_without_span (labelled (by_class types imports))
    all_labels = filter-append has_label first second ∙ rw (first_labels, second_labels) (append-nil (map listed_without_span (labelled (by_class types imports))))

    import_labels : AllNew [] imports → labelled (by_class types (fresh_entries [] (first ++ second))) ≡ map listed_without_span (labelled (by_class types imports))
    import_labels new =
        let kept : List Entry = labelled (by_class types imports) in
        let kept_new : AllNew [] (map listed_without_span kept) = settled_new kept [] (AllNew-filter has_label (by_class types imports) [] [] (λ k had. had) (by_class-new types imports new).new) in
        class_labels (fresh_entries [] (first ++ second))
        ∙ ap (by_class types) (fresh_labels (first ++ second) [] [] (λ k is. (λ has. has, λ has. has)) ∙ ap (fresh_entries []) all_labels ∙ fresh_entries-all_new [] (map listed_without_span kept) kept_new)
        ∙ by_class-without_span kept
        ∙ ap (map listed_without_span) (sym (class_labels (by_class types imports)) ∙ ap labelled (by_class-by_class types imports))

pub labels_stay : LabelsStay
labels_stay types uses old new acyclic listed distinct is =
    let order = in_order types (length uses) old.imports old.exports listed in
    let imports_are : new.imports ≡ elaborated_imports types uses old.imports old.exports = ap (λ (w : World). w.imports) is.world_is in
    ap labelled imports_are ∙ import_labels types uses acyclic old.imports old.exports order (distinct-AllNew old.imports distinct)
