-- Exports before which stands what they need add nothing.
use Rattle.std.proofs.Common.{◌≡◌, ℕ, Bool, true, inl, inr, List, [], ◌∷◌, ◌++◌, map, filter, append_assoc, refl, sym, ap, subst, ◌∙◌, Contains}
use Rattle.std.specs.List.{flat_map, list_any}
use Rattle.std.specs.Map.{keys_of}
use Rattle.std.proofs.lemmas.Bool.{cases_Bool, false≢true}
use Rattle.std.proofs.lemmas.List.{append-nil}
use Rattle.std.proofs.lemmas.List.Elements.{Contains-append_cases, Contains-append_left, Contains-append_right}
use Rattle.wit_data.specs.declared.world.WorldKey.{WorldKey}
use Rattle.wit_data.specs.declared.world.WorldKey.TheVariants.{Interface}
use Rattle.wit_digraph.specs.facts.MemberFacts.{Contains-nil, Contains-here, Contains-cons_cases, Contains-flat_map_cases}
use Rattle.wit_digraph.specs.facts.PostOrderFacts.{UsesFirst-append}
use Rattle.wit_digraph.specs.Relation.{IsAcyclic}
use Rattle.wit_digraph.specs.steps.PostOrder.{UsesFirst}
use Rattle.wit_elaboration.specs.Entries.{Entry, Instance, same_key, fresh_entries}
use Rattle.wit_elaboration.specs.Elaborated.{InheritedData, dependencies_before, dependency_of, export_needs, inherited_by_export}
use Rattle.wit_elaboration.specs.facts.Filters.{Contains-filter, filter-pass, filter-fail}
use Rattle.wit_elaboration.specs.facts.FreshEntries.{AllNew, Contains-deps, contains_from_known, deps-Contains, fresh_entries-all_known, fresh_entries-known, fresh_entries-new, keys-Contains, known_from_contains}
use Rattle.wit_elaboration.specs.steps.Parts.{export_with_needs, interface_needs}
use Rattle.wit_elaboration.proofs.Needs.{entry_first, only, uses_in}

module _ (uses : List (List ℕ)) (acyclic : IsAcyclic uses) (picks : ℕ → Bool) where
  -- what each entry needs, where the test picks it, is among the keys seen, or stands before the entry
  abbrev pub NeedsFirst : List WorldKey → List Entry → Type 0
  NeedsFirst seen [] = Unit {0}
  NeedsFirst seen (e ∷ es) =
      ((j : ℕ) → Contains (filter picks (interface_needs uses e)) j → Contains seen (Interface j))
      × NeedsFirst (seen ++ e.0 ∷ []) es

  NeedsFirst-append : (xs ys : List Entry) (seen : List WorldKey) → NeedsFirst seen xs → NeedsFirst (seen ++ keys_of xs) ys → NeedsFirst seen (xs ++ ys)
  NeedsFirst-append [] ys seen first then = rw append-nil at then
  NeedsFirst-append (e ∷ xs) ys seen first then = (first.0, NeedsFirst-append xs ys (seen ++ e.0 ∷ []) first.1 (rw (append_assoc seen (e.0 ∷ []) (keys_of xs)) then))

  -- the members of a list in which uses come first
  members_first : (carried : InheritedData) (xs before : List ℕ) (seen : List WorldKey) → UsesFirst uses [] before → UsesFirst uses before xs
      → ((j : ℕ) → Contains before j → picks j ≡ true → Contains seen (Interface j)) → NeedsFirst seen (map (dependency_of carried) (filter picks xs))
  members_first carried [] before seen closed first there = tt
  members_first carried (x ∷ xs) before seen closed first there =
      let closed_on : UsesFirst uses [] (before ++ x ∷ []) = UsesFirst-append uses before (x ∷ []) [] closed (first.0, tt) in
      elim (cases_Bool (picks x)) [
        | inl on ↦ rw (filter-pass picks x xs on) (
          λ j has.
              let part = Contains-filter picks (interface_needs uses (dependency_of carried x)) j has in
              let need = Contains-flat_map_cases (λ i. dependencies_before uses (Instance i)) (x ∷ []) j part.0 in
              there j (uses_in uses acyclic x before j first.0 closed (subst (λ i. Contains (dependencies_before uses (Instance i)) j) (sym (only x need.0 need.1.0)) need.1.1)) part.1,
          members_first carried xs (before ++ x ∷ []) (seen ++ Interface x ∷ []) closed_on first.1 (λ j has pass. elim (Contains-append_cases before (x ∷ []) j has) [
            | inl old ↦ Contains-append_left seen (Interface x ∷ []) (Interface j) (there j old pass)
            | inr last ↦ Contains-append_right seen (Interface x ∷ []) (Interface j) (subst (λ i. Contains (Interface x ∷ []) (Interface i)) (only x j last) (Contains-here (Interface x) []))
          ]),
        )
        | inr off ↦ rw (filter-fail picks x xs off) (members_first carried xs (before ++ x ∷ []) seen closed_on first.1 (λ j has pass. elim (Contains-append_cases before (x ∷ []) j has) [
          | inl old ↦ there j old pass
          | inr last ↦ absurd (false≢true (sym off ∙ ap picks (only x j last) ∙ pass))
        ]))
      ]

  entry_needs_first : (e : Entry) (seen : List WorldKey) → NeedsFirst seen (export_with_needs uses picks e)
  entry_needs_first e seen =
      let carried : InheritedData = inherited_by_export e.1 in
      NeedsFirst-append (export_needs uses picks e) (e ∷ []) seen
      (members_first carried (interface_needs uses e) [] seen tt (entry_first uses acyclic e []) (λ j has pass. absurd (Contains-nil has))) (
        λ j has. Contains-append_right seen (keys_of (export_needs uses picks e)) (Interface j)
            (keys-Contains (export_needs uses picks e) (dependency_of carried j) (deps-Contains carried (filter picks (interface_needs uses e)) j has)),
        tt,
      )

  pub entries_need_first : (es : List Entry) (seen : List WorldKey) → NeedsFirst seen (flat_map (export_with_needs uses picks) es)
  entries_need_first [] seen = tt
  entries_need_first (e ∷ es) seen =
      NeedsFirst-append (export_with_needs uses picks e) (flat_map (export_with_needs uses picks) es) seen (entry_needs_first e seen)
      (entries_need_first es (seen ++ keys_of (export_with_needs uses picks e)))

  pub NeedsFirst-fresh : (es : List Entry) (before seen : List WorldKey) → ((k : WorldKey) → Contains before k → Contains seen k) → NeedsFirst before es → NeedsFirst seen (fresh_entries seen es)
  NeedsFirst-fresh [] before seen wider first = tt
  NeedsFirst-fresh (e ∷ es) before seen wider first =
      elim (cases_Bool (list_any (same_key e.0) seen)) [
        | inl known ↦ rw (fresh_entries-known seen e es known) (NeedsFirst-fresh es (before ++ e.0 ∷ []) seen (λ k has. elim (Contains-append_cases before (e.0 ∷ []) k has) [
          | inl old ↦ wider k old
          | inr last ↦ elim (Contains-cons_cases e.0 k [] last) [ inl same ↦ subst (λ l. Contains seen l) same (contains_from_known e.0 seen known) | inr none ↦ absurd (Contains-nil none) ]
        ]) first.1)
        | inr new ↦ rw (fresh_entries-new seen e es new) (
          λ j has. wider (Interface j) (first.0 j has),
          NeedsFirst-fresh es (before ++ e.0 ∷ []) (seen ++ e.0 ∷ []) (λ k has. elim (Contains-append_cases before (e.0 ∷ []) k has)
              [ inl old ↦ Contains-append_left seen (e.0 ∷ []) k (wider k old) | inr last ↦ Contains-append_right seen (e.0 ∷ []) k last ]) first.1,
        )
      ]

  pub needs_absorbed : (es : List Entry) (seen : List WorldKey) → AllNew seen es → NeedsFirst seen es → fresh_entries seen (flat_map (export_with_needs uses picks) es) ≡ es
  needs_absorbed [] seen new first = refl
  needs_absorbed (e ∷ es) seen new first =
      let rest : List Entry = flat_map (export_with_needs uses picks) es in
      let needs : List Entry = export_needs uses picks e in
      let skip : fresh_entries seen (needs ++ (e ∷ rest)) ≡ fresh_entries seen (e ∷ rest) =
      fresh_entries-all_known seen needs (e ∷ rest) (λ f has.
      let part = Contains-deps (inherited_by_export e.1) (filter picks (interface_needs uses e)) f has in
      subst (λ (z : Entry). list_any (same_key z.0) seen ≡ true) part.1.1 (known_from_contains (Interface part.0) seen (first.0 part.0 part.1.0))) in
      rw (append_assoc needs (e ∷ []) rest, skip, fresh_entries-new seen e rest new.0, needs_absorbed es (seen ++ e.0 ∷ []) new.1 first.1) refl
