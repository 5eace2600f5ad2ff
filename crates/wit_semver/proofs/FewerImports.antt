-- A canonical world that lists only some of its imports: where what these need is among them, so is what the exports need,
-- and elaboration adds nothing to them.
use Rattle.std.proofs.Common.{◌≡◌, ◌∙◌, ◌<◌, inl, inr, ℕ, Bool, true, false, not, List, [], ◌∷◌, ◌++◌, Option, None, Some, append_assoc, filter, map, length, refl, sym, ap, subst, Contains, All, nat_eq}
use Rattle.std.specs.List.{flat_map, list_any}
use Rattle.std.specs.Map.{keys_of}
use Rattle.std.proofs.lemmas.Bool.{cases_Bool}
use Rattle.std.proofs.lemmas.List.{append-nil}
use Rattle.std.proofs.lemmas.List.Elements.{All-contains, Contains-append_cases, Contains-append_left, Contains-append_right, Contains-get_or}
use Rattle.wit_digraph.specs.facts.MemberFacts.{Contains-flat_map_cases, Contains-here, Contains-nil, Contains-there}
use Rattle.wit_digraph.specs.facts.PostOrderFacts.{Reaches-from_post_order, UsesFirst-append, UsesFirst-IsPath}
use Rattle.wit_digraph.specs.PostOrder.{post_order}
use Rattle.wit_digraph.specs.steps.PostOrder.{UsesFirst}
use Rattle.wit_digraph.specs.Relation.{IsAcyclic, direct}
use Rattle.wit_data.specs.Function.{resource_of}
use Rattle.wit_data.specs.Uses.{type_interface_dep}
use Rattle.wit_data.specs.declared.types.TypeDef.{TypeDef}
use Rattle.wit_data.specs.declared.world.WorldItem.{WorldItem}
use Rattle.wit_data.specs.declared.world.WorldKey.{WorldKey}
use Rattle.wit_data.specs.declared.world.WorldItem.TheVariants as item
use Rattle.wit_data.specs.declared.world.WorldKey.TheVariants.{Name, Interface}
use Rattle.wit_elaboration.specs.Elaborated.{dependencies_before, dependency_of, elaborated_imports, export_needs, import_with_needs, inherited_by_import, without_span}
use Rattle.wit_elaboration.specs.Entries.{Entry, by_class, elaboration_class, fresh_entries, key_interface, role_of, same_key}
use Rattle.wit_elaboration.specs.Imported.{is_exported}
use Rattle.wit_elaboration.specs.Sound.{IsRoleInRange}
use Rattle.wit_elaboration.specs.facts.Filters.{Contains-filter, filter-fail, filter-flat_map, filter-pass}
use Rattle.wit_elaboration.specs.facts.FreshEntries.{AllNew, AllNew-filter, Contains-deps, fresh_entries-all_known, fresh_entries-append, fresh_entries-new, id_known, ids-push, interfaces_of_keys, known_from_contains}
use Rattle.wit_elaboration.specs.facts.Order.{AreOwn}
use Rattle.wit_elaboration.specs.laws.ElaborationLaws.{DependenciesFirst, stands_on}
use Rattle.wit_elaboration.specs.steps.Parts.{type_role, function_role, of_class}

-- ---- of a list that is picked from a sorted one

filters_swap : {X : Type 0} (p q : X → Bool) (xs : List X) → filter p (filter q xs) ≡ filter q (filter p xs)
filters_swap p q [] = refl
filters_swap p q (x ∷ xs) =
    elim (cases_Bool (p x)) [
      | inl stays ↦ elim (cases_Bool (q x)) [
        | inl also ↦ rw (filter-pass q x xs also, filter-pass p x (filter q xs) stays, filter-pass p x xs stays, filter-pass q x (filter p xs) also) (ap (λ ys. x ∷ ys) (filters_swap p q xs))
        | inr alone ↦ rw (filter-fail q x xs alone, filter-pass p x xs stays, filter-fail q x (filter p xs) alone) (filters_swap p q xs)
      ]
      | inr goes ↦ elim (cases_Bool (q x)) [
        | inl alone ↦ rw (filter-pass q x xs alone, filter-fail p x (filter q xs) goes, filter-fail p x xs goes) (filters_swap p q xs)
        | inr also ↦ rw (filter-fail q x xs also, filter-fail p x xs goes) (filters_swap p q xs)
      ]
    ]

module _ (types : List TypeDef) (uses : List (List ℕ)) (acyclic : IsAcyclic uses) where
  sorted_part : (test : Entry → Bool) (es : List Entry) → by_class types es ≡ es → by_class types (filter test es) ≡ filter test es
  sorted_part test es sorted =
      let swaps : (c : ℕ) → of_class types c (filter test es) ≡ filter test (of_class types c es) = λ c. filters_swap (λ (e : Entry). nat_eq (elaboration_class (role_of types e.1)) c) test es in
      ap (λ (f : ℕ → List Entry). flat_map f (0 ∷ 1 ∷ 2 ∷ 3 ∷ 4 ∷ [])) (λ i c. swaps c i)
      ∙ sym (filter-flat_map test (λ c. of_class types c es) (0 ∷ 1 ∷ 2 ∷ 3 ∷ 4 ∷ []))
      ∙ ap (filter test) sorted

  -- ---- what stands before it

  module _ (Kept : ℕ → Type 0) where
    -- what some entries stand on stands before them, where what is left out stands under keys that aren't kept
    first_part : (test : Entry → Bool) (es : List Entry) (seen less : List ℕ) → DependenciesFirst types uses seen es → ((j : ℕ) → Contains seen j → Kept j → Contains less j)
        → ((e : Entry) (j : ℕ) → Contains (filter test es) e → Contains (stands_on uses (role_of types e.1)) j → Kept j)
        → ((e : Entry) (j : ℕ) → Contains es e → test e ≡ false → Contains (key_interface e.0) j → Kept j → ⊥)
        → DependenciesFirst types uses less (filter test es)
    first_part test [] seen less first among needs left = tt
    first_part test (e ∷ es) seen less first among needs left =
        elim (cases_Bool (test e)) [
          | inl stays ↦
              let is : filter test (e ∷ es) ≡ e ∷ filter test es = filter-pass test e es stays in
              let has : (f : Entry) → Contains (e ∷ filter test es) f → Contains (filter test (e ∷ es)) f = λ f. subst (λ (l : List Entry). Contains l f) (sym is) in
              subst (DependenciesFirst types uses less) (sym is) (
                λ k d below. among _ (first.0 k d below) (needs e _ (has e (Contains-here e (filter test es))) (Contains-get_or (stands_on uses (role_of types e.1)) k d below)),
                first_part test es (seen ++ key_interface e.0) (less ++ key_interface e.0) first.1
                    (λ j had kept. elim (Contains-append_cases seen (key_interface e.0) j had)
                    [ inl before ↦ Contains-append_left less (key_interface e.0) j (among j before kept) | inr own ↦ Contains-append_right less (key_interface e.0) j own ])
                    (λ f j there. needs f j (has f (Contains-there e f (filter test es) there))) (λ f j there. left f j (Contains-there e f es there)),
              )
          | inr goes ↦
              let is : filter test (e ∷ es) ≡ filter test es = filter-fail test e es goes in
              subst (DependenciesFirst types uses less) (sym is) (
              first_part test es (seen ++ key_interface e.0) less first.1
              (λ j had kept. elim (Contains-append_cases seen (key_interface e.0) j had) [ inl before ↦ among j before kept | inr own ↦ absurd (left e j (Contains-here e es) goes own kept) ])
              (λ f j there. needs f j (subst (λ (l : List Entry). Contains l f) (sym is) there)) (λ f j there. left f j (Contains-there e f es there)))
        ]

  -- what an item needs is listed, where what it stands on is, and each after what it uses
  nothing_needed : (o : Option ℕ) (j : ℕ) → Contains (dependencies_before uses (function_role o)) j → ⊥
  nothing_needed None j has = Contains-nil has
  nothing_needed (Some r) j has = Contains-nil has

  use_listed : (o : Option ℕ) (s : List ℕ) (j : ℕ) → IsRoleInRange (length uses) (type_role o) → All (Contains s) (stands_on uses (type_role o)) → UsesFirst uses [] s → Contains (dependencies_before uses (type_role o)) j → Contains s j
  use_listed None s j inside on first has = absurd (Contains-nil has)
  use_listed (Some i) s j inside on first has =
      let path = Reaches-from_post_order uses acyclic i inside j has in
      UsesFirst-IsPath uses s i path.0 j first (All-contains (Contains s) (i ∷ []) i on (Contains-here i [])) path.1

  needs_listed : (held : WorldItem) (s : List ℕ) (j : ℕ) → IsRoleInRange (length uses) (role_of types held) → All (Contains s) (stands_on uses (role_of types held)) → UsesFirst uses [] s
      → Contains (dependencies_before uses (role_of types held)) j → Contains s j
  needs_listed (item.Interface i stability docs span external_id) s j inside on first has =
      let part = Contains-flat_map_cases (post_order uses) (direct uses i) j has in
      let path = Reaches-from_post_order uses acyclic part.0 (All-contains (λ x. x < length uses) (direct uses i) part.0 (acyclic.in_range i) part.1.0) j part.1.1 in
      UsesFirst-IsPath uses s part.0 path.0 j first (All-contains (Contains s) (direct uses i) part.0 on part.1.0) path.1
  needs_listed (item.Function f) s j inside on first has = absurd (nothing_needed (resource_of f.kind) j has)
  needs_listed (item.Type_ t span) s j inside on first has = use_listed (type_interface_dep types t) s j inside on first has

  listed_more : (s : List ℕ) (k : WorldKey) → UsesFirst uses [] s → ((i : ℕ) → k ≡ Interface i → All (Contains s) (direct uses i)) → UsesFirst uses [] (s ++ key_interface k)
  listed_more s (Name n) first on = rw append-nil first
  listed_more s (Interface i) first on = UsesFirst-append uses s (i ∷ []) [] first (on i refl, tt)

  -- imports that stand after what they use, as elaboration leaves them, get nothing more
  nothing_added : (es : List Entry) (seen : List WorldKey) → AllNew seen es → DependenciesFirst types uses (interfaces_of_keys seen) es → UsesFirst uses [] (interfaces_of_keys seen) → AreOwn types es
      → ((e : Entry) → Contains es e → IsRoleInRange (length uses) (role_of types e.1)) → ((e : Entry) → Contains es e → without_span e.1 ≡ e.1) → fresh_entries seen (flat_map (import_with_needs types uses) es) ≡ es
  nothing_added [] seen new first listed own inside settled = refl
  nothing_added (e ∷ es) seen new first listed own inside settled =
      let rest : List Entry = flat_map (import_with_needs types uses) es in
      let deps : List Entry = map (dependency_of (inherited_by_import types e.1)) (dependencies_before uses (role_of types e.1)) in
      let skip : fresh_entries seen (deps ++ ((e.0, without_span e.1) ∷ rest)) ≡ fresh_entries seen ((e.0, without_span e.1) ∷ rest) =
      fresh_entries-all_known seen deps ((e.0, without_span e.1) ∷ rest) (λ f has.
      let part = Contains-deps (inherited_by_import types e.1) (dependencies_before uses (role_of types e.1)) f has in
      let known = id_known part.0 seen (needs_listed e.1 (interfaces_of_keys seen) part.0 (inside e (Contains-here e es)) first.0 listed part.1.0) in
      subst (λ (z : Entry). list_any (same_key z.0) seen ≡ true) part.1.1 known) in
      let more : fresh_entries (seen ++ e.0 ∷ []) rest ≡ es =
      nothing_added es (seen ++ e.0 ∷ []) new.1 (rw ids-push first.1)
      (rw ids-push (listed_more (interfaces_of_keys seen) e.0 listed (λ i under. subst (λ role. All (Contains (interfaces_of_keys seen)) (stands_on uses role)) (own e i (Contains-here e es) under) first.0)))
      (λ f i has. own f i (Contains-there e f es has)) (λ f has. inside f (Contains-there e f es has)) (λ f has. settled f (Contains-there e f es has)) in
      rw (append_assoc deps ((e.0, without_span e.1) ∷ []) rest, skip, settled e (Contains-here e es), fresh_entries-new seen e rest new.0, more) refl

  -- ---- a part of canonical imports

  -- imports as elaboration leaves them: each key once, by class, none with a span that is an interface, each after what
  -- it stands on
  pub record AreSettled (imports : List Entry) : Type 0 where
    pub new : AllNew [] imports
    pub sorted : by_class types imports ≡ imports
    pub first : DependenciesFirst types uses [] imports
    pub own : AreOwn types imports
    pub inside : (e : Entry) → Contains imports e → IsRoleInRange (length uses) (role_of types e.1)
    pub settled : (e : Entry) → Contains imports e → without_span e.1 ≡ e.1

  -- those that pass a test name what is kept, those that don't stand under keys that aren't, and what the exports need is
  -- imported by the former
  pub record AreClosed (Kept : ℕ → Type 0) (test : Entry → Bool) (imports exports : List Entry) : Type 0 where
    pub needs : (e : Entry) (j : ℕ) → Contains (filter test imports) e → Contains (stands_on uses (role_of types e.1)) j → Kept j
    pub left : (e : Entry) (j : ℕ) → Contains imports e → test e ≡ false → Contains (key_interface e.0) j → Kept j → ⊥
    pub exported : (e : Entry) → Contains (flat_map (export_needs uses (λ j. not (is_exported exports j))) exports) e → Contains (keys_of (filter test imports)) e.0

  pub part_is_elaborated : (Kept : ℕ → Type 0) (test : Entry → Bool) (imports exports : List Entry) → AreSettled imports → AreClosed Kept test imports exports
      → elaborated_imports types uses (filter test imports) exports ≡ filter test imports
  part_is_elaborated Kept test imports exports are closed =
      let part : List Entry = filter test imports in
      let rest : List Entry = flat_map (export_needs uses (λ j. not (is_exported exports j))) exports in
      let sorted : by_class types part ≡ part = sorted_part test imports are.sorted in
      let was : (e : Entry) → Contains part e → Contains imports e = λ e has. (Contains-filter test imports e has).0 in
      let same : fresh_entries [] (flat_map (import_with_needs types uses) part) ≡ part =
      nothing_added part [] (AllNew-filter test imports [] [] (λ k had. had) are.new) (first_part Kept test imports [] [] are.first (λ j had kept. had) closed.needs closed.left) tt
      (λ e i has. are.own e i (was e has)) (λ e has. are.inside e (was e has)) (λ e has. are.settled e (was e has)) in
      let nothing : fresh_entries (keys_of part) rest ≡ [] =
      ap (λ xs. fresh_entries (keys_of part) xs) (sym (append-nil rest)) ∙ fresh_entries-all_known (keys_of part) rest [] (λ e has. known_from_contains e.0 (keys_of part) (closed.exported e has)) in
      let joined : fresh_entries [] (flat_map (import_with_needs types uses) part ++ rest) ≡ part =
      fresh_entries-append [] (flat_map (import_with_needs types uses) part) rest ∙ rw (same, nothing) (append-nil part) in
      ap (λ (es : List Entry). by_class types (fresh_entries [] (flat_map (import_with_needs types uses) es ++ rest))) sorted
      ∙ ap (by_class types) joined
      ∙ sorted
