-- Entries whose dependencies come first.
use Rattle.std.proofs.Common.{◌≡◌, ℕ, ◌<◌, inl, inr, List, [], ◌∷◌, ◌++◌, map, append_assoc, length, refl, subst, Contains}
use Rattle.std.specs.List.{flat_map, list_any}
use Rattle.std.proofs.lemmas.List.{append-nil}
use Rattle.std.proofs.lemmas.List.Concat.{flat_map-append}
use Rattle.std.proofs.lemmas.Bool.{cases_Bool}
use Rattle.std.proofs.lemmas.List.Elements.{Contains-append_cases, Contains-append_left, Contains-append_right, All-contains, All-contains_itself, Contains-get_or}
use Rattle.wit_data.specs.declared.types.TypeDef.{TypeDef}
use Rattle.wit_data.specs.declared.world.WorldItem.{WorldItem}
use Rattle.wit_data.specs.declared.world.WorldKey.{WorldKey}
use Rattle.wit_data.specs.declared.world.WorldKey.TheVariants.{Interface}
use Rattle.wit_digraph.specs.facts.MemberFacts.{Contains-nil, Contains-here, Contains-there, Contains-cons_cases, Contains-flat_map}
use Rattle.wit_digraph.specs.facts.PostOrderFacts.{UsesFirst-post_order, UsesFirst-flat_map, Contains-post_order_end}
use Rattle.wit_digraph.specs.Relation.{direct, IsAcyclic}
use Rattle.wit_digraph.specs.PostOrder.{post_order}
use Rattle.wit_digraph.specs.steps.PostOrder.{UsesFirst}
use Rattle.wit_elaboration.specs.Entries.{Entry, Role, Instance, TypeUse, TypeDefinition, FreeFunction, ResourceFunction, role_of, same_key, key_interface, keyed_interfaces, fresh_entries}
use Rattle.wit_elaboration.specs.Elaborated.{InheritedData, dependency_of, dependencies_before}
use Rattle.wit_elaboration.specs.laws.ElaborationLaws.{stands_on, DependenciesFirst}
use Rattle.wit_elaboration.specs.Sound.{IsRoleInRange}
use Rattle.wit_elaboration.specs.steps.Parts.{entry_post_order}
use Rattle.wit_elaboration.specs.facts.FreshEntries.{interfaces_of_keys, keyed_interfaces-map, contains_from_known, fresh_entries-known, fresh_entries-new}

module _ (types : List TypeDef) where
  -- an entry under an interface's key is that interface
  abbrev pub AreOwn : List Entry → Type 0
  AreOwn es =
      (e : Entry) (i : ℕ) → Contains es e → e.0 ≡ Interface i → role_of types e.1 ≡ Instance i

  pub DependenciesFirst-append : (uses : List (List ℕ)) (xs ys : List Entry) (seen : List ℕ) → DependenciesFirst types uses seen xs → DependenciesFirst types uses (seen ++ keyed_interfaces xs) ys → DependenciesFirst types uses seen (xs ++ ys)
  DependenciesFirst-append uses [] ys seen first then = rw append-nil at then
  DependenciesFirst-append uses (e ∷ xs) ys seen first then = (first.0, DependenciesFirst-append uses xs ys (seen ++ key_interface e.0) first.1 (rw (append_assoc seen (key_interface e.0) (keyed_interfaces xs)) then))

  pub DependenciesFirst-map : (uses : List (List ℕ)) (carried : InheritedData) (js seen : List ℕ) → UsesFirst uses seen js → DependenciesFirst types uses seen (map (dependency_of carried) js)
  DependenciesFirst-map uses carried [] seen first = tt
  DependenciesFirst-map uses carried (j ∷ js) seen first = (first.0, DependenciesFirst-map uses carried js (seen ++ j ∷ []) first.1)

  module _ (uses : List (List ℕ)) (acyclic : IsAcyclic uses) where
    each_first : (js seen : List ℕ) → ((j : ℕ) → Contains js j → j < length uses) → UsesFirst uses seen (flat_map (post_order uses) js)
    each_first js seen inside = UsesFirst-flat_map uses js seen (λ j among. UsesFirst-post_order uses acyclic j (inside j among))

    direct_in_range : (i j : ℕ) → Contains (direct uses i) j → j < length uses
    direct_in_range i j among = All-contains (λ x. x < length uses) (direct uses i) j (acyclic.in_range i) among

    pub needs_first : (role : Role) (seen : List ℕ) → IsRoleInRange (length uses) role → UsesFirst uses seen (dependencies_before uses role)
    needs_first (Instance i) seen inside = each_first (direct uses i) seen (direct_in_range i)
    needs_first (TypeUse i) seen inside = UsesFirst-post_order uses acyclic i inside seen
    needs_first TypeDefinition seen inside = tt
    needs_first FreeFunction seen inside = tt
    needs_first ResourceFunction seen inside = tt

    pub needs_hold : (role : Role) (j : ℕ) → IsRoleInRange (length uses) role → Contains (stands_on uses role) j → Contains (dependencies_before uses role) j
    needs_hold (Instance i) j inside on = Contains-flat_map (post_order uses) (direct uses i) j j on (Contains-post_order_end uses acyclic j (direct_in_range i j on))
    needs_hold (TypeUse i) j inside on = elim (Contains-cons_cases i j [] on) [ inl same ↦ subst (λ x. Contains (post_order uses i) x) same (Contains-post_order_end uses acyclic i inside) | inr none ↦ absurd (Contains-nil none) ]
    needs_hold TypeDefinition j inside on = on
    needs_hold FreeFunction j inside on = on
    needs_hold ResourceFunction j inside on = on

    pub entry_walk_first : (carries : WorldItem → InheritedData) (settle : WorldItem → WorldItem) → ((item : WorldItem) → role_of types (settle item) ≡ role_of types item) → (e : Entry) (seen : List ℕ) → IsRoleInRange (length uses) (role_of types e.1) → DependenciesFirst types uses seen (entry_post_order types uses carries settle e)
    entry_walk_first carries settle keeps e seen inside =
        DependenciesFirst-append uses (map (dependency_of (carries e.1)) (dependencies_before uses (role_of types e.1))) ((e.0, settle e.1) ∷ []) seen (DependenciesFirst-map uses (carries e.1) (dependencies_before uses (role_of types e.1)) seen (needs_first (role_of types e.1) seen inside))
        ((
          λ k d below. rw (keyed_interfaces-map (carries e.1) (dependencies_before uses (role_of types e.1)))
              (Contains-append_right seen (dependencies_before uses (role_of types e.1)) _
              (needs_hold (role_of types e.1) _ inside (All-contains (Contains (stands_on uses (role_of types e.1))) (stands_on uses (role_of types (settle e.1))) _ (rw (keeps e.1) (All-contains_itself (stands_on uses (role_of types e.1)))) (Contains-get_or (stands_on uses (role_of types (settle e.1))) k d below)))),
          tt,
        ))

    pub entry_walks_first : (carries : WorldItem → InheritedData) (settle : WorldItem → WorldItem) → ((item : WorldItem) → role_of types (settle item) ≡ role_of types item) → (es : List Entry) (seen : List ℕ) → ((e : Entry) → Contains es e → IsRoleInRange (length uses) (role_of types e.1)) → DependenciesFirst types uses seen (flat_map (entry_post_order types uses carries settle) es)
    entry_walks_first carries settle keeps [] seen inside = tt
    entry_walks_first carries settle keeps (e ∷ es) seen inside =
        DependenciesFirst-append uses (entry_post_order types uses carries settle e) (flat_map (entry_post_order types uses carries settle) es) seen (entry_walk_first carries settle keeps e seen (inside e (Contains-here e es)))
        (entry_walks_first carries settle keeps es (seen ++ keyed_interfaces (entry_post_order types uses carries settle e)) (λ f has. inside f (Contains-there e f es has)))

  pub DependenciesFirst-fresh : (uses : List (List ℕ)) (es : List Entry) (before : List ℕ) (seen : List WorldKey) → ((j : ℕ) → Contains before j → Contains (interfaces_of_keys seen) j) → DependenciesFirst types uses before es → DependenciesFirst types uses (interfaces_of_keys seen) (fresh_entries seen es)
  DependenciesFirst-fresh uses [] before seen wider df = tt
  DependenciesFirst-fresh uses (e ∷ es) before seen wider df =
      elim (cases_Bool (list_any (same_key e.0) seen)) [
        | inl known ↦ rw (fresh_entries-known seen e es known)
            (DependenciesFirst-fresh uses es (before ++ key_interface e.0) seen (λ j has. elim (Contains-append_cases before (key_interface e.0) j has) [
              | inl old ↦ wider j old
              | inr own ↦ Contains-flat_map key_interface seen e.0 j (contains_from_known e.0 seen known) own
            ]) df.1)
        | inr new ↦ rw (fresh_entries-new seen e es new) (
          (λ k d below. wider _ (df.0 k d below)),
          subst (λ ids. DependenciesFirst types uses ids (fresh_entries (seen ++ e.0 ∷ []) es)) (rw (flat_map-append key_interface seen (e.0 ∷ []), append-nil (key_interface e.0)) refl)
              (DependenciesFirst-fresh uses es (before ++ key_interface e.0) (seen ++ e.0 ∷ []) (λ j has. rw (flat_map-append key_interface seen (e.0 ∷ []), append-nil (key_interface e.0))
              (elim (Contains-append_cases before (key_interface e.0) j has)
              [ inl old ↦ Contains-append_left (interfaces_of_keys seen) (key_interface e.0) j (wider j old) | inr own ↦ Contains-append_right (interfaces_of_keys seen) (key_interface e.0) j own ])) df.1),
        )
      ]
