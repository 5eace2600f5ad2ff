-- The post-orders of entries whose dependencies stand before them add nothing.
use Rattle.std.proofs.Common.{◌≡◌, ℕ, true, List, [], ◌∷◌, ◌++◌, map, append_assoc, length, refl, subst, Contains, All}
use Rattle.std.specs.List.{flat_map, list_any}
use Rattle.std.proofs.lemmas.List.{append-nil}
use Rattle.std.proofs.lemmas.List.Elements.{All-contains}
use Rattle.wit_data.specs.declared.types.TypeDef.{TypeDef}
use Rattle.wit_data.specs.declared.world.WorldItem.{WorldItem}
use Rattle.wit_data.specs.declared.world.WorldKey.{WorldKey}
use Rattle.wit_data.specs.declared.world.WorldKey.TheVariants.{Name, Interface}
use Rattle.wit_digraph.specs.facts.MemberFacts.{Contains-nil, Contains-here, Contains-there}
use Rattle.wit_digraph.specs.facts.PostOrderFacts.{Reaches-from_post_order, UsesFirst-append, UsesFirst-IsPath}
use Rattle.wit_digraph.specs.Relation.{IsAcyclic}
use Rattle.wit_digraph.specs.steps.PostOrder.{UsesFirst}
use Rattle.wit_elaboration.specs.Entries.{Entry, Role, Instance, TypeUse, TypeDefinition, FreeFunction, ResourceFunction, role_of, key_interface, same_key, fresh_entries}
use Rattle.wit_elaboration.specs.Elaborated.{InheritedData, dependency_of, dependencies_before}
use Rattle.wit_elaboration.specs.laws.ElaborationLaws.{stands_on, DependenciesFirst}
use Rattle.wit_elaboration.specs.Sound.{IsRoleInRange}
use Rattle.wit_elaboration.specs.facts.FreshEntries.{AllNew, interfaces_of_keys, ids-push, id_known, Contains-deps, fresh_entries-all_known, fresh_entries-new}
use Rattle.wit_elaboration.specs.facts.Order.{AreOwn}
use Rattle.wit_elaboration.specs.steps.Parts.{entry_post_order}
use Rattle.wit_elaboration.proofs.Needs.{uses_in}

module _ (types : List TypeDef) where
  module _ (uses : List (List ℕ)) (acyclic : IsAcyclic uses) where
    pub needs_in : (role : Role) (s : List ℕ) (j : ℕ) → IsRoleInRange (length uses) role → All (Contains s) (stands_on uses role) → UsesFirst uses [] s → Contains (dependencies_before uses role) j → Contains s j
    needs_in (Instance i) s j inside on first has = uses_in uses acyclic i s j on first has
    needs_in (TypeUse i) s j inside on first has =
        let path = Reaches-from_post_order uses acyclic i inside j has in
        UsesFirst-IsPath uses s i path.0 j first (All-contains (Contains s) (i ∷ []) i on (Contains-here i [])) path.1
    needs_in TypeDefinition s j inside on first has = absurd (Contains-nil has)
    needs_in FreeFunction s j inside on first has = absurd (Contains-nil has)
    needs_in ResourceFunction s j inside on first has = absurd (Contains-nil has)

    first_more : (s : List ℕ) (k : WorldKey) (role : Role) → UsesFirst uses [] s → All (Contains s) (stands_on uses role) → ((i : ℕ) → k ≡ Interface i → role ≡ Instance i) → UsesFirst uses [] (s ++ key_interface k)
    first_more s (Name n) role first on own = rw append-nil first
    first_more s (Interface i) role first on own = UsesFirst-append uses s (i ∷ []) [] first (subst (λ it. All (Contains s) (stands_on uses it)) (own i refl) on, tt)

    pub absorbed : (carries : WorldItem → InheritedData) (settle : WorldItem → WorldItem) (es : List Entry) (seen : List WorldKey) → AllNew seen es → DependenciesFirst types uses (interfaces_of_keys seen) es → UsesFirst uses [] (interfaces_of_keys seen) → AreOwn types es →
        ((e : Entry) → Contains es e → IsRoleInRange (length uses) (role_of types e.1)) → ((e : Entry) → Contains es e → settle e.1 ≡ e.1) → fresh_entries seen (flat_map (entry_post_order types uses carries settle) es) ≡ es
    absorbed carries settle [] seen new df first own inside settles = refl
    absorbed carries settle (e ∷ es) seen new df first own inside settles =
        let rest : List Entry = flat_map (entry_post_order types uses carries settle) es in
        let deps : List Entry = map (dependency_of (carries e.1)) (dependencies_before uses (role_of types e.1)) in
        let skip : fresh_entries seen (deps ++ ((e.0, settle e.1) ∷ rest)) ≡ fresh_entries seen ((e.0, settle e.1) ∷ rest) =
        fresh_entries-all_known seen deps ((e.0, settle e.1) ∷ rest) (λ f has.
        let part = Contains-deps (carries e.1) (dependencies_before uses (role_of types e.1)) f has in
        let known = id_known part.0 seen (needs_in (role_of types e.1) (interfaces_of_keys seen) part.0 (inside e (Contains-here e es)) df.0 first part.1.0) in
        subst (λ (z : Entry). list_any (same_key z.0) seen ≡ true) part.1.1 known) in
        let more : fresh_entries (seen ++ e.0 ∷ []) rest ≡ es =
        absorbed carries settle es (seen ++ e.0 ∷ []) new.1 (rw ids-push df.1)
        (rw ids-push (first_more (interfaces_of_keys seen) e.0 (role_of types e.1) first df.0 (λ i. own e i (Contains-here e es))))
        (λ f i has. own f i (Contains-there e f es has)) (λ f has. inside f (Contains-there e f es has)) (λ f has. settles f (Contains-there e f es has)) in
        rw (append_assoc deps ((e.0, settle e.1) ∷ []) rest, skip, settles e (Contains-here e es), fresh_entries-new seen e rest new.0, more) refl
