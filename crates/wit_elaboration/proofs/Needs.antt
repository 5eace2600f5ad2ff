-- What an item needs: it is in range, and of an exported interface what is no exported key.
use Rattle.std.proofs.Common.{◌≡◌, ℕ, ◌<◌, Bool, true, false, not, inl, inr, List, [], ◌∷◌, ◌++◌, filter, length, refl, sym, ap, subst, ◌∙◌, arith, Contains, All}
use Rattle.std.specs.List.{flat_map}
use Rattle.std.proofs.lemmas.Bool.{cases_Bool, false≢true}
use Rattle.std.proofs.lemmas.List.Elements.{All-contains, Contains-append_cases, Contains-append_left, Contains-append_right, Contains-get_or}
use Rattle.wit_digraph.specs.facts.FreshFacts.{any_from_contains, contains_from_any, no_any_from}
use Rattle.wit_digraph.specs.facts.MemberFacts.{Contains-nil, Contains-here, Contains-there, Contains-cons_cases, Contains-flat_map, Contains-flat_map_cases}
use Rattle.wit_digraph.specs.facts.PostOrderFacts.{Reaches-from_post_order, UsesFirst-append, UsesFirst-post_order, UsesFirst-IsPath, post_order-from_IsPath}
use Rattle.wit_digraph.specs.Relation.{direct, IsPath, IsAcyclic, Reaches}
use Rattle.wit_digraph.specs.PostOrder.{post_order}
use Rattle.wit_digraph.specs.steps.PostOrder.{UsesFirst}
use Rattle.wit_elaboration.specs.Elaborated.{dependencies_before}
use Rattle.wit_elaboration.specs.Entries.{Entry, Role, Instance, TypeUse, TypeDefinition, FreeFunction, ResourceFunction, item_interface}
use Rattle.wit_elaboration.specs.Imported.{HasTransitiveConflict, is_exported}
use Rattle.wit_elaboration.specs.laws.Imports.{Needed}
use Rattle.wit_elaboration.specs.Sound.{IsRoleInRange}
use Rattle.wit_elaboration.specs.facts.Filters.{filter-pass, filter-fail, not_true}
use Rattle.wit_elaboration.specs.steps.Parts.{exported_keys, exported_interfaces, interface_needs}

pub path_below : (uses : List (List ℕ)) → IsAcyclic uses → (i : ℕ) (path : List ℕ) (j : ℕ) → i < length uses → IsPath uses i path j → j < length uses
path_below uses acyclic i [] j here same = omega arith
path_below uses acyclic i (k ∷ path) j here leads = path_below uses acyclic k path j (All-contains (λ x. x < length uses) (direct uses i) k (acyclic.in_range i) leads.0) leads.1

-- one more use along a path
pub IsPath-push : (uses : List (List ℕ)) (i : ℕ) (path : List ℕ) (j k : ℕ) → IsPath uses i path j → Contains (direct uses j) k → IsPath uses i (path ++ k ∷ []) k
IsPath-push uses i [] j k same among = (subst (λ m. Contains (direct uses m) k) (sym same) among, refl)
IsPath-push uses i (l ∷ path) j k leads among = (leads.0, IsPath-push uses l path j k leads.1 among)

pub UsesFirst-each : (uses : List (List ℕ)) (f : ℕ → List ℕ) (js seen : List ℕ) → ((j : ℕ) → Contains js j → (more : List ℕ) → UsesFirst uses more (f j)) → UsesFirst uses seen (flat_map f js)
UsesFirst-each uses f [] seen each = tt
UsesFirst-each uses f (j ∷ js) seen each =
    UsesFirst-append uses (f j) (flat_map f js) seen (each j (Contains-here j js) seen) (UsesFirst-each uses f js (seen ++ f j) (λ k has. each k (Contains-there j k js has)))

pub only : (x j : ℕ) → Contains (x ∷ []) j → x ≡ j
only x j has = elim (Contains-cons_cases x j [] has) [ inl same ↦ same | inr none ↦ absurd (Contains-nil none) ]

module _ (uses : List (List ℕ)) (acyclic : IsAcyclic uses) where
  used_below : (i j : ℕ) → Contains (direct uses i) j → j < length uses
  used_below i j among = All-contains (λ x. x < length uses) (direct uses i) j (acyclic.in_range i) among

  -- what an interface needs is reached from a direct use, and the other way round
  pub uses_reached : (i j : ℕ) → Contains (dependencies_before uses (Instance i)) j → (d : ℕ) × (Contains (direct uses i) d × Reaches uses d j)
  uses_reached i j has =
      let part = Contains-flat_map_cases (post_order uses) (direct uses i) j has in
      (part.0, (part.1.0, Reaches-from_post_order uses acyclic part.0 (used_below i part.0 part.1.0) j part.1.1))

  pub reached_uses : (i d j : ℕ) → Contains (direct uses i) d → Reaches uses d j → Contains (dependencies_before uses (Instance i)) j
  reached_uses i d j among reached =
      Contains-flat_map (post_order uses) (direct uses i) d j among (post_order-from_IsPath uses acyclic d reached.0 j (used_below i d among) reached.1)

  pub uses_below : (i j : ℕ) → Contains (dependencies_before uses (Instance i)) j → j < length uses
  uses_below i j has = let on = uses_reached i j has in path_below uses acyclic on.0 on.1.1.0 j (used_below i on.0 on.1.0) on.1.1.1

  pub needs_below : (role : Role) (j : ℕ) → IsRoleInRange (length uses) role → Contains (dependencies_before uses role) j → j < length uses
  needs_below (Instance i) j inside has = uses_below i j has
  needs_below (TypeUse i) j inside has = let path = Reaches-from_post_order uses acyclic i inside j has in path_below uses acyclic i path.0 j inside path.1
  needs_below TypeDefinition j inside has = absurd (Contains-nil has)
  needs_below FreeFunction j inside has = absurd (Contains-nil has)
  needs_below ResourceFunction j inside has = absurd (Contains-nil has)

  -- a closed list that has the direct uses has all that is needed
  pub uses_in : (i : ℕ) (s : List ℕ) (j : ℕ) → All (Contains s) (direct uses i) → UsesFirst uses [] s → Contains (dependencies_before uses (Instance i)) j → Contains s j
  uses_in i s j on first has =
      let part = uses_reached i j has in UsesFirst-IsPath uses s part.0 part.1.1.0 j first (All-contains (Contains s) (direct uses i) part.0 on part.1.0) part.1.1.1

  pub uses_first : (i : ℕ) (seen : List ℕ) → UsesFirst uses seen (dependencies_before uses (Instance i))
  uses_first i seen = UsesFirst-each uses (post_order uses) (direct uses i) seen (λ j among more. UsesFirst-post_order uses acyclic j (used_below i j among) more)

  -- what the interface of an entry needs stands in order
  pub entry_first : (e : Entry) (seen : List ℕ) → UsesFirst uses seen (interface_needs uses e)
  entry_first e seen = UsesFirst-each uses (λ i. dependencies_before uses (Instance i)) (item_interface e.1) seen (λ i has more. uses_first i more)

  -- those that a test picks stand in order, where what they use is picked too
  picked_first : (picks : ℕ → Bool) (xs before seen : List ℕ) → ((x k : ℕ) → Contains xs x → picks x ≡ true → Contains (direct uses x) k → picks k ≡ true)
      → ((j : ℕ) → Contains before j → picks j ≡ true → Contains seen j) → UsesFirst uses before xs → UsesFirst uses seen (filter picks xs)
  picked_first picks [] before seen closed there first = tt
  picked_first picks (x ∷ xs) before seen closed there first =
      let closed_on : (y k : ℕ) → Contains xs y → picks y ≡ true → Contains (direct uses y) k → picks k ≡ true = λ y k has. closed y k (Contains-there x y xs has) in
      elim (cases_Bool (picks x)) [
        | inl on ↦ rw (filter-pass picks x xs on) (
          λ at d below. there _ (first.0 at d below) (closed x _ (Contains-here x xs) on (Contains-get_or (direct uses x) at d below)),
          picked_first picks xs (before ++ x ∷ []) (seen ++ x ∷ []) closed_on (λ j has pass. elim (Contains-append_cases before (x ∷ []) j has)
              [ inl old ↦ Contains-append_left seen (x ∷ []) j (there j old pass) | inr last ↦ Contains-append_right seen (x ∷ []) j last ]) first.1,
        )
        | inr off ↦ rw (filter-fail picks x xs off)
            (picked_first picks xs (before ++ x ∷ []) seen closed_on (λ j has pass. elim (Contains-append_cases before (x ∷ []) j has) [
              | inl old ↦ there j old pass
              | inr last ↦ absurd (false≢true (sym off ∙ ap picks (only x j last) ∙ pass))
            ]) first.1)
      ]

  -- ---- what exports need from outside

  module _ (exports : List Entry) (own : (j : ℕ) → Contains (exported_keys exports) j → Contains (exported_interfaces exports) j) where
    needed_path : (i k : ℕ) (path : List ℕ) (j : ℕ) → Contains (exported_interfaces exports) i → Contains (direct uses i) k → IsPath uses k path j → is_exported exports j ≡ false → Needed uses exports j
    needed_path i k [] j exported among leads off =
        (i, k, exported, among, λ has. false≢true (sym off ∙ ap (is_exported exports) (sym leads) ∙ any_from_contains k (exported_keys exports) has), ([], leads))
    needed_path i k (l ∷ path) j exported among leads off =
        elim (cases_Bool (is_exported exports k)) [
          | inl on ↦ needed_path k l path j (own k (contains_from_any k (exported_keys exports) on)) leads.0 leads.1 off
          | inr out ↦ (i, k, exported, among, λ has. false≢true (sym out ∙ any_from_contains k (exported_keys exports) has), (l ∷ path, leads))
        ]

    -- what an exported interface needs and is no exported key is needed from outside
    pub outside_needed : (i j : ℕ) → Contains (exported_interfaces exports) i → Contains (dependencies_before uses (Instance i)) j → is_exported exports j ≡ false → Needed uses exports j
    outside_needed i j exported has off = let on = uses_reached i j has in needed_path i on.0 on.1.1.0 j exported on.1.0 on.1.1.1 off

    module _ (no_conflict : HasTransitiveConflict uses exports → ⊥) where
      -- what is needed from outside is no exported key
      pub needed_off : (j : ℕ) → Needed uses exports j → is_exported exports j ≡ false
      needed_off j need = no_any_from j (exported_keys exports) (λ on. no_conflict (need.0, need.1, need.2, need.3, (need.4, j, need.5, on)))

      -- and uses none
      needed_closed : (j k : ℕ) → Needed uses exports j → Contains (direct uses j) k → is_exported exports k ≡ false
      needed_closed j k need among = needed_off k (need.0, need.1, need.2, need.3, need.4, (need.5.0 ++ k ∷ [], IsPath-push uses need.1 need.5.0 j k need.5.1 among))

      -- so it stands in order
      pub outside_first : (e : Entry) (seen : List ℕ) → Contains exports e → UsesFirst uses seen (filter (λ j. not (is_exported exports j)) (interface_needs uses e))
      outside_first e seen there =
          picked_first (λ j. not (is_exported exports j)) (interface_needs uses e) [] seen
          (λ x k has off among.
          let at = Contains-flat_map_cases (λ i. dependencies_before uses (Instance i)) (item_interface e.1) x has in
          let exported = Contains-flat_map (λ (f : Entry). item_interface f.1) exports e at.0 there at.1.0 in
          ap not (needed_closed x k (outside_needed at.0 x exported at.1.1 (not_true (is_exported exports x) off)) among))
          (λ j has pass. absurd (Contains-nil has)) (entry_first e [])
