-- Rows that are added after those of acyclic uses change nothing of what the old nodes reach.
use Rattle.std.proofs.Common.{◌≡◌, ℕ, zero, suc, ◌<◌, List, [], ◌∷◌, ◌++◌, length, length-append, refl, sym, ap, subst, ◌∙◌, arith, Contains}
use Rattle.std.specs.List.{flat_map}
use Rattle.std.proofs.lemmas.List.Elements.{All-contains}
use Rattle.wit_digraph.specs.facts.MemberFacts.{flat_map-same}
use Rattle.wit_digraph.specs.facts.PostOrderFacts.{post_order_is, uses_ind}
use Rattle.wit_digraph.specs.Relation.{direct, IsPath, IsAcyclic}
use Rattle.wit_digraph.specs.PostOrder.{post_order}
use Rattle.wit_elaboration.specs.Elaborated.{dependencies_before}
use Rattle.wit_elaboration.specs.Entries.{Entry, item_interface, Role, Instance, TypeUse, TypeDefinition, FreeFunction, ResourceFunction}
use Rattle.wit_elaboration.specs.Sound.{IsRoleInRange}
use Rattle.wit_elaboration.specs.steps.Parts.{interface_needs}

pub direct-left : (uses rows : List (List ℕ)) (i : ℕ) → i < length uses → direct (uses ++ rows) i ≡ direct uses i
direct-left [] rows i here = absurd (omega (arith, here))
direct-left (row ∷ uses) rows zero here = refl
direct-left (row ∷ uses) rows (suc i) here = direct-left uses rows i (omega (arith, here))

below-left : (uses rows : List (List ℕ)) (i : ℕ) → i < length uses → i < length (uses ++ rows)
below-left uses rows i here = omega (arith, here, length-append uses rows)

module _ (uses : List (List ℕ)) (acyclic : IsAcyclic uses) where
  pub used_below : (i j : ℕ) → Contains (direct uses i) j → j < length uses
  used_below i j among = All-contains (λ x. x < length uses) (direct uses i) j (acyclic.in_range i) among

  -- a path that begins at an old node is an old path
  pub IsPath-left : (rows : List (List ℕ)) (i : ℕ) (path : List ℕ) (j : ℕ) → i < length uses → IsPath (uses ++ rows) i path j → IsPath uses i path j
  IsPath-left rows i [] j here same = same
  IsPath-left rows i (k ∷ path) j here leads =
      let among : Contains (direct uses i) k = subst (λ ks. Contains ks k) (direct-left uses rows i here) leads.0 in
      (among, IsPath-left rows k path j (used_below i k among) leads.1)

  pub post_order-left : (rows : List (List ℕ)) → IsAcyclic (uses ++ rows) → (i : ℕ) → i < length uses → post_order (uses ++ rows) i ≡ post_order uses i
  post_order-left rows wider =
      uses_ind uses acyclic (λ i. post_order (uses ++ rows) i ≡ post_order uses i)
      (λ i here below.
      post_order_is (uses ++ rows) wider i (below-left uses rows i here)
      ∙ ap (λ ks. flat_map (post_order (uses ++ rows)) ks ++ i ∷ []) (direct-left uses rows i here)
      ∙ ap (λ front. front ++ i ∷ []) (flat_map-same (post_order (uses ++ rows)) (post_order uses) (direct uses i) below)
      ∙ sym (post_order_is uses acyclic i here))

  pub dependencies_before-left : (rows : List (List ℕ)) → IsAcyclic (uses ++ rows) → (role : Role) → IsRoleInRange (length uses) role → dependencies_before (uses ++ rows) role ≡ dependencies_before uses role
  dependencies_before-left rows wider (Instance i) inside =
      ap (λ ks. flat_map (post_order (uses ++ rows)) ks) (direct-left uses rows i inside)
      ∙ flat_map-same (post_order (uses ++ rows)) (post_order uses) (direct uses i) (λ j among. post_order-left rows wider j (used_below i j among))
  dependencies_before-left rows wider (TypeUse i) inside = post_order-left rows wider i inside
  dependencies_before-left rows wider TypeDefinition inside = refl
  dependencies_before-left rows wider FreeFunction inside = refl
  dependencies_before-left rows wider ResourceFunction inside = refl

  pub interface_needs-left : (rows : List (List ℕ)) → IsAcyclic (uses ++ rows) → (e : Entry) → ((i : ℕ) → Contains (item_interface e.1) i → i < length uses) → interface_needs (uses ++ rows) e ≡ interface_needs uses e
  interface_needs-left rows wider e inside =
      flat_map-same (λ i. dependencies_before (uses ++ rows) (Instance i)) (λ i. dependencies_before uses (Instance i)) (item_interface e.1) (λ i has. dependencies_before-left rows wider (Instance i) (inside i has))
