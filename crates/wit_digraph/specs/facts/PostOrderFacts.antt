-- Facts on walks, for the proofs of this crate and of the crates above: how a walk unfolds, and what it
-- reaches. They say nothing about this crate's code.
use Rattle.std.proofs.Common.{◌≡◌, ℕ, ◌<◌, zero, suc, false, List, [], ◌∷◌, ◌++◌, inl, inr, length, take, slice_get, Some, refl, sym, ap, subst, get_or, append_assoc, arith, eqb, Contains, All}
use Rattle.std.specs.List.{flat_map, IsDistinct}
use Rattle.std.proofs.lemmas.List.Elements.{Contains-append_cases, Contains-append_left, Contains-append_right, Contains-push}
use Rattle.std.proofs.lemmas.Map.Steps.{length-le_from_distinct_below}
use Rattle.std.proofs.lemmas.Map.Views.{Contains-from_any}
use Rattle.std.proofs.lemmas.Bool.{eqb-true, ne_eqb}
use Rattle.std.proofs.lemmas.List.Elements.{recursion_from_All, Contains-get_or, All-contains}
use Rattle.std.proofs.lemmas.List.{append-nil}
use Rattle.wit_digraph.specs.facts.MemberFacts.{Contains-nil, Contains-here, Contains-there, Contains-cons_cases, flat_map-same, Contains-flat_map, Contains-flat_map_cases}
use Rattle.wit_digraph.specs.Relation.{direct, IsPath, Reaches, IsAcyclic}
use Rattle.wit_digraph.specs.PostOrder.{post_order_within, post_order}
use Rattle.wit_digraph.specs.steps.PostOrder.{UsesFirst}

-- every path from i has fewer members than this after i
abbrev pub HasShortPaths : List (List ℕ) → ℕ → ℕ → Type 0
HasShortPaths uses members i =
    (path : List ℕ) (j : ℕ) → IsPath uses i path j → length path < members

pub post_order_within-more : (uses : List (List ℕ)) (members i : ℕ) → HasShortPaths uses members i → post_order_within uses (suc members) i ≡ post_order_within uses members i
unfolding post_order_within
post_order_within-more uses zero i short = absurd (omega (arith, short [] i refl))
post_order_within-more uses (suc members) i short =
    let same : flat_map (post_order_within uses (suc members)) (direct uses i) ≡ flat_map (post_order_within uses members) (direct uses i) =
    flat_map-same _ _ (direct uses i) (λ k h. post_order_within-more uses members k (λ path j leads. omega (arith, short (k ∷ path) j (h, leads)))) in
    ap (λ front. front ++ i ∷ []) same

-- each member of a path is reached from its start along a path of two or more
pub IsPath-to_member : (uses : List (List ℕ)) (i k : ℕ) (path : List ℕ) (j m : ℕ) → IsPath uses i (k ∷ path) j → Contains (k ∷ path) m → (front : List ℕ) × IsPath uses i (k ∷ front) m
IsPath-to_member uses i k [] j m leads has =
    elim (Contains-cons_cases k m [] has) [ inl same ↦ ([], (leads.0, same)) | inr none ↦ absurd (Contains-nil none) ]
IsPath-to_member uses i k (l ∷ path) j m leads has =
    elim (Contains-cons_cases k m (l ∷ path) has) [
      | inl same ↦ ([], (leads.0, same))
      | inr there ↦ let more = IsPath-to_member uses k l path j m leads.1 there in (l ∷ more.0, (leads.0, more.1))
    ]

-- the members of a path that does not come round are distinct
pub IsPath-distinct : (uses : List (List ℕ)) → IsAcyclic uses → (i : ℕ) (path : List ℕ) (j : ℕ) → IsPath uses i path j → IsDistinct eqb (i ∷ path)
unfolding IsDistinct
IsPath-distinct uses acyclic i [] j leads = (tt, tt)
IsPath-distinct uses acyclic i (k ∷ path) j leads =
    let apart : All (λ m. eqb i m ≡ false) (k ∷ path) =
    λ at d below. ne_eqb i (get_or (k ∷ path) at d) (λ same.
    let has : Contains (k ∷ path) i = subst (λ m. Contains (k ∷ path) m) (sym same) (Contains-get_or (k ∷ path) at d below) in
    let back = IsPath-to_member uses i k path j i leads has in
    acyclic.no_cycle i k back.0 back.1) in
    (recursion_from_All _ (k ∷ path) apart, IsPath-distinct uses acyclic k path j leads.1)

-- and they are in range
pub IsPath-in_range : (uses : List (List ℕ)) → IsAcyclic uses → (i : ℕ) (path : List ℕ) (j m : ℕ) → i < length uses → IsPath uses i path j → Contains (i ∷ path) m → m < length uses
IsPath-in_range uses acyclic i [] j m here leads has =
    elim (Contains-cons_cases i m [] has) [ inl same ↦ omega arith | inr none ↦ absurd (Contains-nil none) ]
IsPath-in_range uses acyclic i (k ∷ path) j m here leads has =
    elim (Contains-cons_cases i m (k ∷ path) has) [
      | inl same ↦ omega arith
      | inr there ↦ IsPath-in_range uses acyclic k path j m (All-contains (λ x. x < length uses) (direct uses i) k (acyclic.in_range i) leads.0) leads.1 there
    ]

pub IsAcyclic-short : (uses : List (List ℕ)) → IsAcyclic uses → (i : ℕ) → i < length uses → HasShortPaths uses (length uses) i
IsAcyclic-short uses acyclic i here path j leads =
    let few = length-le_from_distinct_below (i ∷ path) (length uses) (IsPath-distinct uses acyclic i path j leads)
    (λ q found. IsPath-in_range uses acyclic i path j q here leads (Contains-from_any eqb-true q (i ∷ path) found)) in
    omega (arith, few)

-- the walk's equation: the post-orders of the direct uses in order, then the node
pub post_order_is : (uses : List (List ℕ)) → IsAcyclic uses → (i : ℕ) → i < length uses → post_order uses i ≡ flat_map (post_order uses) (direct uses i) ++ i ∷ []
unfolding post_order_within post_order
post_order_is uses acyclic i here = sym (post_order_within-more uses (length uses) i (IsAcyclic-short uses acyclic i here))

-- what holds of a node where it holds of its direct uses holds of each
uses_ind_within : (uses : List (List ℕ)) → IsAcyclic uses → (P : ℕ → Type 0) → ((i : ℕ) → i < length uses → ((j : ℕ) → Contains (direct uses i) j → P j) → P i) → (members i : ℕ) → i < length uses → HasShortPaths uses members i → P i
uses_ind_within uses acyclic P step zero i here short = absurd (omega (arith, short [] i refl))
uses_ind_within uses acyclic P step (suc members) i here short =
    step i here (λ j edge. uses_ind_within uses acyclic P step members j (All-contains (λ x. x < length uses) (direct uses i) j (acyclic.in_range i) edge) (λ path k leads. omega (arith, short (j ∷ path) k (edge, leads))))

pub uses_ind : (uses : List (List ℕ)) → IsAcyclic uses → (P : ℕ → Type 0) → ((i : ℕ) → i < length uses → ((j : ℕ) → Contains (direct uses i) j → P j) → P i) → (i : ℕ) → i < length uses → P i
uses_ind uses acyclic P step i here = uses_ind_within uses acyclic P step (length uses) i here (IsAcyclic-short uses acyclic i here)

-- a walk's members are exactly what is reached
pub Contains-post_order_end : (uses : List (List ℕ)) → IsAcyclic uses → (i : ℕ) → i < length uses → Contains (post_order uses i) i
Contains-post_order_end uses acyclic i here = rw (post_order_is uses acyclic i here) (Contains-push (flat_map (post_order uses) (direct uses i)) i)

pub Reaches-from_post_order : (uses : List (List ℕ)) → IsAcyclic uses → (i : ℕ) → i < length uses → (m : ℕ) → Contains (post_order uses i) m → Reaches uses i m
Reaches-from_post_order uses acyclic =
    uses_ind uses acyclic (λ i. (m : ℕ) → Contains (post_order uses i) m → Reaches uses i m)
    (λ i here below m has.
    elim (Contains-append_cases (flat_map (post_order uses) (direct uses i)) (i ∷ []) m (rw (post_order_is uses acyclic i here) at has)) [
      | inl under ↦ let part = Contains-flat_map_cases (post_order uses) (direct uses i) m under in
          let on = below part.0 part.1.0 m part.1.1 in (part.0 ∷ on.0, (part.1.0, on.1))
      | inr last ↦ elim (Contains-cons_cases i m [] last) [ inl same ↦ ([], same) | inr none ↦ absurd (Contains-nil none) ]
    ])

pub post_order-from_IsPath : (uses : List (List ℕ)) → IsAcyclic uses → (i : ℕ) (path : List ℕ) (m : ℕ) → i < length uses → IsPath uses i path m → Contains (post_order uses i) m
post_order-from_IsPath uses acyclic i [] m here same = subst (λ x. Contains (post_order uses i) x) same (Contains-post_order_end uses acyclic i here)
post_order-from_IsPath uses acyclic i (k ∷ path) m here leads =
    let on = post_order-from_IsPath uses acyclic k path m (All-contains (λ x. x < length uses) (direct uses i) k (acyclic.in_range i) leads.0) leads.1 in
    rw (post_order_is uses acyclic i here) (Contains-append_left _ (i ∷ []) m (Contains-flat_map (post_order uses) (direct uses i) k m leads.0 on))

-- ---- uses first
pub UsesFirst-wider : (uses : List (List ℕ)) (xs seen more : List ℕ) → ((j : ℕ) → Contains seen j → Contains more j) → UsesFirst uses seen xs → UsesFirst uses more xs
UsesFirst-wider uses [] seen more wider first = tt
UsesFirst-wider uses (i ∷ xs) seen more wider first = (
  λ k d below. wider _ (first.0 k d below),
  UsesFirst-wider uses xs (seen ++ i ∷ []) (more ++ i ∷ []) (λ j has. elim (Contains-append_cases seen (i ∷ []) j has)
      [ inl old ↦ Contains-append_left more (i ∷ []) j (wider j old) | inr new ↦ Contains-append_right more (i ∷ []) j new ]) first.1,
)

pub UsesFirst-append : (uses : List (List ℕ)) (xs ys seen : List ℕ) → UsesFirst uses seen xs → UsesFirst uses (seen ++ xs) ys → UsesFirst uses seen (xs ++ ys)
UsesFirst-append uses [] ys seen first then = rw append-nil at then
UsesFirst-append uses (i ∷ xs) ys seen first then =
    (first.0, UsesFirst-append uses xs ys (seen ++ i ∷ []) first.1 (rw (append_assoc seen (i ∷ []) xs) then))

pub UsesFirst-left : (uses : List (List ℕ)) (xs ys seen : List ℕ) → UsesFirst uses seen (xs ++ ys) → UsesFirst uses seen xs
UsesFirst-left uses [] ys seen first = tt
UsesFirst-left uses (i ∷ xs) ys seen first = (first.0, UsesFirst-left uses xs ys (seen ++ i ∷ []) first.1)

pub UsesFirst-flat_map : (uses : List (List ℕ)) (js seen : List ℕ) → ((j : ℕ) → Contains js j → (more : List ℕ) → UsesFirst uses more (post_order uses j)) → UsesFirst uses seen (flat_map (post_order uses) js)
UsesFirst-flat_map uses [] seen each = tt
UsesFirst-flat_map uses (j ∷ js) seen each =
    UsesFirst-append uses (post_order uses j) (flat_map (post_order uses) js) seen (each j (Contains-here j js) seen)
    (UsesFirst-flat_map uses js (seen ++ post_order uses j) (λ k has. each k (Contains-there j k js has)))

pub UsesFirst-post_order : (uses : List (List ℕ)) → IsAcyclic uses → (i : ℕ) → i < length uses → (seen : List ℕ) → UsesFirst uses seen (post_order uses i)
UsesFirst-post_order uses acyclic =
    uses_ind uses acyclic (λ i. (seen : List ℕ) → UsesFirst uses seen (post_order uses i))
    (λ i here below seen. rw (post_order_is uses acyclic i here)
    (UsesFirst-append uses (flat_map (post_order uses) (direct uses i)) (i ∷ []) seen (UsesFirst-flat_map uses (direct uses i) seen below) (
      λ k d under. let edge = Contains-get_or (direct uses i) k d under in
          let there = All-contains (λ x. x < length uses) (direct uses i) _ (acyclic.in_range i) edge in
          Contains-append_right seen _ _ (Contains-flat_map (post_order uses) (direct uses i) _ _ edge (Contains-post_order_end uses acyclic _ there)),
      tt,
    )))

-- what has each member's uses before it has all that its members reach
pub UsesFirst-use : (uses : List (List ℕ)) (xs seen : List ℕ) (i j : ℕ) → UsesFirst uses seen xs → Contains xs i → Contains (direct uses i) j → Contains (seen ++ xs) j
UsesFirst-use uses [] seen i j first among edge = absurd (Contains-nil among)
UsesFirst-use uses (x ∷ xs) seen i j first among edge =
    elim (Contains-cons_cases x i xs among) [
      | inl same ↦ Contains-append_left seen (x ∷ xs) j (All-contains (Contains seen) (direct uses x) j first.0 (subst (λ y. Contains (direct uses y) j) (sym same) edge))
      | inr there ↦ rw (append_assoc seen (x ∷ []) xs) at (UsesFirst-use uses xs (seen ++ x ∷ []) i j first.1 there edge)
    ]

-- what the member at a place uses was seen or stands before it
pub UsesFirst-at : (uses : List (List ℕ)) (xs seen : List ℕ) (k i j : ℕ) → UsesFirst uses seen xs → slice_get xs k ≡ Some i → Contains (direct uses i) j → Contains (seen ++ take k xs) j
UsesFirst-at uses [] seen k i j first at edge = cc
UsesFirst-at uses (x ∷ xs) seen zero i j first at edge =
    let same : x ≡ i = cc in
    Contains-append_left seen [] j (All-contains (Contains seen) (direct uses x) j first.0 (subst (λ y. Contains (direct uses y) j) (sym same) edge))
UsesFirst-at uses (x ∷ xs) seen (suc k) i j first at edge = rw (append_assoc seen (x ∷ []) (take k xs)) at (UsesFirst-at uses xs (seen ++ x ∷ []) k i j first.1 at edge)

pub UsesFirst-IsPath : (uses : List (List ℕ)) (xs : List ℕ) (i : ℕ) (path : List ℕ) (j : ℕ) → UsesFirst uses [] xs → Contains xs i → IsPath uses i path j → Contains xs j
UsesFirst-IsPath uses xs i [] j first among same = subst (λ x. Contains xs x) same among
UsesFirst-IsPath uses xs i (k ∷ path) j first among leads =
    UsesFirst-IsPath uses xs k path j first (UsesFirst-use uses xs [] i k first among leads.0) leads.1
