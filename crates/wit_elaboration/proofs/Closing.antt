-- The rows of an order in which uses come first.
use Rattle.std.proofs.Common.{◌≡◌, ℕ, ◌<◌, inl, inr, List, [], ◌∷◌, ◌++◌, get_or, set, take, length, sym, subst, ◌∙◌, arith, Contains, All, nat_eq}
use Rattle.std.specs.List.{flat_map, IsDistinct}
use Rattle.std.proofs.lemmas.Bool.{cases_eq}
use Rattle.std.proofs.lemmas.List.{get_or_default, get_or-set_same, get_or-set_other, length-set}
use Rattle.std.proofs.lemmas.List.Elements.{All-contains, All-push, Contains-get_or}
use Rattle.wit_digraph.specs.facts.MemberFacts.{Contains-flat_map, Contains-flat_map_cases}
use Rattle.wit_digraph.specs.facts.PostOrderFacts.{Contains-post_order_end, Reaches-from_post_order, UsesFirst-post_order, UsesFirst-flat_map}
use Rattle.wit_digraph.specs.facts.FreshFacts.{fresh_in, fresh_all, UsesFirst-fresh, IsDistinct-fresh}
use Rattle.wit_digraph.specs.Relation.{direct, IsPath, IsAcyclic}
use Rattle.wit_digraph.specs.PostOrder.{post_order, first_of_each}
use Rattle.wit_digraph.specs.steps.PostOrder.{UsesFirst}
use Rattle.wit_elaboration.proofs.Marking.{UsesFirst-at}
use Rattle.wit_elaboration.specs.steps.Closures.{AreRowsOfAll, IsOrder, IsRowOf}

-- what is reached is there
pub IsPath-below : (uses : List (List ℕ)) → IsAcyclic uses → (i : ℕ) (path : List ℕ) (j : ℕ) → i < length uses → IsPath uses i path j → j < length uses
IsPath-below uses acyclic i [] j here same = omega arith
IsPath-below uses acyclic i (k ∷ path) j here leads = IsPath-below uses acyclic k path j (All-contains (λ x. x < length uses) (direct uses i) k (acyclic.in_range i) leads.0) leads.1

module _ (uses : List (List ℕ)) (acyclic : IsAcyclic uses) (all order : List ℕ) (few : length all ≡ length uses) (each : (k : ℕ) → k < length uses → get_or all k 0 ≡ k) (is : order ≡ first_of_each (flat_map (post_order uses) all)) where
  pub all_below : All (λ i. i < length uses) all
  all_below k d below = rw (get_or_default all k d 0 below, each k (omega arith)) (omega arith)

  order_below : (i : ℕ) → Contains order i → i < length uses
  order_below i has =
      let part = Contains-flat_map_cases (post_order uses) all i (fresh_in [] (flat_map (post_order uses) all) i (subst (λ o. Contains o i) is has)) in
      let inside = All-contains (λ x. x < length uses) all part.0 all_below part.1.0 in
      let path = Reaches-from_post_order uses acyclic part.0 inside i part.1.1 in
      IsPath-below uses acyclic part.0 path.0 i inside path.1

  pub order_is_order : IsOrder uses order
  order_is_order = record {
    all = λ i below.
        let among : Contains all i = (i, omega arith, get_or_default all i i 0 (omega arith) ∙ each i below) in
        subst (λ o. Contains o i) (sym is) (fresh_all [] (flat_map (post_order uses) all) i (Contains-flat_map (post_order uses) all i i among (Contains-post_order_end uses acyclic i below)));
    in_range = λ k d below. order_below (get_or order k d) (Contains-get_or order k d below);
    uses_first = subst (λ o. UsesFirst uses [] o) (sym is)
        (UsesFirst-fresh uses (flat_map (post_order uses) all) [] [] (λ j has. has)
        (UsesFirst-flat_map uses all [] (λ j among. UsesFirst-post_order uses acyclic j (All-contains (λ x. x < length uses) all j all_below among))));
  }

  pub order_is_distinct : IsDistinct nat_eq order
  order_is_distinct = subst (λ o. IsDistinct nat_eq o) (sym is) (IsDistinct-fresh [] (flat_map (post_order uses) all))

-- the rows of those done tell what they reach
pub record IsClosing (uses : List (List ℕ)) (rows : List (List ℕ)) (done : List ℕ) : Type 0 where
  pub long : length rows ≡ length uses
  pub told : All (λ j. IsRowOf uses (direct rows j) j) done

pub IsClosing-told : (uses : List (List ℕ)) (rows : List (List ℕ)) (order : List ℕ) (k : ℕ) → IsClosing uses rows (take k order) → UsesFirst uses [] order → k < length order →
    All (λ j. IsRowOf uses (direct rows j) j) (direct uses (get_or order k 0))
IsClosing-told uses rows order k is first below m d inside =
    All-contains (λ j. IsRowOf uses (direct rows j) j) (take k order) (get_or (direct uses (get_or order k 0)) m d) is.told
    (UsesFirst-at uses order k [] first below (get_or (direct uses (get_or order k 0)) m d) (Contains-get_or (direct uses (get_or order k 0)) m d inside))

pub IsClosing-more : (uses : List (List ℕ)) (rows : List (List ℕ)) (done row : List ℕ) (i : ℕ) → IsClosing uses rows done → i < length uses → IsRowOf uses row i → IsClosing uses (set rows i row) (done ++ i ∷ [])
IsClosing-more uses rows done row i is below new = record {
  long = length-set rows i row ∙ is.long;
  told = All-push (λ j. IsRowOf uses (direct (set rows i row) j) j) done i
      (λ k d inside. elim (cases_eq (get_or done k d) i) [
        | inl same ↦ rw (same, get_or-set_same rows i row [] (omega (arith, is.long))) new
        | inr apart ↦ rw (get_or-set_other rows i (get_or done k d) row [] apart) (is.told k d inside)
      ])
      (rw (get_or-set_same rows i row [] (omega (arith, is.long))) new);
}

pub IsClosing-end : (uses : List (List ℕ)) (rows : List (List ℕ)) (order : List ℕ) → IsClosing uses rows order → ((i : ℕ) → i < length uses → Contains order i) → AreRowsOfAll uses rows
IsClosing-end uses rows order is has = record {
  long = is.long;
  each = λ i below. All-contains (λ k. IsRowOf uses (direct rows k) k) order i is.told (has i below);
}
