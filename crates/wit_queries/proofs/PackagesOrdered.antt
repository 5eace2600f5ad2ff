-- The packages in order: each once, after those that it depends on.
use Rattle.std.proofs.Common.{◌≡◌, ℕ, ◌+◌, ◌<◌, List, [], ◌∷◌, length, All, Contains, refl, sym, subst, arith, get_or}
use Rattle.std.specs.List.{flat_map, range_with_len}
use Rattle.std.proofs.lemmas.List.FromFn.{get_or-range_with_len, length-range_with_len}
use Rattle.std.proofs.lemmas.List.Elements.{All-contains}
use Rattle.wit_digraph.specs.laws.Laws.{FirstsAreOnce, PostOrdersKeepOrder, PostOrdersReach}
use Rattle.wit_digraph.specs.Relation.{IsAcyclic, IsPath, direct}
use Rattle.wit_digraph.specs.PostOrder.{first_of_each, post_order}
use Rattle.wit_graph_data.specs.Queries.{package_uses}
use Rattle.wit_queries.specs.laws.PackageOrder.{IsOrder, PackagesAreInOrder}
use Rattle.wit_queries.proofs.PackageRows.{length-rows, range-below}

-- the number is among those from 0 on
among_range : (n i : ℕ) → i < n → Contains (range_with_len 0 n) i
among_range n i below =
    let long : length (range_with_len 0 n) ≡ n = length-range_with_len 0 n in
    let here : get_or (range_with_len 0 n) i i ≡ 0 + i = get_or-range_with_len 0 n i i below in
    (i, omega (arith, long, below), omega (arith, here))

module _ (uses : List (List ℕ)) (acyclic : IsAcyclic uses) where
  -- what a path reaches from what is there is there
  reached_within : (i : ℕ) (path : List ℕ) (j : ℕ) → i < length uses → IsPath uses i path j → j < length uses
  reached_within i [] j here is = subst (λ k. k < length uses) is here
  reached_within i (k ∷ path) j here steps = reached_within k path j (All-contains (λ l. l < length uses) (direct uses i) k (acyclic.in_range i) steps.0) steps.1

  module _ (reach : PostOrdersReach) (keep : PostOrdersKeepOrder) (once : (xs : List ℕ) → FirstsAreOnce xs) where
    in_order : (count : ℕ) → length uses ≡ count → IsOrder uses count (first_of_each (flat_map (post_order uses) (range_with_len 0 count)))
    in_order count long =
        let below : All (λ i. i < length uses) (range_with_len 0 count) = subst (λ n. All (λ i. i < n) (range_with_len 0 count)) (sym long) (range-below count) in
        record {
          all = λ i. (
            λ has. let from = (reach uses (range_with_len 0 count) i acyclic below).0 has in
                subst (λ n. i < n) long (reached_within from.0 from.2.0 i (All-contains (λ l. l < length uses) (range_with_len 0 count) from.0 below from.1) from.2.1),
            λ here. (reach uses (range_with_len 0 count) i acyclic below).1 (i, among_range count i here, ([], refl)),
          );
          once = (once (flat_map (post_order uses) (range_with_len 0 count))).distinct;
          dependencies_first = keep uses (range_with_len 0 count) acyclic below;
        }

pub packages_are_in_order : PostOrdersReach → PostOrdersKeepOrder → ((xs : List ℕ) → FirstsAreOnce xs) → PackagesAreInOrder
packages_are_in_order reach keep once types interfaces worlds packages acyclic =
    in_order (package_uses types interfaces worlds packages) acyclic reach keep once (length packages) (length-rows types interfaces worlds packages)
