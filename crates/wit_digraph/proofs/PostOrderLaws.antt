-- The laws of post-orders.
use Rattle.std.proofs.Common.{ℕ, ◌<◌, List, [], length}
use Rattle.std.specs.List.{flat_map}
use Rattle.std.proofs.lemmas.List.Elements.{All-contains}
use Rattle.wit_digraph.specs.facts.MemberFacts.{Contains-flat_map, Contains-flat_map_cases}
use Rattle.wit_digraph.specs.facts.PostOrderFacts.{post_order_is, post_order-from_IsPath, Reaches-from_post_order, UsesFirst-post_order, UsesFirst-flat_map}
use Rattle.wit_digraph.specs.facts.FreshFacts.{fresh_in, fresh_all, IsDistinct-fresh, UsesFirst-fresh}
use Rattle.wit_digraph.specs.PostOrder.{post_order}
use Rattle.wit_digraph.specs.laws.Laws.{FirstsAreOnce, PostOrdersUnfold, PostOrdersReach, PostOrdersKeepOrder}

pub post_orders_unfold : PostOrdersUnfold
post_orders_unfold uses i acyclic here = post_order_is uses acyclic i here

pub post_orders_reach : PostOrdersReach
post_orders_reach uses roots j acyclic in_range = (
  λ has. let part = Contains-flat_map_cases (post_order uses) roots j (fresh_in [] _ j has) in
      (part.0, part.1.0, Reaches-from_post_order uses acyclic part.0 (All-contains (λ i. i < length uses) roots part.0 in_range part.1.0) j part.1.1),
  λ reached. fresh_all [] (flat_map (post_order uses) roots) j
      (Contains-flat_map (post_order uses) roots reached.0 j reached.1 (post_order-from_IsPath uses acyclic reached.0 reached.2.0 j (All-contains (λ i. i < length uses) roots reached.0 in_range reached.1) reached.2.1)),
)

pub post_orders_keep_order : PostOrdersKeepOrder
post_orders_keep_order uses roots acyclic in_range =
    UsesFirst-fresh uses (flat_map (post_order uses) roots) [] [] (λ j has. has)
    (UsesFirst-flat_map uses roots [] (λ j among. UsesFirst-post_order uses acyclic j (All-contains (λ i. i < length uses) roots j in_range among)))

pub firsts_are_once : (xs : List ℕ) → FirstsAreOnce xs
firsts_are_once xs = record {
  distinct = IsDistinct-fresh [] xs;
  same_members = λ x. (fresh_in [] xs x, fresh_all [] xs x);
}
