use Rattle.std.proofs.Common.{refl}
use Rattle.wit_digraph.specs.PostOrder.{post_order, post_order_within}
use Rattle.wit_values.specs.facts.Lists.{differ}
use Rattle.examples_resolve.proofs.graph.orders.examples_of_package_order.Goals as goal

pub returns : goal.returns
unfolding post_order post_order_within
returns c = record {
  by_id = refl;
  not_reversed = differ _ _ refl;
  dependency_first = refl;
  not_by_id = differ _ _ refl;
  not_users_last = differ _ _ refl;
  not_used_alone = differ _ _ refl;
  not_again = differ _ _ refl;
  in_order = refl;
  not_in_order_of_ids = differ _ _ refl;
  row = refl;
  not_direct_alone = differ _ _ refl;
  of_a_world = refl;
  not_interfaces_alone = differ _ _ refl;
}
