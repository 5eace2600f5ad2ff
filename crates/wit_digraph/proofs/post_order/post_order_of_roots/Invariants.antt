use Rattle.std.proofs.Common.{◌≡◌, [], length, take}
use Rattle.std.specs.List.{flat_map}
use Rattle.wit_digraph.specs.PostOrder.{first_of_each, post_order}
use Rattle.wit_digraph.specs.steps.PostOrder.{UsesFirst}
use Rattle.wit_digraph.proofs.post_order.post_order_of_roots.Given as goal

abbrev pub invariant-loop-root : goal.invariant-loop-root
invariant-loop-root l = record {
  order_is : l.listing.order
      ≡ first_of_each (flat_map (post_order l.uses) (take l.root-index l.roots));
  nodes : l.listing.nodes ≡ length l.uses;
  uses_first : UsesFirst l.uses [] l.listing.order;
}
