use Rattle.std.proofs.Common.{ap, arith}
use Rattle.wit_digraph.specs.steps.PostOrder.{Listed}
use Rattle.wit_digraph.proofs.Stack.{first-root}
use Rattle.wit_digraph.proofs.post_order.post_order_of_roots.Goals as goal

pub loop-root-preserved : goal.loop-root-preserved
loop-root-preserved c = record {
  order_is =
      rw (first-root c.args.uses.now c.args.roots.now c.loop-root.root-index (omega arith), ← c.loop-root.invariant.order_is)
      (ap (λ (l : Listed). l.order) c.in_ok-list_post_order.ensures.ok);
  nodes = omega (arith, c.in_ok-list_post_order.ensures.nodes);
  uses_first = c.in_ok-list_post_order.ensures.uses_first;
}
