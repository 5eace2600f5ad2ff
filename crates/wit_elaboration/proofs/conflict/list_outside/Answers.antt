use Rattle.std.proofs.Common.{ap, ◌∙◌, arith}
use Rattle.wit_digraph.specs.steps.PostOrder.{Listed}
use Rattle.wit_elaboration.proofs.Marking.{outside_more, outside_same}
use Rattle.wit_elaboration.proofs.conflict.list_outside.Goals.{then-is_outside+in_ok-add_node, else-is_outside}
use Rattle.wit_elaboration.proofs.conflict.list_outside.Goals as goal

pub loop-node-preserved : goal.loop-node-preserved
loop-node-preserved c =
    elim c.if-is_outside.branch [
      | then-is_outside+in_ok-add_node w ↦ record {
        are_outside =
            outside_more c.args.order.now c.args.reaching.now.order c.args.exported.now.order c.loop-node.node-index (omega arith) c.loop-node.outside.order c.if-is_outside.outside.order
            c.loop-node.invariant.are_outside (c.is_outside.ensures.0 w.if-is_outside.true) (ap (λ (l : Listed). l.order) w.outside-is ∙ w.in_ok-add_node.ensures.ok);
        nodes = ap (λ (l : Listed). l.nodes) w.outside-is ∙ w.in_ok-add_node.ensures.nodes ∙ c.loop-node.invariant.nodes;
      }
      | else-is_outside w ↦ record {
        are_outside =
            outside_same c.args.order.now c.args.reaching.now.order c.args.exported.now.order c.loop-node.node-index (omega arith) c.loop-node.outside.order c.if-is_outside.outside.order
            c.loop-node.invariant.are_outside (λ is. let on = c.is_outside.ensures.1 is in let off = w.if-is_outside.false in cc) (ap (λ (l : Listed). l.order) w.outside-is);
        nodes = ap (λ (l : Listed). l.nodes) w.outside-is ∙ c.loop-node.invariant.nodes;
      }
    ]
