use Rattle.std.proofs.Common.{ap, ◌∙◌, arith}
use Rattle.wit_digraph.specs.steps.PostOrder.{Listed}
use Rattle.wit_elaboration.proofs.Marking.{marked_more, marked_same}
use Rattle.wit_elaboration.proofs.conflict.mark_reaching.Goals.{then-is_reaching+in_ok-add_node, else-is_reaching}
use Rattle.wit_elaboration.proofs.conflict.mark_reaching.Goals as goal

pub loop-node-preserved : goal.loop-node-preserved
loop-node-preserved c =
    elim c.if-is_reaching.branch [
      | then-is_reaching+in_ok-add_node w ↦ record {
        are_marked =
            marked_more c.args.uses.now c.args.order.now c.args.targets.now.order c.requires.uses_first c.loop-node.node-index (omega arith) c.loop-node.marked.order c.if-is_reaching.marked.order
            c.loop-node.invariant.are_marked (c.is_reaching.ensures.0 w.if-is_reaching.true) (ap (λ (l : Listed). l.order) w.marked-is ∙ w.in_ok-add_node.ensures.ok);
        nodes = ap (λ (l : Listed). l.nodes) w.marked-is ∙ w.in_ok-add_node.ensures.nodes ∙ c.loop-node.invariant.nodes;
      }
      | else-is_reaching w ↦ record {
        are_marked =
            marked_same c.args.uses.now c.args.order.now c.args.targets.now.order c.requires.uses_first c.loop-node.node-index (omega arith) c.loop-node.marked.order c.if-is_reaching.marked.order
            c.loop-node.invariant.are_marked (λ reaches. let on = c.is_reaching.ensures.1 reaches in let off = w.if-is_reaching.false in cc) (ap (λ (l : Listed). l.order) w.marked-is);
        nodes = ap (λ (l : Listed). l.nodes) w.marked-is ∙ c.loop-node.invariant.nodes;
      }
    ]
