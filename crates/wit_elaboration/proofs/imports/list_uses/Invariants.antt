use Rattle.std.proofs.Common.{◌≡◌, ◌++◌, take}
use Rattle.std.specs.List.{flat_map}
use Rattle.wit_elaboration.specs.steps.Elaborating.{IsPostOrder}
use Rattle.wit_digraph.specs.Relation.{direct}
use Rattle.wit_digraph.specs.PostOrder.{fresh, post_order}
use Rattle.wit_elaboration.proofs.imports.list_uses.Given as goal

abbrev pub invariant-loop-used : goal.invariant-loop-used
invariant-loop-used l = record {
  is_walk : IsPostOrder l.uses l.walked;
  nodes : l.walked.nodes ≡ l.fn.walked.nodes;
  order_is : l.walked.order
      ≡ l.fn.walked.order
      ++ fresh l.fn.walked.order
      (flat_map (post_order l.uses) (take l.used-index (direct l.uses l.interface)));
}
