use Rattle.std.proofs.Common.{◌≡◌, take}
use Rattle.wit_elaboration.specs.steps.Elaborating.{AreOutside}
use Rattle.wit_elaboration.proofs.conflict.list_outside.Given as goal

abbrev pub invariant-loop-node : goal.invariant-loop-node
invariant-loop-node l = record {
  are_outside : AreOutside (take l.node-index l.order) l.reaching.order l.exported.order
      l.outside.order;
  nodes : l.outside.nodes ≡ l.fn.outside.nodes;
}
