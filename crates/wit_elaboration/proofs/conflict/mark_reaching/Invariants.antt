use Rattle.std.proofs.Common.{◌≡◌, take}
use Rattle.wit_elaboration.specs.steps.Elaborating.{AreMarked}
use Rattle.wit_elaboration.proofs.conflict.mark_reaching.Given as goal

abbrev pub invariant-loop-node : goal.invariant-loop-node
invariant-loop-node l = record {
  are_marked : AreMarked l.uses (take l.node-index l.order) l.targets.order l.marked.order;
  nodes : l.marked.nodes ≡ l.fn.marked.nodes;
}
