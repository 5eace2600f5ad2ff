use Rattle.std.proofs.Common.{drop, length}
use Rattle.wit_labels.specs.steps.Placing.{IsRing, order_from}
use Rattle.wit_labels.proofs.placing.next_indices.Given as goal

-- the ring of the indices from one on
abbrev pub invariant-loop-index : goal.invariant-loop-index
invariant-loop-index l =
    IsRing l.next (order_from l.index (drop l.index l.getters)) (length l.getters)
