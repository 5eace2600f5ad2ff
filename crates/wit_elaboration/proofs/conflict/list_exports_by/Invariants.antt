use Rattle.std.proofs.Common.{◌≡◌, ◌++◌}
use Rattle.wit_elaboration.specs.steps.Elaborating.{IsPostOrder}
use Rattle.wit_digraph.specs.PostOrder.{first_of_each, fresh}
use Rattle.wit_elaboration.proofs.ExportSteps.{all_needs}
use Rattle.wit_elaboration.proofs.conflict.list_exports_by.Given as goal

-- what was walked, and what is left to walk
abbrev pub invariant-loop-item : goal.invariant-loop-item
invariant-loop-item l = record {
  order_is : l.walked.order ++ fresh l.walked.order (all_needs l.uses l.item-iterator)
      ≡ first_of_each (all_needs l.uses l.exports);
  is_walk : IsPostOrder l.uses l.walked;
}
