use Rattle.std.proofs.Common.{◌≡◌, ◌++◌}
use Rattle.wit_digraph.specs.PostOrder.{first_of_each, fresh}
use Rattle.wit_elaboration.proofs.conflict.list_exported.Given as goal
use Rattle.wit_elaboration.specs.steps.Parts.{exported_keys}

-- those so far, and those that are left
abbrev pub invariant-loop-key : goal.invariant-loop-key
invariant-loop-key l = record {
  order_is : l.exported.order ++ fresh l.exported.order (exported_keys l.key-iterator)
      ≡ first_of_each (exported_keys l.exports);
  nodes : l.exported.nodes ≡ l.fn.exported.nodes;
}
