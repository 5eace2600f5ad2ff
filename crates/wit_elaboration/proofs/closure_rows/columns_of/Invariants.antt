use Rattle.std.proofs.Common.{◌≡◌, length, take}
use Rattle.wit_elaboration.specs.steps.Closures.{HasColumnsOf}
use Rattle.wit_elaboration.proofs.closure_rows.columns_of.Given as goal

abbrev pub invariant-loop-node : goal.invariant-loop-node
invariant-loop-node l = record {
  wide : length l.columns.items ≡ 16;
  columns : HasColumnsOf (take l.node-index l.nodes) l.columns.items;
}
