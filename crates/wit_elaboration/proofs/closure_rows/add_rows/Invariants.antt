use Rattle.std.proofs.Common.{◌≡◌, ◌≤◌, ◌*◌, ◌^◌, take}
use Rattle.wit_elaboration.proofs.Closing.{IsClosing}
use Rattle.wit_elaboration.proofs.Counting.{counted}
use Rattle.wit_elaboration.proofs.closure_rows.add_rows.Given as goal

abbrev pub invariant-loop-node : goal.invariant-loop-node
invariant-loop-node l = record {
  closing : IsClosing l.uses l.rows (take l.node-index l.order);
  joins : l.joins ≡ counted l.uses 0 (take l.node-index l.order);
  few : l.joins ≤ l.node-index * 2 ^ 64;
}
