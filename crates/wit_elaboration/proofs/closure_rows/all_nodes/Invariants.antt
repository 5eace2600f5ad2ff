use Rattle.std.proofs.Common.{◌≡◌, ℕ, ◌<◌, length, get_or}
use Rattle.wit_elaboration.proofs.closure_rows.all_nodes.Given as goal

abbrev pub invariant-loop-node : goal.invariant-loop-node
invariant-loop-node l = record {
  long : length l.all ≡ l.node;
  each : (k : ℕ) → k < l.node → get_or l.all k 0 ≡ k;
}
