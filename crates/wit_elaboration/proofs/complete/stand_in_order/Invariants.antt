use Rattle.std.proofs.Common.{◌≡◌}
use Rattle.wit_elaboration.proofs.CompleteWorlds.{StandOn}
use Rattle.wit_elaboration.proofs.complete.stand_in_order.Given as goal

abbrev pub invariant-loop-key : goal.invariant-loop-key
invariant-loop-key l = record {
  on : StandOn l.types l.uses l.imported.order l.key-iterator l.imports;
  nodes : l.imported.nodes ≡ l.fn.imported.nodes;
}
