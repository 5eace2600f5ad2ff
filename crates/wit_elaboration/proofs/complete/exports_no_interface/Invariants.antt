use Rattle.wit_data.specs.facts.YieldedFacts.{LeftDecide}
use Rattle.wit_elaboration.proofs.CompleteWorlds.{HoldsNone}
use Rattle.wit_elaboration.proofs.complete.exports_no_interface.Given as goal

-- those that are left decide
abbrev pub invariant-loop-item : goal.invariant-loop-item
invariant-loop-item l = LeftDecide HoldsNone l.item-iterator l.exports
