use Rattle.wit_elaboration.proofs.SortedClasses.{RisesOn}
use Rattle.wit_elaboration.proofs.imports.are_sorted.Given as goal

abbrev pub invariant-loop-item : goal.invariant-loop-item
invariant-loop-item l = RisesOn l.types l.class l.item-iterator l.entries
