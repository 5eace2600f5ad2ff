use Rattle.wit_labels.proofs.SetterSteps.{HaveGettersBelow}
use Rattle.wit_labels.proofs.setters.find_setter_without_getter.Given as goal

abbrev pub invariant-loop-index : goal.invariant-loop-index
invariant-loop-index l = HaveGettersBelow l.entries l.index
