use Rattle.wit_elaboration.proofs.WorldExamples.{worked_conflicts}
use Rattle.wit_elaboration.proofs.laws.worked_conflicts.Goals as goal

pub returns : goal.returns
returns c = worked_conflicts
