use Rattle.wit_elaboration.proofs.WorldExamples.{worked_elaborations}
use Rattle.wit_elaboration.proofs.laws.worked_elaborations.Goals as goal

pub returns : goal.returns
returns c = worked_elaborations
