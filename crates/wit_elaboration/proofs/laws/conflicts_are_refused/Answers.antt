use Rattle.wit_elaboration.proofs.RefusedKeys.{conflicts_are_refused}
use Rattle.wit_elaboration.proofs.laws.conflicts_are_refused.Goals as goal

pub returns : goal.returns
returns c = conflicts_are_refused
