use Rattle.wit_elaboration.proofs.ElaboratedKeys.{elaborated_once}
use Rattle.wit_elaboration.proofs.laws.elaborated_once.Goals as goal

pub returns : goal.returns
returns c = elaborated_once
