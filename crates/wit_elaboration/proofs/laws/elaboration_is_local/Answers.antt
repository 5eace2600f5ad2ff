use Rattle.wit_elaboration.proofs.GrowingElaboration.{elaboration_is_local}
use Rattle.wit_elaboration.proofs.laws.elaboration_is_local.Goals as goal

pub returns : goal.returns
returns c = elaboration_is_local
