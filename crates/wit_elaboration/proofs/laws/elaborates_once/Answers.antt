use Rattle.wit_elaboration.proofs.WorldLaws.{elaborates_once}
use Rattle.wit_elaboration.proofs.laws.elaborates_once.Goals as goal

pub returns : goal.returns
returns c = elaborates_once
