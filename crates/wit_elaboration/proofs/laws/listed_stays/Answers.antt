use Rattle.wit_elaboration.proofs.ListedAgain.{listed_stays}
use Rattle.wit_elaboration.proofs.laws.listed_stays.Goals as goal

pub returns : goal.returns
returns c = listed_stays
