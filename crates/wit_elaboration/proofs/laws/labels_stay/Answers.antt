use Rattle.wit_elaboration.proofs.Labels.{labels_stay}
use Rattle.wit_elaboration.proofs.laws.labels_stay.Goals as goal

pub returns : goal.returns
returns c = labels_stay
