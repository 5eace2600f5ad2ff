use Rattle.wit_labels.proofs.Examples.{setters}
use Rattle.wit_labels.proofs.laws.examples_of_setters.Goals as goal

pub returns : goal.returns
returns c = setters
