use Rattle.wit_elaboration.proofs.Examples.{validity}
use Rattle.wit_elaboration.proofs.laws.examples_of_validity.Goals as goal

pub returns : goal.returns
returns c = validity
