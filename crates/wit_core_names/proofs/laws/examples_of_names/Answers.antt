use Rattle.wit_core_names.proofs.ExamplesHold.{names}
use Rattle.wit_core_names.proofs.laws.examples_of_names.Goals as goal

pub returns : goal.returns
returns c = names
