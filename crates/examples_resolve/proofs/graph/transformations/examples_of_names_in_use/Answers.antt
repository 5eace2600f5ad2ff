use Rattle.examples_resolve.proofs.OfGraphs.TakenNames.{taken_names_are}
use Rattle.examples_resolve.proofs.graph.transformations.examples_of_names_in_use.Goals as goal

pub returns : goal.returns
returns c = taken_names_are
