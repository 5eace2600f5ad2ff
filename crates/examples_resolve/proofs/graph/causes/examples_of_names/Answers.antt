use Rattle.examples_resolve.proofs.OfGraphs.NameCauses.{names}
use Rattle.examples_resolve.proofs.graph.causes.examples_of_names.Goals as goal

pub returns : goal.returns
returns c = names
