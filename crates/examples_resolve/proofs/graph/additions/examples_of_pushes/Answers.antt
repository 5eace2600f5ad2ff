use Rattle.examples_resolve.proofs.OfGraphs.Computed.{pushes}
use Rattle.examples_resolve.proofs.graph.additions.examples_of_pushes.Goals as goal

pub returns : goal.returns
returns c = pushes
