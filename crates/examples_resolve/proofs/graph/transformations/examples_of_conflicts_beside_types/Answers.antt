use Rattle.examples_resolve.proofs.OfGraphs.Chained.{conflicts_are}
use Rattle.examples_resolve.proofs.graph.transformations.examples_of_conflicts_beside_types.Goals as goal

pub returns : goal.returns
returns c = conflicts_are
