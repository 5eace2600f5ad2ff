use Rattle.examples_resolve.proofs.OfGraphs.Computed.{values}
use Rattle.examples_resolve.proofs.graph.additions.examples_of_values.Goals as goal

pub returns : goal.returns
returns c = values
