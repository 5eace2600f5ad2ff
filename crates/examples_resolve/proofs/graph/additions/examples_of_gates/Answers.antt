use Rattle.examples_resolve.proofs.OfGraphs.Computed.{gates}
use Rattle.examples_resolve.proofs.graph.additions.examples_of_gates.Goals as goal

pub returns : goal.returns
returns c = gates
