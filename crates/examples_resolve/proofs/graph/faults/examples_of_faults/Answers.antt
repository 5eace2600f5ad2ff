use Rattle.examples_resolve.proofs.OfGraphs.FirstFaults.{examples}
use Rattle.examples_resolve.proofs.graph.faults.examples_of_faults.Goals as goal

pub returns : goal.returns
returns c = examples
