use Rattle.examples_resolve.proofs.OfGraphs.WorkedGraphs.{worked}
use Rattle.examples_resolve.proofs.graph.additions.examples_of_worked.Goals as goal

pub returns : goal.returns
returns c = worked
