use Rattle.examples_resolve.proofs.OfGraphs.GateCauses.{causes}
use Rattle.examples_resolve.proofs.graph.causes.examples_of_causes.Goals as goal

pub returns : goal.returns
returns c = causes
