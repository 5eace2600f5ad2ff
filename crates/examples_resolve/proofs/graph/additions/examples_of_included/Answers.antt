use Rattle.examples_resolve.proofs.OfGraphs.Computed.{included}
use Rattle.examples_resolve.proofs.graph.additions.examples_of_included.Goals as goal

pub returns : goal.returns
returns c = included
