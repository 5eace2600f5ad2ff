use Rattle.examples_resolve.proofs.OfGraphs.Computed.{includes}
use Rattle.examples_resolve.proofs.graph.additions.examples_of_includes.Goals as goal

pub returns : goal.returns
returns c = includes
