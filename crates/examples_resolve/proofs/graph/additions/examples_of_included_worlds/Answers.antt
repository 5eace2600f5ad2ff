use Rattle.examples_resolve.proofs.OfGraphs.Computed.{included_worlds}
use Rattle.examples_resolve.proofs.graph.additions.examples_of_included_worlds.Goals as goal

pub returns : goal.returns
returns c = included_worlds
