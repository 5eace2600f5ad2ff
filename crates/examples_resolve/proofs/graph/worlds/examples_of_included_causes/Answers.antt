use Rattle.examples_resolve.proofs.OfGraphs.Brought.{included_causes}
use Rattle.examples_resolve.proofs.graph.worlds.examples_of_included_causes.Goals as goal

pub returns : goal.returns
returns c = included_causes
