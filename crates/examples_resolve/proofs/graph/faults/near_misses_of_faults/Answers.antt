use Rattle.examples_resolve.proofs.OfGraphs.FirstFaults.{near_misses}
use Rattle.examples_resolve.proofs.graph.faults.near_misses_of_faults.Goals as goal

pub returns : goal.returns
returns c = near_misses
