use Rattle.examples_resolve.proofs.OfGraphs.ShapeMisses.{near_misses}
use Rattle.examples_resolve.proofs.graph.shape.near_misses_of_shape.Goals as goal

pub returns : goal.returns
returns c = near_misses
