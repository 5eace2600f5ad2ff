use Rattle.examples_resolve.proofs.OfGraphs.Shaped.{is_shaped}
use Rattle.examples_resolve.proofs.graph.shape.examples_of_shape.Goals as goal

pub returns : goal.returns
returns c = is_shaped
