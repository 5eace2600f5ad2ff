use Rattle.examples_resolve.proofs.OfGraphs.OneFilePlaces.{one_file}
use Rattle.examples_resolve.proofs.graph.places.positions_are_of_one_file.Goals as goal

pub returns : goal.returns
returns c = one_file
