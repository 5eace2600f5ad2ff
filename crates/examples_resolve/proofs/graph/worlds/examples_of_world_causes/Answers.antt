use Rattle.examples_resolve.proofs.OfGraphs.WorldCauses.{world_causes}
use Rattle.examples_resolve.proofs.graph.worlds.examples_of_world_causes.Goals as goal

pub returns : goal.returns
returns c = world_causes
