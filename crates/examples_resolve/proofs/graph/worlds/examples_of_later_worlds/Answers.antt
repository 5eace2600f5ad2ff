use Rattle.examples_resolve.proofs.OfGraphs.LaterWorlds.{later_worlds}
use Rattle.examples_resolve.proofs.graph.worlds.examples_of_later_worlds.Goals as goal

pub returns : goal.returns
returns c = later_worlds
