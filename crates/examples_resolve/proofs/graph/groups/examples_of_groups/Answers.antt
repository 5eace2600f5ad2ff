use Rattle.examples_resolve.proofs.OfGraphs.GroupOrders.{groups}
use Rattle.examples_resolve.proofs.graph.groups.examples_of_groups.Goals as goal

pub returns : goal.returns
returns c = groups
