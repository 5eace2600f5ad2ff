use Rattle.examples_resolve.proofs.OfGraphs.GroupOrders.{orders}
use Rattle.examples_resolve.proofs.graph.groups.examples_of_orders.Goals as goal

pub returns : goal.returns
returns c = orders
