use Rattle.wit_queries.proofs.PackagesOrdered.{packages_are_in_order}
use Rattle.wit_queries.proofs.laws.packages_are_in_order.Goals as goal

pub returns : goal.returns
returns c = packages_are_in_order c.post_orders_reach.ensures c.post_orders_keep_order.ensures c.firsts_are_once.ensures
