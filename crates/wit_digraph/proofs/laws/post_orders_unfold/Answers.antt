use Rattle.wit_digraph.proofs.PostOrderLaws.{post_orders_unfold}
use Rattle.wit_digraph.proofs.laws.post_orders_unfold.Goals as goal

pub returns : goal.returns
returns c = post_orders_unfold
