use Rattle.wit_resolve_graph.proofs.NamesInOrder.{runs_stay_in_order}
use Rattle.wit_resolve_graph.proofs.laws.runs_stay_in_order.Goals as goal

pub returns : goal.returns
returns c = runs_stay_in_order c.semver_merges_keep.ensures
