use Rattle.wit_resolve_graph.proofs.RunsKeep.{runs_keep}
use Rattle.wit_resolve_graph.proofs.laws.runs_keep.Goals as goal

pub returns : goal.returns
returns c = runs_keep c.semver_merges_keep.ensures
