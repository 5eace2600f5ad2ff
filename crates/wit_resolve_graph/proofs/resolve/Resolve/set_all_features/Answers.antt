use Rattle.std.proofs.Common.{rules}
use Rattle.wit_resolve_graph.proofs.resolve.Resolve.set_all_features.Goals as goal

pub returns : goal.returns
returns c = search rules
