use Rattle.std.proofs.Common.{rules}
use Rattle.wit_resolve_graph.proofs.resolve.Resolve.add_feature.Goals as goal

pub returns-clause-ok : goal.returns-clause-ok
returns-clause-ok c = search rules
