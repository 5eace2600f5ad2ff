use Rattle.std.proofs.Common.{rules}
use Rattle.wit_resolve_graph.proofs.resolve.Resolve.push_source_map.Goals as goal

pub returns-clause-ok : goal.returns-clause-ok
returns-clause-ok c = search rules

pub returns-clause-refuses : goal.returns-clause-refuses
returns-clause-refuses c = search rules
