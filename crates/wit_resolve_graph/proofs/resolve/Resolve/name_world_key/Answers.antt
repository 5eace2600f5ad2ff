use Rattle.std.proofs.Common.{rules}
use Rattle.wit_resolve_graph.proofs.resolve.Resolve.name_world_key.Goals as goal

pub returns-clause-text : goal.returns-clause-text
returns-clause-text c = search rules
