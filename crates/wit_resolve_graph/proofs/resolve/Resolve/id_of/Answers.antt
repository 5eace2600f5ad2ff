use Rattle.std.proofs.Common.{rules}
use Rattle.wit_resolve_graph.proofs.resolve.Resolve.id_of.Goals as goal

pub returns-clause-text : goal.returns-clause-text
returns-clause-text c = search rules

pub returns-clause-memory : goal.returns-clause-memory
returns-clause-memory c = search rules
