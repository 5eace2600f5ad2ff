use Rattle.std.proofs.Common.{rules}
use Rattle.wit_queries.proofs.interface_deps.are_uses_acyclic.Goals as goal

pub returns : goal.returns
returns c = search rules
