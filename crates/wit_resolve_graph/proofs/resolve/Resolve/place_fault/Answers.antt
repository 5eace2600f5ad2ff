use Rattle.std.proofs.Common.{rules}
use Rattle.wit_resolve_graph.proofs.resolve.Resolve.place_fault.Goals as goal

pub returns-in-Ok : goal.returns-in-Ok
returns-in-Ok c = search rules
