use Rattle.std.proofs.Common.{rules}
use Rattle.wit_graph_data.proofs.error.ResolveError.number.Goals as goal

pub returns-in-StabilityMismatch : goal.returns-in-StabilityMismatch
returns-in-StabilityMismatch c = search rules
