use Rattle.std.proofs.Common.{rules}
use Rattle.wit_graph_data.proofs.cause.Cause.number.Goals as goal

pub returns-in-Excluded : goal.returns-in-Excluded
returns-in-Excluded c = search rules
