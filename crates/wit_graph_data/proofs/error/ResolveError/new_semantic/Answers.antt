use Rattle.std.proofs.Common.{rules}
use Rattle.wit_graph_data.proofs.error.ResolveError.new_semantic.Goals as goal

pub returns : goal.returns
returns c = search rules
