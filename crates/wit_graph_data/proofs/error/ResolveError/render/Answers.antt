use Rattle.std.proofs.Common.{rules}
use Rattle.wit_graph_data.proofs.error.ResolveError.render.Goals as goal

pub returns-in-DuplicatePackage-clause-text : goal.returns-in-DuplicatePackage-clause-text
returns-in-DuplicatePackage-clause-text c = search rules
