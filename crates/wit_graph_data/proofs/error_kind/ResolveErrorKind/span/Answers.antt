use Rattle.std.proofs.Common.{rules}
use Rattle.wit_graph_data.proofs.error_kind.ResolveErrorKind.span.Goals as goal

pub returns-in-DuplicatePackage : goal.returns-in-DuplicatePackage
returns-in-DuplicatePackage c = search rules
