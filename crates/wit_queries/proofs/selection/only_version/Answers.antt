use Rattle.std.proofs.Common.{rules}
use Rattle.wit_queries.proofs.selection.only_version.Goals as goal

pub returns-in-None : goal.returns-in-None
returns-in-None c = search rules
