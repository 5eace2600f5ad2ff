use Rattle.std.proofs.Common.{rules}
use Rattle.wit_queries.proofs.canonical.version_suffix_of.Goals as goal

pub returns-clause-text : goal.returns-clause-text
returns-clause-text c = search rules
