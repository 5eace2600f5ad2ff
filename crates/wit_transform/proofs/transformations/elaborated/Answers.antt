use Rattle.std.proofs.Common.{rules}
use Rattle.wit_transform.proofs.transformations.elaborated.Goals as goal

pub returns-clause-ok : goal.returns-clause-ok
returns-clause-ok c = search rules
