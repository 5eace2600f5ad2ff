use Rattle.std.proofs.Common.{rules}
use Rattle.wit_transform.proofs.transformations.free_name.Goals as goal

pub returns-clause-free : goal.returns-clause-free
returns-clause-free c = search rules
