use Rattle.std.proofs.Common.{rules}
use Rattle.wit_transform.proofs.functions.param_mismatch.Goals as goal

pub returns-clause-none : goal.returns-clause-none
returns-clause-none c = search rules

pub returns-then-ne-clause-some : goal.returns-then-ne-clause-some
returns-then-ne-clause-some c = search rules
