use Rattle.std.proofs.Common.{rules}
use Rattle.wit_values.proofs.items.Items.append.Goals as goal

pub returns-clause-ok : goal.returns-clause-ok
returns-clause-ok g c = search rules

pub returns-clause-unchanged : goal.returns-clause-unchanged
returns-clause-unchanged g c = search rules
