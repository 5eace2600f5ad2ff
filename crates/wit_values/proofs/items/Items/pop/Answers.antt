use Rattle.std.proofs.Common.{rules}
use Rattle.wit_values.proofs.items.Items.pop.Goals as goal

pub returns-clause-empty : goal.returns-clause-empty
returns-clause-empty g c = search rules
