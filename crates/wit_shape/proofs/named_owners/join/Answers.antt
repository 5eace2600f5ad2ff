use Rattle.std.proofs.Common.{rules}
use Rattle.wit_shape.proofs.named_owners.join.Goals as goal

pub returns-in_default : goal.returns-in_default
returns-in_default c = search rules
