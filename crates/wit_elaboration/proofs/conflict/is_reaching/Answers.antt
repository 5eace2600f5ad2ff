use Rattle.std.proofs.Common.{rules}
use Rattle.wit_elaboration.proofs.conflict.is_reaching.Goals as goal

pub returns-else-has : goal.returns-else-has
returns-else-has c = search rules
