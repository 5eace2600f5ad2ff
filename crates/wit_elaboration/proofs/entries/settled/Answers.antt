use Rattle.std.proofs.Common.{rules}
use Rattle.wit_elaboration.proofs.entries.settled.Goals as goal

pub returns : goal.returns
returns c = search rules
