use Rattle.std.proofs.Common.{rules}
use Rattle.wit_validity.proofs.cycles.has_no_cycles.Goals as goal

pub returns : goal.returns
returns c = search rules
