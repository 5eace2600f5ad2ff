use Rattle.std.proofs.Common.{rules}
use Rattle.wit_remap.proofs.types.update_target.Goals as goal

pub returns-in-Id : goal.returns-in-Id
returns-in-Id g c = search rules
