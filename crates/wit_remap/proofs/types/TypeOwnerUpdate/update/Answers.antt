use Rattle.std.proofs.Common.{rules}
use Rattle.wit_remap.proofs.types.TypeOwnerUpdate.update.Goals as goal

pub returns-in-Interface : goal.returns-in-Interface
returns-in-Interface g c = search rules
