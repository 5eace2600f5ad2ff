use Rattle.std.proofs.Common.{rules}
use Rattle.wit_remap.proofs.remap.Remap.map_world.Goals as goal

pub returns-clause-cause : goal.returns-clause-cause
returns-clause-cause c = search rules
