use Rattle.std.proofs.Common.{rules}
use Rattle.wit_remap.proofs.remap.Remap.map_type.Goals as goal

pub returns-clause-found : goal.returns-clause-found
returns-clause-found c = search rules

pub returns-clause-refuses : goal.returns-clause-refuses
returns-clause-refuses c = search rules
