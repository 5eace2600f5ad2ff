use Rattle.std.proofs.Common.{rules}
use Rattle.wit_validity.proofs.world_homes.is_named_or_of.Goals as goal

pub returns-else-is_some : goal.returns-else-is_some
returns-else-is_some c = search rules
