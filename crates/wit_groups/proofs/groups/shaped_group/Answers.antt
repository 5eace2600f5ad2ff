use Rattle.wit_groups.proofs.Shaped.{shaped}
use Rattle.wit_groups.proofs.groups.shaped_group.Goals as goal

pub returns-in-Ok-None-clause-shaped : goal.returns-in-Ok-None-clause-shaped
returns-in-Ok-None-clause-shaped c = shaped _ c.as_slice.result.now c.in-Ok-None.ensures c.in-Ok-None.field-0-is c.as_slice.ensures
