use Rattle.std.proofs.Common.{rules}
use Rattle.wit_core_names.proofs.standard.standard_export.Goals as goal

pub returns-in-PostReturn-clause-name : goal.returns-in-PostReturn-clause-name
returns-in-PostReturn-clause-name c = search rules
