use Rattle.std.proofs.Common.{rules}
use Rattle.wit_core_names.proofs.legacy.legacy_export.Goals as goal

pub returns-in-Func-clause-name : goal.returns-in-Func-clause-name
returns-in-Func-clause-name c = search rules
