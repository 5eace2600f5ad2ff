use Rattle.std.proofs.Common.{rules}
use Rattle.wit_core_names.proofs.legacy.legacy_import.Goals as goal

pub returns-in_ok-format-in-Func-clause-names : goal.returns-in_ok-format-in-Func-clause-names
returns-in_ok-format-in-Func-clause-names c = search rules
