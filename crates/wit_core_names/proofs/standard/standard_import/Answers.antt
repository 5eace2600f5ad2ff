use Rattle.std.proofs.Common.{rules}
use Rattle.wit_core_names.proofs.standard.standard_import.Goals as goal

pub returns-in_ok-from_str-in-Func-clause-names : goal.returns-in_ok-from_str-in-Func-clause-names
returns-in_ok-from_str-in-Func-clause-names c = search rules
