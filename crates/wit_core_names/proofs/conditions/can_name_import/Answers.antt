use Rattle.std.proofs.Common.{rules}
use Rattle.wit_core_names.proofs.conditions.can_name_import.Goals as goal

pub returns-after-type_has_name-clause-told : goal.returns-after-type_has_name-clause-told
returns-after-type_has_name-clause-told c = search rules
