use Rattle.std.proofs.Common.{rules}
use Rattle.wit_core_names.proofs.legacy.value_field.Goals as goal

pub returns-clause-text : goal.returns-clause-text
returns-clause-text c = search rules
