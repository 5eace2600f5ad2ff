use Rattle.std.proofs.Common.{rules}
use Rattle.wit_core_names.proofs.standard.standard_resource.Goals as goal

pub returns-clause-names : goal.returns-clause-names
returns-clause-names c = search rules
