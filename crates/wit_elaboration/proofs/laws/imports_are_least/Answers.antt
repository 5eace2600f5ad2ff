use Rattle.wit_elaboration.proofs.LeastImports.{imports_are_least}
use Rattle.wit_elaboration.proofs.laws.imports_are_least.Goals as goal

pub returns : goal.returns
returns c = imports_are_least
