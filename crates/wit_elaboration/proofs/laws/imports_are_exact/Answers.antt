use Rattle.wit_elaboration.proofs.WorldLaws.{imports_are_exact}
use Rattle.wit_elaboration.proofs.laws.imports_are_exact.Goals as goal

pub returns : goal.returns
returns c = imports_are_exact
