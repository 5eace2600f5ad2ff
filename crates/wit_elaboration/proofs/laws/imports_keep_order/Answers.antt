use Rattle.wit_elaboration.proofs.WorldLaws.{imports_keep_order}
use Rattle.wit_elaboration.proofs.laws.imports_keep_order.Goals as goal

pub returns : goal.returns
returns c = imports_keep_order
