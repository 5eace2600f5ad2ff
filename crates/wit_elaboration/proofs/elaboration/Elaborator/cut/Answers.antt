use Rattle.std.proofs.Common.{rules}
use Rattle.wit_elaboration.proofs.elaboration.Elaborator.cut.Goals as goal

pub returns : goal.returns
returns c = search rules
