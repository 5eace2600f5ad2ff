use Rattle.examples_resolve.proofs.OfScripts.Others.{others}
use Rattle.examples_resolve.proofs.script.examples_of_other_lines.Goals as goal

pub returns : goal.returns
returns c = others
