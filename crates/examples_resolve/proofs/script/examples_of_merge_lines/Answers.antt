use Rattle.examples_resolve.proofs.OfScripts.Others.{merge_lines}
use Rattle.examples_resolve.proofs.script.examples_of_merge_lines.Goals as goal

pub returns : goal.returns
returns c = merge_lines
