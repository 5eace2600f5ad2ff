use Rattle.std.proofs.Common.{rules}
use Rattle.wit_transform.proofs.renaming.renamed.Goals as goal

pub returns-in_ok-format-in-None : goal.returns-in_ok-format-in-None
returns-in_ok-format-in-None c = search rules
