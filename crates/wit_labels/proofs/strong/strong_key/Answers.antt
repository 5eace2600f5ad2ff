use Rattle.std.proofs.Common.{rules}
use Rattle.wit_labels.proofs.strong.strong_key.Goals as goal

pub returns : goal.returns
returns c = search rules
