use Rattle.std.proofs.Common.{rules}
use Rattle.wit_labels.proofs.strong.class_named.Goals as goal

pub returns-then-eq-3 : goal.returns-then-eq-3
returns-then-eq-3 c = search rules
