use Rattle.std.proofs.Common.{rules}
use Rattle.wit_labels.proofs.setters.is_setter_label.Goals as goal

pub returns-then-has_group : goal.returns-then-has_group
returns-then-has_group c = search rules

pub returns-else-has_group : goal.returns-else-has_group
returns-else-has_group c = search rules
