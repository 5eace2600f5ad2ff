use Rattle.std.proofs.Common.{◌∙◌, ap}
use Rattle.wit_ways.specs.Conflicts.{with_name}
use Rattle.wit_ways.proofs.conflict.same_labels.Goals as goal

pub returns : goal.returns
returns c = (c.in_ok-labels.labels, c.in_ok-labels.ensures, c.in_ok-insert.ensures.ok ∙ ap (with_name c.in_ok-labels.labels) c.as_str.ensures)
