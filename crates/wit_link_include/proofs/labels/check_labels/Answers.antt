use Rattle.std.proofs.Common.{rules}
use Rattle.wit_link_include.proofs.labels.check_labels.Goals as goal

pub returns-clause-fine : goal.returns-clause-fine
returns-clause-fine c = search rules

pub returns-clause-cause : goal.returns-clause-cause
returns-clause-cause c = search rules
