use Rattle.std.proofs.Common.{rules}
use Rattle.wit_resolve_graph.proofs.groups.place_group.Goals as goal

pub returns-clause-files : goal.returns-clause-files
returns-clause-files c = search rules

pub returns-clause-fits : goal.returns-clause-fits
returns-clause-fits c = search rules
