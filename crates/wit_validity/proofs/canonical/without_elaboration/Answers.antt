use Rattle.std.proofs.Common.{rules}
use Rattle.wit_validity.proofs.canonical.without_elaboration.Goals as goal

pub returns-then-matches-clause-memory : goal.returns-then-matches-clause-memory
returns-then-matches-clause-memory c = search rules

pub returns-clause-holds : goal.returns-clause-holds
returns-clause-holds c = search rules
