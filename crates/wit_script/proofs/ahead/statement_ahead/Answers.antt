use Rattle.std.proofs.Common.{rules}
use Rattle.wit_script.proofs.ahead.statement_ahead.Goals as goal

pub returns-in-Push : goal.returns-in-Push
returns-in-Push c = search rules
