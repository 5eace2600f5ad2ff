use Rattle.std.proofs.Common.{rules}
use Rattle.wit_script.proofs.ahead.line_ahead.Goals as goal

pub returns-in-Ok : goal.returns-in-Ok
returns-in-Ok c = search rules
