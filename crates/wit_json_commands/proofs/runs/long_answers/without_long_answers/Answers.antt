use Rattle.std.proofs.Common.{IfOk}
use Rattle.wit_json_commands.proofs.WithdrawnAnswers.{as_well}
use Rattle.wit_json_commands.proofs.runs.long_answers.without_long_answers.Goals as goal

pub returns-then-any : goal.returns-then-any
returns-then-any c = record { ok = as_well c.args.replies c.withdrawn_all.result c.withdrawn_all.ensures }
