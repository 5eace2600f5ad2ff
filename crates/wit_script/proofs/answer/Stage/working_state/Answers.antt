use Rattle.std.proofs.Common.{rules}
use Rattle.wit_script.proofs.answer.Stage.working_state.Goals as goal

pub returns-in-Some : goal.returns-in-Some
returns-in-Some c = search rules
