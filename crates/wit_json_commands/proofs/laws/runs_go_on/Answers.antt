use Rattle.wit_json_commands.proofs.GoesOn.{goes_on}
use Rattle.wit_json_commands.proofs.laws.runs_go_on.Goals as goal

pub returns : goal.returns
returns c = goes_on
