use Rattle.wit_script_explain.proofs.CommandLines.{at_lines}
use Rattle.wit_script_explain.proofs.laws.commands_have_places.Goals as goal

pub returns : goal.returns
returns c = at_lines
