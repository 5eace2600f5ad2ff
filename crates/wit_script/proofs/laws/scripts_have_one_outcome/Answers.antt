use Rattle.wit_script.proofs.OneOutcome.{told-once}
use Rattle.wit_script.proofs.laws.scripts_have_one_outcome.Goals as goal

pub returns : goal.returns
returns c = told-once
