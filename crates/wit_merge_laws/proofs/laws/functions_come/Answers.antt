use Rattle.wit_merge_laws.specs.facts.GrownFunctions.{functions_come}
use Rattle.wit_merge_laws.proofs.laws.functions_come.Goals as goal

pub returns : goal.returns
returns c = functions_come
