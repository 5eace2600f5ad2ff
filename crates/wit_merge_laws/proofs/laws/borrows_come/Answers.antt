use Rattle.wit_merge_laws.specs.facts.GrownFunctions.{borrows_come}
use Rattle.wit_merge_laws.proofs.laws.borrows_come.Goals as goal

pub returns : goal.returns
returns c = borrows_come
