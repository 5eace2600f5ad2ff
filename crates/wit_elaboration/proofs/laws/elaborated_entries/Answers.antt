use Rattle.wit_elaboration.proofs.MadeEntries.{elaborated_entries}
use Rattle.wit_elaboration.proofs.laws.elaborated_entries.Goals as goal

pub returns : goal.returns
returns c = elaborated_entries
