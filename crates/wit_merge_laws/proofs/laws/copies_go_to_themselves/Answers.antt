use Rattle.wit_merge_laws.specs.facts.SelfFacts.{stays_itself}
use Rattle.wit_merge_laws.proofs.laws.copies_go_to_themselves.Goals as goal

pub returns : goal.returns
returns c = stays_itself
